-- Every run of a hub is serializable: from the invariant.
use Rattle.std.proofs.Common.{◌≡◌, ℕ, ◌≤◌, Bool, true, false, cond, T, leb, ◌↔◌, List, [], ◌∷◌, ◌++◌, get_or, Some, None, Option, sym, refl, ap, ◌∙◌, subst₂, inl, inr, arith}
use mathlib.Core.Path.{fun_ext, transport}
use Rattle.std.proofs.lemmas.Bool.{leb-true}
use Rattle.std.proofs.lemmas.List.{ext_get_or}
use Rattle.graph.proofs.Paths.{path_map}
use Rattle.graph.specs.Paths.{Path, edge, Cycle, ◌∈◌, Distinct}
use Rattle.trace.specs.declared.act.Act.{Act}
use Rattle.trace.specs.declared.act.Act.TheVariants.{Read, Write}
use Rattle.history.specs.declared.holding.Holding.{Holding}
use Rattle.history.specs.declared.refusal.Refusal.{Refusal}
use Rattle.history.specs.declared.refusal.Refusal.TheVariants.{ClosesCycle}
use Rattle.history.specs.Refusals.{aborts}
use Rattle.history.specs.Acts.{Fate, after, fate, not_aborted, is_committed}
use Rattle.history.specs.Conflicts.{Access, accesses, Edge, Leads, SerialOrder}
use Rattle.history.specs.Serial.{RunsSerially, in_order}
use Rattle.history.specs.Machine.{State, made, jobs, rising, those, served, seen, closes_cycle, read, write, Answer, answered, done, refused, refusal, granted_answer, by_refusal, answer, has_committed, present, path}
use Rattle.history.specs.Runs.{acts_of, retired_of}
use Rattle.history.specs.Promises.{FreeFor, WouldCycle, RefusedForCycle, Serializable, EveryRunSerializable}
use Rattle.history.proofs.Lists.{true_not_false, T_true, true_T, mem, ∈-mem, ∈-dec, ∈-left, ∈-right, ∈-split, ∈-those, those-∈, distinct_those, distinct_rising, distinct_join, forward_join, forward_weaken}
use Rattle.history.proofs.Paths.{Drawn, path_sound, path_found, ordered, ordered_only, ordered_all, ordered_distinct, ordered_forward}
use Rattle.history.proofs.Replay.{Replay, kept, ByJobs, in_order_kept, leads_kept, replay_order, replay_serial}
use Rattle.history.proofs.Records.{Did, did_wrote, leads_more, met_did, fate_more, accesses_join}
use Rattle.history.proofs.Graphs.{Among}
use Rattle.history.proofs.Values.{laid}
use Rattle.history.proofs.Fates.{shown, not_mem, known_did}
use Rattle.history.proofs.Invariant.{runs_back, lives_listed, step, cycle_found, cycle_there}
use Rattle.history.proofs.Turns.{Holds, Barred, StepCases, barred, closing, granted, step_cases, inv_run, inv_made}

committed_fate : (f : Fate) → T (is_committed f) → f ≡ Fate.committed
committed_fate Fate.unopened t = absurd t
committed_fate Fate.running t = absurd t
committed_fate Fate.committed t = refl
committed_fate Fate.aborted t = absurd t

fate_committed : (f : Fate) → f ≡ Fate.committed → T (is_committed f)
fate_committed f e = rw e tt

not_kept : (f : Fate) → T (is_committed f) → T (not_aborted f)
not_kept Fate.unopened t = t
not_kept Fate.running t = tt
not_kept Fate.committed t = tt
not_kept Fate.aborted t = t

module _ (opening : List ℕ) (H : List Act) (R : List ℕ) (st : State) (v : Holds opening H R st) where
  abbrev F : ℕ → Fate
  F j = fate j H

  abbrev counts : ℕ → Bool
  counts j = is_committed (F j)

  -- EVERY SERIAL ORDER RUNS AS THE HUB DID

  -- what is kept is of the jobs of the order
  by_jobs : (order : List ℕ) → ((j : ℕ) → T (counts j) → j ∈ order) → (s : List Access) → ByJobs order (kept counts s)
  unfolding kept
  by_jobs order all [] = tt
  by_jobs order all (a ∷ s) = go (counts a.job) refl (by_jobs order all s)
    where
      go : (b : Bool) → counts a.job ≡ b → ByJobs order (kept counts s)
          → ByJobs order (cond b (a ∷ kept counts s) (kept counts s))
      go true e r = (all a.job (true_T (counts a.job) e), r)
      go false e r = r

  -- nothing that a committed job holds is laid over the store
  nothing_laid : (x : ℕ) → laid counts (st.held x) (get_or st.values x 0) ≡ get_or st.values x 0
  nothing_laid x = go (st.held x) refl
    where
      go : (o : Option Holding) → st.held x ≡ o → laid counts o (get_or st.values x 0) ≡ get_or st.values x 0
      go None e = refl
      go (Some h) e = rw (v.holding x h e).0

  pub every_order : (order : List ℕ) → SerialOrder is_committed H order → RunsSerially opening H order st.values
  every_order order so =
      let r = v.plays counts (record { counted = λ j e. rw e refl; left_out = λ j e. rw e refl }) in
      let same : r.0 ≡ st.values =
      ext_get_or 0 r.0 st.values r.2.long (λ x l. r.2.shows x ∙ nothing_laid x) in
      let w =
      replay_order order (kept counts (accesses H)) opening r.0 so.distinct
      (by_jobs order so.all (accesses H))
      (forward_weaken (Edge is_committed H) (Leads (kept counts (accesses H))) order
      (λ x y hx hy l. (so.only y hy, so.only x hx, leads_kept counts (accesses H) y x l)) so.forward)
      r.1 in
      let e : in_order order (kept counts (accesses H)) ≡ in_order order (accesses H) =
      in_order_kept counts order (accesses H) (λ j h. T_true (counts j) (so.only j h)) in
      replay_serial (in_order order (accesses H)) opening st.values
      (subst₂ (λ (t : List Access) (c : List ℕ). Replay opening t c) e same w)

  -- THE RETIRED JOBS BEGIN A SERIAL ORDER

  -- the test of paths among present jobs
  abbrev reach : ℕ → ℕ → Bool
  reach i j = path (jobs st) st.edges i j

  reach_sound : (i j : ℕ) → reach i j ≡ true → Path (Drawn st.edges) i j
  reach_sound i j = path_sound st.edges (jobs st) i j

  reach_found : (i j : ℕ) → Path (Drawn st.edges) i j → reach i j ≡ true
  reach_found i j =
      path_found st.edges (jobs st) i j
      (λ a b e. lives_listed opening F (accesses H) R st v a (v.drawing.only a b e).0)

  no_cycle : Cycle (Drawn st.edges) → ⊥
  no_cycle c =
      v.graph.acyclic
      (c.0, path_map (λ i j e. let q = v.drawing.only i j e in (q.0.0, q.1.0, q.2)) c.1)

  -- the present jobs that are committed
  left : List ℕ
  left = those (λ j. has_committed (st.status j)) (jobs st)

  rest : List ℕ
  rest = ordered (Drawn st.edges) reach reach_sound reach_found no_cycle left

  shown_means : (f : Fate) (r : Bool) → has_committed (shown f r) ≡ true → T (is_committed f) × (r ≡ false)
  unfolding shown
  shown_means Fate.unopened r e = true_not_false false e refl
  shown_means Fate.running r e = true_not_false false e refl
  shown_means Fate.committed true e = true_not_false false e refl
  shown_means Fate.committed false e = (tt, refl)
  shown_means Fate.aborted r e = true_not_false false e refl

  committed_shown : (f : Fate) (r : Bool) → f ≡ Fate.committed → r ≡ false → has_committed (shown f r) ≡ true
  unfolding shown
  committed_shown f r e d = rw (e, d)

  left_means : (j : ℕ) → j ∈ left → T (is_committed (F j)) × (j ∈ R → ⊥)
  unfolding left
  left_means j h =
      let q = those-∈ (λ i. has_committed (st.status i)) j (jobs st) h in
      let p = shown_means (F j) (mem j R) (ap has_committed (sym (v.statuses j)) ∙ q.1) in
      (p.0, λ k. true_not_false (mem j R) (∈-mem j R k) p.1)

  left_all : (j : ℕ) → T (is_committed (F j)) → (j ∈ R → ⊥) → j ∈ left
  unfolding left
  left_all j t n =
      ∈-those (λ i. has_committed (st.status i)) j (jobs st)
      (lives_listed opening F (accesses H) R st v j (not_kept (F j) t, n))
      (ap has_committed (v.statuses j)
      ∙ committed_shown (F j) (mem j R) (committed_fate (F j) t) (not_mem j R n))

  rest_means : (j : ℕ) → j ∈ rest → T (is_committed (F j)) × (j ∈ R → ⊥)
  unfolding rest
  rest_means j h =
      left_means j (ordered_only (Drawn st.edges) reach reach_sound reach_found no_cycle j left h)

  distinct_left : Distinct left
  unfolding left jobs
  distinct_left =
      distinct_those (λ j. has_committed (st.status j)) (jobs st)
      (distinct_those (λ j. present (st.status j)) (rising 0 st.next) (distinct_rising 0 st.next))

  committed_edge : (i j : ℕ) → Edge is_committed H i j → Among F (accesses H) i j
  committed_edge i j e = (not_kept (F i) e.0, not_kept (F j) e.1, e.2)

  retired_order : SerialOrder is_committed H (R ++ rest)
  unfolding rest
  retired_order =
      record {
        distinct =
            distinct_join R rest v.graph.distinct
            (ordered_distinct (Drawn st.edges) reach reach_sound reach_found no_cycle left distinct_left)
            (λ x h k. (rest_means x k).1 h);
        all = λ j t.
            elim (∈-dec j R) [
              | inl h ↦ ∈-left j R rest h
              | inr n ↦
                  ∈-right j R rest
                  (ordered_all (Drawn st.edges) reach reach_sound reach_found no_cycle j left (left_all j t n))
            ];
        only = λ j h.
            elim (∈-split j R rest h)
            [ inl k ↦ fate_committed (F j) (v.graph.committed j k) | inr k ↦ (rest_means j k).0 ];
        forward =
            forward_join (Edge is_committed H) R rest
            (forward_weaken (Among F (accesses H)) (Edge is_committed H) R (λ x y h k. committed_edge y x) v.graph.forward)
            (forward_weaken (Path (Drawn st.edges)) (Edge is_committed H) rest
            (λ x y h k e.
            edge (v.drawing.all y x (not_kept (F y) e.0, (rest_means y k).1) (not_kept (F x) e.1, (rest_means x h).1) e.2))
            (ordered_forward (Drawn st.edges) reach reach_sound reach_found no_cycle left))
            (λ x y h k e. (rest_means y k).1 (v.graph.closed y x (committed_edge y x e) h));
      }

  -- A STEP IS REFUSED FOR CONFLICT EXACTLY WHEN IT WOULD CLOSE A CYCLE

  -- the graph of the record with the step's act granted last
  to_record : (act : Act) (a : Access) → accesses (act ∷ []) ≡ a ∷ [] → ((i : ℕ) → after act i (F i) ≡ F i)
      → Cycle (Among F (accesses H ++ a ∷ [])) ≡ WouldCycle H act
  to_record act a e f =
      let fates : F ≡ (λ i. fate i (H ++ act ∷ [])) = fun_ext (λ i. sym (fate_more i H act ∙ f i)) in
      let steps : accesses H ++ a ∷ [] ≡ accesses (H ++ act ∷ []) =
      sym (accesses_join H (act ∷ []) ∙ ap (λ (u : List Access). accesses H ++ u) e) in
      λ i. Cycle (Among (fates i) (steps i))

  -- an item that is not served draws no edges
  unserved_acyclic : (j x val : ℕ) (w : Bool) → served st ≤ x → Cycle (Among F (accesses H ++ step j x val w ∷ [])) → ⊥
  unserved_acyclic j x val w l c =
      v.graph.acyclic (c.0, path_map old c.1)
    where
      nowhere : (b : Bool) (i : ℕ) → Did b x i (accesses H) → ⊥
      nowhere b i d =
          let k = known_did F (served st) b x i (accesses H) v.known d in omega arith

      old : (i k : ℕ) → Among F (accesses H ++ step j x val w ∷ []) i k → Among F (accesses H) i k
      old i k e =
          elim (leads_more (step j x val w) (accesses H) i k e.2) [
            | inl q ↦ (e.0, e.1, q)
            | inr q ↦
                elim (met_did (step j x val w) (accesses H) i q.1).1
                [ inl d ↦ absurd (nowhere true i d) | inr d ↦ absurd (nowhere false i d.1) ]
          ]

  module _ (j x val : ℕ) (w : Bool) (run : F j ≡ Fate.running) (none : FreeFor H j x) where
    never_barred : Barred j (st.status j) (leb (served st) x) (st.held x)
        → Cycle (Among F (accesses H ++ step j x val w ∷ [])) → ⊥
    never_barred (inl n) c = n (runs_back opening F (accesses H) R st v j run)
    never_barred (inr (inl e)) c = unserved_acyclic j x val w (leb-true (served st) x e) c
    never_barred (inr (inr (h, e, n))) c =
        let q = v.holding x h e in
        n (none h.job q.0 (did_wrote x h.job (accesses H) q.1))

    exact : (ρ : Option Refusal)
        → StepCases j (st.status j) (leb (served st) x) (st.held x) (closes_cycle st j x w) ρ
        → (ρ ≡ Some ClosesCycle) ↔ Cycle (Among F (accesses H ++ step j x val w ∷ []))
    exact _ (barred r e why) = (
      (λ q.
          let u : r ≡ ClosesCycle = cc in
          true_not_false (aborts r) (ap aborts u) e),
      λ c. absurd (never_barred why c),
    )
    exact _ (closing s b f t) =
        ((λ q. cycle_there opening F (accesses H) R st v j x val w run t), λ c. refl)
    exact _ (granted s b f t) = (
      (λ q. let z : ◌≡◌ {A = ℕ} 0 1 = cc in absurd (omega arith)),
      λ c. true_not_false (closes_cycle st j x w) (cycle_found opening F (accesses H) R st v j x val w run c) t,
    )

  -- an answer is a refusal exactly when the call is refused
  by_answer : (ρ : Option Refusal) (g : Answer) → ((r : Refusal) → g ≡ refused r → ⊥)
      → (by_refusal ρ g (λ r. refused r) ≡ refused ClosesCycle) ↔ (ρ ≡ Some ClosesCycle)
  by_answer None g n =
      ((λ e. absurd (n ClosesCycle e)), λ e. let z : ◌≡◌ {A = ℕ} 0 1 = cc in absurd (omega arith))
  by_answer (Some r) g n = (
    (λ e. let u : r ≡ ClosesCycle = cc in ap (λ (z : Refusal). Some z) u),
    λ e. let u : r ≡ ClosesCycle = cc in ap (λ (z : Refusal). refused z) u,
  )

  answered_not_refused : (n : ℕ) (r : Refusal) → answered n ≡ refused r → ⊥
  answered_not_refused n r e = let z : ◌≡◌ {A = ℕ} 0 1 = cc in omega arith

  done_not_refused : (r : Refusal) → done ≡ refused r → ⊥
  done_not_refused r e = let z : ◌≡◌ {A = ℕ} 0 1 = cc in omega arith

  pub exact_read : (j x val : ℕ) → fate j H ≡ Fate.running → FreeFor H j x → RefusedForCycle st H (read j x) (Read j x val)
  unfolding answer refusal granted_answer
  exact_read j x val run none a t q =
      let one = by_answer (refusal st (read j x)) (granted_answer st (read j x)) (answered_not_refused (seen st j x)) in
      let two = exact j x val false run none (refusal st (read j x))
      (step_cases j (st.status j) (leb (served st) x) (st.held x) (closes_cycle st j x false)) in
      let same = to_record (Read j x val) (step j x val false) refl (λ i. refl) in (
        (λ e. transport same (two.0 (one.0 (sym q.answers ∙ e)))),
        λ c. q.answers ∙ one.1 (two.1 (transport (sym same) c)),
      )

  pub exact_write : (j x val : ℕ) → fate j H ≡ Fate.running → FreeFor H j x → RefusedForCycle st H (write j x val) (Write j x val)
  unfolding answer refusal granted_answer
  exact_write j x val run none a t q =
      let one = by_answer (refusal st (write j x val)) (granted_answer st (write j x val)) done_not_refused in
      let two = exact j x val true run none (refusal st (write j x val))
      (step_cases j (st.status j) (leb (served st) x) (st.held x) (closes_cycle st j x true)) in
      let same = to_record (Write j x val) (step j x val true) refl (λ i. refl) in (
        (λ e. transport same (two.0 (one.0 (sym q.answers ∙ e)))),
        λ c. q.answers ∙ one.1 (two.1 (transport (sym same) c)),
      )

  pub serializable : Serializable opening H R st
  serializable =
      record {
        some_order = (R ++ rest, retired_order);
        every_order = every_order;
        retired_first = (rest, retired_order);
        exact_read = exact_read;
        exact_write = exact_write;
      }

-- every run of every hub is serializable
pub every_run_serializable : EveryRunSerializable
every_run_serializable slots first room opening run s r =
    serializable opening (acts_of run) (retired_of run) s
    (inv_run opening run [] [] (made slots first opening room) s (inv_made slots first room opening) r)
