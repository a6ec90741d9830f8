-- Each change of the state keeps what holds of the states that a run comes to.
use Rattle.std.proofs.Common.{◌≡◌, ℕ, ◌<◌, ◌≤◌, min, Bool, true, false, cond, ◌||◌, T, eqb, List, [], ◌∷◌, ◌++◌, length, Some, None, Option, sym, refl, ap, ◌∙◌, subst, inl, inr, le_refl, arith}
use Rattle.std.proofs.lemmas.Bool.{cases_eq, ne_eqb}
use Rattle.graph.specs.Paths.{◌∈◌}
use Rattle.history.specs.declared.holding.Holding.{Holding}
use Rattle.history.specs.Acts.{Fate, not_aborted}
use Rattle.history.specs.Conflicts.{Access}
use Rattle.history.specs.Machine.{State, Status, served, holds, holdings, seen, closes_cycle, put_at, let_go, opened, has_read, has_written, has_ended, removed}
use Rattle.history.proofs.Lists.{true_not_false, mem, ∈-mem, ∈-dec, ∈-left, ∈-right, ∈-split}
use Rattle.history.proofs.Records.{Occurs, Did, did_old, did_new}
use Rattle.history.proofs.Marks.{marked_removed, edged_removed, marked_step, marked_other}
use Rattle.history.proofs.Graphs.{Live, running_not_committed, retired_weaken, retired_more}
use Rattle.history.proofs.Values.{Counts, FreeOr, plays_weaken, plays_read, plays_write, put_all_long, let_go_some, plays_commit, plays_abort, plays_retire}
use Rattle.history.proofs.Fates.{shown, shown_committed, not_mem, mem_not, Known, known_occurs, known_did, unopened_running, unopened_committed, unopened_aborted, running_committed, running_aborted, put_at_same, put_at_other, becomes, becomes_new, becomes_old, becomes_keeps, counts_before, known_becomes, statuses_become}
use Rattle.history.proofs.Invariant.{Inv, step, runs_lives, alike_reading, alike_writing, alike_drawing, alike_graph, step_edges, step_graph, step_known}

module _ (opening : List ℕ) (F : ℕ → Fate) (s : List Access) (R : List ℕ) (st : State) (v : Inv opening F s R st) where
  -- A JOB IS OPENED

  new_unopened : F st.next ≡ Fate.unopened
  new_unopened = v.fresh st.next (le_refl st.next)

  alike_opened : (i : ℕ) → Occurs i s → not_aborted (becomes F st.next Fate.running i) ≡ not_aborted (F i)
  alike_opened i o =
      ap not_aborted
      (becomes_old F st.next Fate.running i
      (λ e. known_occurs F (served st) i s v.known o (ap F e ∙ new_unopened)))

  pub inv_opened : Inv opening (becomes F st.next Fate.running) s R (opened st)
  unfolding opened shown
  inv_opened =
      let n = st.next in
      let G = becomes F n Fate.running in
      record {
        long = v.long;
        fresh = λ j l. becomes_old F n Fate.running j (λ e. absurd (omega arith)) ∙ v.fresh j (omega arith);
        statuses = statuses_become F n Fate.running R st.status Status.running v.statuses refl;
        known = known_becomes F n Fate.running (λ e. unopened_running (sym e)) (served st) s v.known;
        reading = alike_reading opening F s R st v G alike_opened;
        writing = alike_writing opening F s R st v G alike_opened;
        drawing = alike_drawing opening F s R st v G alike_opened;
        holding = λ x h e.
            let q = v.holding x h e in
            (becomes_keeps F n Fate.running Fate.unopened Fate.running new_unopened unopened_running h.job q.0, q.1);
        graph =
            alike_graph opening F s R st v G alike_opened
            (becomes_keeps F n Fate.running Fate.unopened Fate.committed new_unopened unopened_committed);
        plays =
            plays_weaken opening F s st.held st.values v.plays G
            (counts_before F n Fate.running Fate.unopened new_unopened unopened_committed unopened_aborted);
      }

  -- A JOB THAT RUNS ENDS

  module _ (j : ℕ) (e : F j ≡ Fate.running) where
    -- what was held by another is held still
    held_still : (f : Fate) (x : ℕ) (h : Holding) → let_go j (st.held x) ≡ Some h
        → (becomes F j f h.job ≡ Fate.running) × Did true x h.job s
    held_still f x h q =
        let w = let_go_some j (st.held x) h q in
        let u = v.holding x h w.0 in
        (becomes_old F j f h.job w.1 ∙ u.0, u.1)

    fresh_still : (f : Fate) (i : ℕ) → st.next ≤ i → becomes F j f i ≡ Fate.unopened
    fresh_still f i l =
        becomes_keeps F j f Fate.running Fate.unopened e (λ q. unopened_running (sym q)) i (v.fresh i l)

    counts_still : (f : Fate) (k : ℕ → Bool) → Counts k (becomes F j f) → Counts k F
    counts_still f = counts_before F j f Fate.running e running_committed running_aborted

    -- an item that is held is served
    held_served : (x : ℕ) (o : Option Holding) → st.held x ≡ o → holds j o ≡ true → x < min 64 (length st.values)
    held_served x None p q = true_not_false false q refl
    held_served x (Some g) p q = known_did F (served st) true x g.job s v.known (v.holding x g p).1

    alike_ended : (i : ℕ) → Occurs i s → not_aborted (becomes F j Fate.committed i) ≡ not_aborted (F i)
    alike_ended i o =
        elim (cases_eq i j) [
          | inl q ↦ ap not_aborted (becomes_new F j Fate.committed i q) ∙ sym (ap not_aborted (ap F q ∙ e))
          | inr d ↦ ap not_aborted (becomes_old F j Fate.committed i d)
        ]

    status_ended : Status.committed ≡ shown Fate.committed (mem j R)
    unfolding shown
    status_ended = rw (not_mem j R (runs_lives opening F s R st v j e).1)

    -- it commits
    pub inv_ended : (left : ℕ) → Inv opening (becomes F j Fate.committed) s R (has_ended j left st)
    unfolding has_ended holdings
    inv_ended left =
        let G = becomes F j Fate.committed in
        let same-long = put_all_long st.held (holdings st j) st.values in
        record {
          long = same-long ∙ v.long;
          fresh = fresh_still Fate.committed;
          statuses = statuses_become F j Fate.committed R st.status Status.committed v.statuses status_ended;
          known =
              subst (λ (z : ℕ). Known G (min 64 z) s) (sym same-long)
              (known_becomes F j Fate.committed (λ q. unopened_committed (sym q)) (served st) s v.known);
          reading = alike_reading opening F s R st v G alike_ended;
          writing = alike_writing opening F s R st v G alike_ended;
          drawing = alike_drawing opening F s R st v G alike_ended;
          holding = held_still Fate.committed;
          graph =
              alike_graph opening F s R st v G alike_ended
              (becomes_keeps F j Fate.committed Fate.running Fate.committed e running_committed);
          plays =
              plays_commit opening F G s st.held st.values j v.plays (counts_still Fate.committed)
              (becomes_new F j Fate.committed j refl) (λ x. held_served x (st.held x) refl);
        }

    kept_before : (i : ℕ) → T (not_aborted (becomes F j Fate.aborted i)) → T (not_aborted (F i)) × (i ≡ j → ⊥)
    kept_before i t =
        elim (cases_eq i j) [
          | inl q ↦ absurd (subst (λ (f : Fate). T (not_aborted f)) (becomes_new F j Fate.aborted i q) t)
          | inr d ↦ (subst (λ (f : Fate). T (not_aborted f)) (becomes_old F j Fate.aborted i d) t, d)
        ]

    lives_on : (i : ℕ) → Live F R i → (i ≡ j → ⊥) → Live (becomes F j Fate.aborted) R i
    lives_on i l d = (subst (λ (f : Fate). T (not_aborted f)) (sym (becomes_old F j Fate.aborted i d)) l.0, l.1)

    lived : (i : ℕ) → Live (becomes F j Fate.aborted) R i → Live F R i × (i ≡ j → ⊥)
    lived i l = let q = kept_before i l.0 in ((q.0, l.1), q.1)

    -- it is aborted
    pub inv_aborted : Inv opening (becomes F j Fate.aborted) s R (removed j st)
    unfolding removed shown
    inv_aborted =
        let G = becomes F j Fate.aborted in
        record {
          long = v.long;
          fresh = fresh_still Fate.aborted;
          statuses = statuses_become F j Fate.aborted R st.status Status.absent v.statuses refl;
          known = known_becomes F j Fate.aborted (λ q. unopened_aborted (sym q)) (served st) s v.known;
          reading = marked_removed (Live F R) (Live G R) j s lives_on lived false st.readers v.reading;
          writing = marked_removed (Live F R) (Live G R) j s lives_on lived true st.writers v.writing;
          drawing = edged_removed (Live F R) (Live G R) j s lives_on lived st.edges v.drawing;
          holding = held_still Fate.aborted;
          graph =
              retired_weaken F G s s R v.graph
              (becomes_keeps F j Fate.aborted Fate.running Fate.committed e running_committed)
              (λ a b q. ((kept_before a q.0).0, (kept_before b q.1).0, q.2));
          plays =
              plays_abort opening F G s st.held st.values j v.plays (counts_still Fate.aborted)
              (becomes_new F j Fate.aborted j refl);
        }

  -- A COMMITTED JOB THAT NO EDGE LEADS INTO RETIRES

  mem_more : (i j : ℕ) (Q : List ℕ) → (i ≡ j → ⊥) → mem i Q ≡ mem i (Q ++ j ∷ [])
  unfolding mem
  mem_more i j [] d = rw (ne_eqb i j d)
  mem_more i j (x ∷ Q) d = ap (λ (b : Bool). eqb i x || b) (mem_more i j Q d)

  module _ (j : ℕ) (e : st.status j ≡ Status.committed) (free : (i : ℕ) → Live F R i → st.edges i j ≡ true → ⊥) where
    committed : F j ≡ Fate.committed
    committed = (shown_committed (F j) (mem j R) (sym (v.statuses j) ∙ e)).0

    not_yet : j ∈ R → ⊥
    not_yet h = mem_not j R (shown_committed (F j) (mem j R) (sym (v.statuses j) ∙ e)).1 h

    stays : (i : ℕ) → Live F R i → (i ≡ j → ⊥) → Live F (R ++ j ∷ []) i
    stays i l d =
        (l.0, λ h. elim (∈-split i R (j ∷ []) h) [ inl k ↦ l.1 k | inr (inl q) ↦ d q | inr (inr k) ↦ k ])

    stayed : (i : ℕ) → Live F (R ++ j ∷ []) i → Live F R i × (i ≡ j → ⊥)
    stayed i l = ((l.0, λ h. l.1 (∈-left i R (j ∷ []) h)), λ q. l.1 (∈-right i R (j ∷ []) (inl q)))

    statuses_retired : (i : ℕ) → put_at j Status.absent st.status i ≡ shown (F i) (mem i (R ++ j ∷ []))
    unfolding shown
    statuses_retired i =
        elim (cases_eq i j) [
          | inl q ↦
              put_at_same j Status.absent st.status i q
              ∙ sym (ap (λ (f : Fate). shown f (mem i (R ++ j ∷ []))) (ap F q ∙ committed)
              ∙ ap (λ (b : Bool). cond b Status.absent Status.committed) (∈-mem i (R ++ j ∷ []) (∈-right i R (j ∷ []) (inl q))))
          | inr d ↦
              put_at_other j Status.absent st.status i d ∙ v.statuses i
              ∙ ap (λ (b : Bool). shown (F i) b) (mem_more i j R d)
        ]

    holds_nothing : (x : ℕ) (o : Option Holding) → st.held x ≡ o → holds j o ≡ false
    holds_nothing x None p = refl
    holds_nothing x (Some g) p =
        ne_eqb g.job j (λ q. running_not_committed (F g.job) (v.holding x g p).0 (ap F q ∙ committed))

    pub inv_retired : Inv opening F s (R ++ j ∷ []) (removed j st)
    unfolding removed
    inv_retired =
        let L = Live F (R ++ j ∷ []) in
        record {
          long = v.long;
          fresh = v.fresh;
          statuses = statuses_retired;
          known = v.known;
          reading = marked_removed (Live F R) L j s stays stayed false st.readers v.reading;
          writing = marked_removed (Live F R) L j s stays stayed true st.writers v.writing;
          drawing = edged_removed (Live F R) L j s stays stayed st.edges v.drawing;
          holding = λ x h q. v.holding x h (let_go_some j (st.held x) h q).0;
          graph =
              retired_more F s R j v.graph committed not_yet
              (λ i a.
              elim (∈-dec i R) [
                | inl h ↦ h
                | inr n ↦ absurd (free i (a.0, n) (v.drawing.all i j (a.0, n) (a.1, not_yet) a.2))
              ]);
          plays =
              plays_retire opening F F s st.held st.values j v.plays (λ k q. q)
              (λ x. holds_nothing x (st.held x) refl);
        }

  -- A STEP IS GRANTED

  pub inv_read : (j x : ℕ) → F j ≡ Fate.running → x < served st → FreeOr j (st.held x)
      → closes_cycle st j x false ≡ false → Inv opening F (s ++ step j x (seen st j x) false ∷ []) R (has_read j x st)
  unfolding has_read
  inv_read j x e l f t =
      record {
        long = v.long;
        fresh = v.fresh;
        statuses = v.statuses;
        known = step_known opening F s R st v j x val false e l;
        reading = marked_step (Live F R) s (step j x val false) st.readers (runs_lives opening F s R st v j e) v.reading;
        writing = marked_other (Live F R) s (step j x val false) true st.writers (λ q. true_not_false true refl (sym q)) v.writing;
        drawing = step_edges opening F s R st v j x val false e;
        holding = λ y h q. let u = v.holding y h q in (u.0, did_old (step j x val false) true y h.job s u.1);
        graph = step_graph opening F s R st v j x val false e t;
        plays = plays_read opening F s st.held st.values v.plays (step j x val false) refl f refl;
      }
    where
      val : ℕ
      val = seen st j x

  pub inv_written : (j x val : ℕ) → F j ≡ Fate.running → x < served st → FreeOr j (st.held x)
      → closes_cycle st j x true ≡ false → Inv opening F (s ++ step j x val true ∷ []) R (has_written j x val st)
  unfolding has_written
  inv_written j x val e l f t =
      record {
        long = v.long;
        fresh = v.fresh;
        statuses = v.statuses;
        known = step_known opening F s R st v j x val true e l;
        reading = marked_other (Live F R) s (step j x val true) false st.readers (λ q. true_not_false true refl q) v.reading;
        writing = marked_step (Live F R) s (step j x val true) st.writers (runs_lives opening F s R st v j e) v.writing;
        drawing = step_edges opening F s R st v j x val true e;
        holding = λ y h q. held_now y h q;
        graph = step_graph opening F s R st v j x val true e t;
        plays = plays_write opening F s st.held st.values v.plays (step j x val true) refl (omega arith) f;
      }
    where
      held_now : (y : ℕ) (h : Holding) → put_at x (Some (record { job = j; value = val })) st.held y ≡ Some h
          → (F h.job ≡ Fate.running) × Did true y h.job (s ++ step j x val true ∷ [])
      held_now y h q =
          elim (cases_eq y x) [
            | inl k ↦
                let u : Some (record { job = j; value = val }) ≡ Some h = sym (put_at_same x (Some (record { job = j; value = val })) st.held y k) ∙ q in
                let w : record { job = j; value = val } ≡ h = cc in
                let i : j ≡ h.job = ap (λ (z : Holding). z.job) w in
                (ap F (sym i) ∙ e, did_new (step j x val true) true y h.job s i (sym k) refl)
            | inr n ↦
                let u = v.holding y h (sym (put_at_other x (Some (record { job = j; value = val })) st.held y n) ∙ q) in
                (u.0, did_old (step j x val true) true y h.job s u.1)
          ]
