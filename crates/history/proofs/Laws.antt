-- The laws of the machine.
use Rattle.std.proofs.Common.{◌≡◌, ℕ, zero, suc, ◌+◌, ◌≤◌, Bool, true, false, cond, not, ◌&&◌, ◌||◌, eqb, ltb, leb, ◌↔◌, List, [], ◌∷◌, ◌++◌, length, Some, None, Option, sym, refl, ap, ◌∙◌, subst, inl, inr, arith}
use Rattle.std.proofs.lemmas.Bool.{eqb-true, eq-eqb, ne_eqb, or_cases, or_left, or_right, and_parts, and_from, leb-true, leb-false}
use Rattle.graph.proofs.Paths.{path_map}
use Rattle.graph.specs.Paths.{Path, ◌∈◌}
use Rattle.trace.specs.declared.act.Act.{Act}
use Rattle.history.specs.declared.holding.Holding.{Holding}
use Rattle.history.specs.declared.refusal.Refusal.{Refusal}
use Rattle.history.specs.declared.refusal.Refusal.TheVariants.{TableFull, NumbersSpent, NotPresent, AlreadyCommitted, ItemNotServed, ItemHeld, ClosesCycle, NoRoom}
use Rattle.history.specs.Refusals.{aborts}
use Rattle.history.specs.Acts.{Fate, fate}
use Rattle.history.specs.Conflicts.{Access, accesses}
use Rattle.history.specs.Machine.{State, Status, made, jobs, served, holdings, drawn, draws_from, closes_cycle, retirable, opened, has_read, has_written, has_ended, removed, all_removed, retiring, Call, begin, read, write, commit, abort, retire, peek, Answer, refused, ◌else◌, refuse_if, not_running, refusal, granted_answer, granted_state, refused_state, by_refusal, answer, after_call, put_count, Steps}
use Rattle.history.specs.Runs.{acts_of, retired_of}
use Rattle.history.specs.Laws.{Reached, but_room, OneOutcome, RefusalsChangeNothing, ConflictsAbort, StepEdge, Unbarred, RefusedOnPath, ExactTest, MayRetire, Retirement, RetiresSmallest}
use Rattle.history.proofs.Lists.{true_not_false, T_true, true_T, mem, ∈-mem, Ascending, first_smallest}
use Rattle.history.proofs.Paths.{Drawn, path_sound, path_found}
use Rattle.history.proofs.Graphs.{committed_kept}
use Rattle.history.proofs.Values.{FreeOr, free, own}
use Rattle.history.proofs.Fates.{shown_committed}
use Rattle.history.proofs.Invariant.{Inv, runs, lives_listed, step_edges}
use Rattle.history.proofs.Changes.{inv_retired}
use Rattle.history.proofs.Turns.{Holds, Barred, StepCases, barred, closing, granted, step_cases, inv_run, inv_made}
use Rattle.history.proofs.Retiring.{retirable_means, ∈-retirable, retirable_ascending, retiring_none, retiring_some}

-- EACH CALL HAS ONE OUTCOME

removed_room : (js : List ℕ) (s : State) → (all_removed js s).room ≡ s.room
unfolding all_removed removed
removed_room [] s = refl
removed_room (j ∷ js) s = removed_room js (removed j s)

granted_room : (s : State) (c : Call) (left : ℕ) → (put_count s c ≡ 0 → left ≡ s.room)
    → (granted_state s c left).room ≡ left
unfolding put_count granted_state opened has_read has_written has_ended removed
granted_room s begin left k = sym (k refl)
granted_room s (read j x) left k = sym (k refl)
granted_room s (write j x v) left k = sym (k refl)
granted_room s (commit j) left k = refl
granted_room s (abort j) left k = sym (k refl)
granted_room s (retire n) left k = removed_room (retiring n s) s ∙ sym (k refl)
granted_room s (peek x) left k = sym (k refl)

aborted_room : (b : Bool) (j : ℕ) (s : State) → (cond b (removed j s) s).room ≡ s.room
unfolding removed
aborted_room true j s = refl
aborted_room false j s = refl

refused_room : (s : State) (c : Call) (r : Refusal) → (refused_state s c r).room ≡ s.room
unfolding refused_state
refused_room s begin r = refl
refused_room s (read j x) r = aborted_room (aborts r) j s
refused_room s (write j x v) r = aborted_room (aborts r) j s
refused_room s (commit j) r = refl
refused_room s (abort j) r = refl
refused_room s (retire n) r = refl
refused_room s (peek x) r = refl

-- a refused call puts nothing
refused_puts : (s : State) (c : Call) (r : Refusal) → refusal s c ≡ Some r → put_count s c ≡ 0
unfolding put_count
refused_puts s begin r e = refl
refused_puts s (read j x) r e = refl
refused_puts s (write j x v) r e = refl
refused_puts s (commit j) r e = rw e
refused_puts s (abort j) r e = refl
refused_puts s (retire n) r e = refl
refused_puts s (peek x) r e = refl

-- the room that is left is the one that was said, if it stays where nothing is put
pub after_room : (s : State) (c : Call) (left : ℕ) → (put_count s c ≡ 0 → left ≡ s.room)
    → (after_call s c left).room ≡ left
unfolding after_call
after_room s c left k = go (refusal s c) refl
  where
    go : (ρ : Option Refusal) → refusal s c ≡ ρ
        → (by_refusal ρ (granted_state s c left) (λ r. refused_state s c r)).room ≡ left
    go None e = granted_room s c left k
    go (Some r) e = refused_room s c r ∙ sym (k (refused_puts s c r e))

-- every call can be made, with each room that its puts may leave
pub steps : (s : State) (c : Call) (left : ℕ) → (put_count s c ≡ 0 → left ≡ s.room) → s.room ≤ left + put_count s c
    → Steps s c (answer s c) (after_call s c left)
steps s c left k l =
    let e = after_room s c left k in
    record {
      answers = refl;
      becomes = ap (λ (z : ℕ). after_call s c z) (sym e);
      keeps_room = λ z. e ∙ k z;
      takes_room = subst (λ (z : ℕ). s.room ≤ z + put_count s c) (sym e) l;
    }

same_but_room : (s : State) (c : Call) (l m : ℕ) → but_room (granted_state s c l) ≡ but_room (granted_state s c m)
unfolding granted_state has_ended but_room
same_but_room s begin l m = refl
same_but_room s (read j x) l m = refl
same_but_room s (write j x v) l m = refl
same_but_room s (commit j) l m = refl
same_but_room s (abort j) l m = refl
same_but_room s (retire n) l m = refl
same_but_room s (peek x) l m = refl

after_but_room : (s : State) (c : Call) (l m : ℕ) → but_room (after_call s c l) ≡ but_room (after_call s c m)
unfolding after_call
after_but_room s c l m = go (refusal s c)
  where
    go : (ρ : Option Refusal)
        → but_room (by_refusal ρ (granted_state s c l) (λ r. refused_state s c r))
        ≡ but_room (by_refusal ρ (granted_state s c m) (λ r. refused_state s c r))
    go None = same_but_room s c l m
    go (Some r) = refl

pub one_outcome : (s : State) (c : Call) → OneOutcome s c
one_outcome s c =
    record {
      some = (answer s c, after_call s c s.room, steps s c s.room (λ e. refl) (omega arith));
      same_answer = λ a b t u p q. p.answers ∙ sym q.answers;
      same_state = λ a b t u p q.
          ap but_room p.becomes ∙ after_but_room s c t.room u.room ∙ sym (ap but_room q.becomes);
    }

-- WHAT A REFUSAL CHANGES

granted_not_refused : (s : State) (c : Call) (r : Refusal) → refused r ≡ granted_answer s c → ⊥
unfolding granted_answer
granted_not_refused s begin r e = let z : ◌≡◌ {A = ℕ} 0 1 = cc in omega arith
granted_not_refused s (read j x) r e = let z : ◌≡◌ {A = ℕ} 0 1 = cc in omega arith
granted_not_refused s (write j x v) r e = let z : ◌≡◌ {A = ℕ} 0 1 = cc in omega arith
granted_not_refused s (commit j) r e = let z : ◌≡◌ {A = ℕ} 0 1 = cc in omega arith
granted_not_refused s (abort j) r e = let z : ◌≡◌ {A = ℕ} 0 1 = cc in omega arith
granted_not_refused s (retire n) r e = let z : ◌≡◌ {A = ℕ} 0 1 = cc in omega arith
granted_not_refused s (peek x) r e = let z : ◌≡◌ {A = ℕ} 0 1 = cc in omega arith

-- a refused call was refused for its refusal, and leads where that leads
refused_means : (s t : State) (c : Call) (r : Refusal) → Steps s c (refused r) t
    → (refusal s c ≡ Some r) × (t ≡ refused_state s c r)
unfolding answer after_call
refused_means s t c r q = go (refusal s c) q.answers q.becomes
  where
    go : (ρ : Option Refusal) → refused r ≡ by_refusal ρ (granted_answer s c) (λ z. refused z)
        → t ≡ by_refusal ρ (granted_state s c t.room) (λ z. refused_state s c z)
        → (ρ ≡ Some r) × (t ≡ refused_state s c r)
    go None e f = absurd (granted_not_refused s c r e)
    go (Some z) e f =
        let u : z ≡ r = cc in
        (ap (λ (y : Refusal). Some y) u, f ∙ ap (λ (y : Refusal). refused_state s c y) u)

aborts_only : (r : Refusal) → (r ≡ ClosesCycle → ⊥) → aborts r ≡ false
aborts_only TableFull n = refl
aborts_only NumbersSpent n = refl
aborts_only NotPresent n = refl
aborts_only AlreadyCommitted n = refl
aborts_only ItemNotServed n = refl
aborts_only (ItemHeld h) n = refl
aborts_only ClosesCycle n = absurd (n refl)
aborts_only NoRoom n = refl

refused_same : (s : State) (c : Call) (r : Refusal) → aborts r ≡ false → refused_state s c r ≡ s
unfolding refused_state
refused_same s begin r e = refl
refused_same s (read j x) r e = rw e
refused_same s (write j x v) r e = rw e
refused_same s (commit j) r e = refl
refused_same s (abort j) r e = refl
refused_same s (retire n) r e = refl
refused_same s (peek x) r e = refl

pub refusals_change_nothing : RefusalsChangeNothing
refusals_change_nothing s t c r q n =
    (refused_means s t c r q).1 ∙ refused_same s c r (aborts_only r n)

-- a refusal that aborts is given to steps alone
refuse_if_never : (b : Bool) (r : Refusal) → aborts r ≡ false → refuse_if b r ≡ Some ClosesCycle → ⊥
refuse_if_never true r a e =
    let u : r ≡ ClosesCycle = cc in true_not_false (aborts r) (ap aborts u) a
refuse_if_never false r a e = let z : ◌≡◌ {A = ℕ} 0 1 = cc in omega arith

begin_never : (b d : Bool) → (refuse_if b TableFull else refuse_if d NumbersSpent) ≡ Some ClosesCycle → ⊥
begin_never true d e = refuse_if_never true TableFull refl e
begin_never false d e = refuse_if_never d NumbersSpent refl e

commit_never : (σ : Status) (b : Bool) → (not_running σ else refuse_if b NoRoom) ≡ Some ClosesCycle → ⊥
commit_never Status.absent b e = refuse_if_never true NotPresent refl e
commit_never Status.running b e = refuse_if_never b NoRoom refl e
commit_never Status.committed b e = refuse_if_never true AlreadyCommitted refl e

abort_never : (σ : Status) → not_running σ ≡ Some ClosesCycle → ⊥
abort_never Status.absent e = refuse_if_never true NotPresent refl e
abort_never Status.running e = refuse_if_never false NotPresent refl e
abort_never Status.committed e = refuse_if_never true AlreadyCommitted refl e

pub conflicts_abort : ConflictsAbort
unfolding refusal refused_state
conflicts_abort s t begin q =
    absurd (begin_never (leb s.slots (length (jobs s))) (ltb 4294967295 s.next) (refused_means s t begin ClosesCycle q).0)
conflicts_abort s t (read j x) q = (j, x, inl refl, (refused_means s t (read j x) ClosesCycle q).1)
conflicts_abort s t (write j x v) q = (j, x, inr (v, refl), (refused_means s t (write j x v) ClosesCycle q).1)
conflicts_abort s t (commit j) q =
    absurd (commit_never (s.status j) (ltb s.room (length (holdings s j))) (refused_means s t (commit j) ClosesCycle q).0)
conflicts_abort s t (abort j) q = absurd (abort_never (s.status j) (refused_means s t (abort j) ClosesCycle q).0)
conflicts_abort s t (retire n) q =
    absurd (refuse_if_never false NoRoom refl (refused_means s t (retire n) ClosesCycle q).0)
conflicts_abort s t (peek x) q =
    absurd (refuse_if_never (leb (served s) x) ItemNotServed refl (refused_means s t (peek x) ClosesCycle q).0)

-- WHEN A STEP IS REFUSED FOR CONFLICT

-- what holds of a state that was reached
reached_inv : (s : State) → Reached s → (opening : List ℕ) × (H : List Act) × (R : List ℕ) × Holds opening H R s
reached_inv s (slots, first, room, opening, run, r) = (
  opening,
  acts_of run,
  retired_of run,
  inv_run opening run [] [] (made slots first opening room) s (inv_made slots first room opening) r,
)

module _ (s : State) (j x : ℕ) (w : Bool) where
  drawn_edge : (a b : ℕ) → Drawn (drawn s j x w) a b → StepEdge s j x w a b
  drawn_edge a b e =
      elim (or_cases (s.edges a b) (eqb b j && draws_from s j x w a) e) [
        | inl q ↦ inl (true_T (s.edges a b) q)
        | inr q ↦
            let p = and_parts (eqb b j) (draws_from s j x w a) q in
            let o = and_parts (not (eqb a j)) (s.writers x a || w && s.readers x a) p.1 in
            inr (
              eqb-true b j p.0,
              (λ k. true_not_false (not (eqb a j)) o.0 (ap not (eq-eqb a j k))),
              elim (or_cases (s.writers x a) (w && s.readers x a) o.1) [
                | inl u ↦ inl (true_T (s.writers x a) u)
                | inr u ↦
                    let z = and_parts w (s.readers x a) u in
                    inr (true_T w z.0, true_T (s.readers x a) z.1)
              ],
            )
      ]

  edge_drawn : (a b : ℕ) → StepEdge s j x w a b → Drawn (drawn s j x w) a b
  edge_drawn a b (inl t) = or_left (s.edges a b) (eqb b j && draws_from s j x w a) (T_true (s.edges a b) t)
  edge_drawn a b (inr (e, n, m)) =
      or_right (s.edges a b) (eqb b j && draws_from s j x w a)
      (and_from (eqb b j) (draws_from s j x w a) (eq-eqb b j e)
      (and_from (not (eqb a j)) (s.writers x a || w && s.readers x a) (ap not (ne_eqb a j n))
      (elim m [
        | inl t ↦ or_left (s.writers x a) (w && s.readers x a) (T_true (s.writers x a) t)
        | inr t ↦
            or_right (s.writers x a) (w && s.readers x a)
            (and_from w (s.readers x a) (T_true w t.0) (T_true (s.readers x a) t.1))
      ])))

  unbarred_free : (o : Option Holding) → s.held x ≡ o → FreeOr j o → (h : Holding) → s.held x ≡ Some h → h.job ≡ j
  unbarred_free _ e free h q = let z : ◌≡◌ {A = ℕ} 0 1 = cc in absurd (omega arith)
  unbarred_free _ e (own g k) h q = let u : g ≡ h = cc in ap (λ (y : Holding). y.job) (sym u) ∙ k

  unbarred : s.status j ≡ Status.running → leb (served s) x ≡ false → FreeOr j (s.held x) → Unbarred s j x
  unbarred e b f =
      record { runs = e; inside = leb-false (served s) x b; free = unbarred_free (s.held x) refl f }

  not_barred : Barred j (s.status j) (leb (served s) x) (s.held x) → Unbarred s j x → ⊥
  not_barred (inl n) u = n u.runs
  not_barred (inr (inl e)) u = let l = leb-true (served s) x e in let i = u.inside in omega arith
  not_barred (inr (inr (h, e, n))) u = n (u.free h e)

  module _ (opening : List ℕ) (H : List Act) (R : List ℕ) (v : Holds opening H R s) where
    path_test : s.status j ≡ Status.running → Path (StepEdge s j x w) j j → closes_cycle s j x w ≡ true
    path_test e p =
        path_found (drawn s j x w) (jobs s) j j
        (λ a b d.
        lives_listed opening (λ i. fate i H) (accesses H) R s v a
        ((step_edges opening (λ i. fate i H) (accesses H) R s v j x 0 w
        (runs opening (λ i. fate i H) (accesses H) R s v j e)).only a b d).0)
        (path_map edge_drawn p)

    exact_test_at : (ρ : Option Refusal)
        → StepCases j (s.status j) (leb (served s) x) (s.held x) (closes_cycle s j x w) ρ
        → (ρ ≡ Some ClosesCycle) ↔ (Unbarred s j x × Path (StepEdge s j x w) j j)
    exact_test_at _ (barred r e why) = (
      (λ q. let u : r ≡ ClosesCycle = cc in true_not_false (aborts r) (ap aborts u) e),
      λ u. absurd (not_barred why u.0),
    )
    exact_test_at _ (closing e b f t) = (
      (λ q. (unbarred e b f, path_map drawn_edge (path_sound (drawn s j x w) (jobs s) j j t))),
      λ u. refl,
    )
    exact_test_at _ (granted e b f t) = (
      (λ q. let z : ◌≡◌ {A = ℕ} 0 1 = cc in absurd (omega arith)),
      λ u. true_not_false (closes_cycle s j x w) (path_test e u.1) t,
    )

  pub exact_test_for : (c : Call) (ρ : Option Refusal) → refusal s c ≡ ρ → Reached s
      → StepCases j (s.status j) (leb (served s) x) (s.held x) (closes_cycle s j x w) ρ
      → RefusedOnPath s c j x w
  unfolding answer
  exact_test_for c ρ e (r) cases a t q =
      let i = reached_inv s r in
      let k = exact_test_at i.0 i.1 i.2 i.3 ρ cases in (
        (λ z. k.0 (sym e ∙ (refused_means s t c ClosesCycle (subst (λ (b : Answer). Steps s c b t) z q)).0)),
        λ u. q.answers ∙ ap (λ (o : Option Refusal). by_refusal o (granted_answer s c) (λ y. refused y)) (e ∙ k.1 u),
      )

pub exact_test : ExactTest
unfolding refusal
exact_test s r j x = (
  exact_test_for s j x false (read j x) _ refl r
      (step_cases j (s.status j) (leb (served s) x) (s.held x) (closes_cycle s j x false)),
  λ v.
      exact_test_for s j x true (write j x v) _ refl r
      (step_cases j (s.status j) (leb (served s) x) (s.held x) (closes_cycle s j x true)),
)

-- WHAT RETIRES

module _ (opening : List ℕ) (F : ℕ → Fate) (l : List Access) where
  -- the machine's list has those that may retire
  listed_may : (R : List ℕ) (s : State) → Inv opening F l R s → (j : ℕ) → j ∈ retirable s → MayRetire s j
  listed_may R s v j h =
      let m = retirable_means s j h in
      (m.1, λ i e. m.2 i (lives_listed opening F l R s v i (v.drawing.only i j e).0) e)

  may_listed : (R : List ℕ) (s : State) → Inv opening F l R s → (j : ℕ) → MayRetire s j → j ∈ retirable s
  may_listed R s v j (c, n) =
      let q = shown_committed (F j) (mem j R) (sym (v.statuses j) ∙ c) in
      let out : j ∈ R → ⊥ = λ h. true_not_false (mem j R) (∈-mem j R h) q.1 in
      ∈-retirable s j (lives_listed opening F l R s v j (committed_kept (F j) q.0, out)) c (λ i h. n i)

  retirement : (n : ℕ) (R : List ℕ) (s : State) → Inv opening F l R s → Retirement n s (retiring n s)
  unfolding retiring
  retirement zero R s v = refl
  retirement (suc n) R s v =
      by_list (retirable s) refl
      (λ j js e.
      let m = listed_may R s v j (subst (λ (z : List ℕ). j ∈ z) (sym e) (inl refl)) in
      retirement n (R ++ j ∷ []) (removed j s)
      (inv_retired opening F l R s v j m.0 (λ i k. m.1 i)))
    where
      by_list : (js : List ℕ) → retirable s ≡ js
          → ((j : ℕ) (js : List ℕ) → retirable s ≡ j ∷ js → Retirement n (removed j s) (retiring n (removed j s)))
          → Retirement (suc n) s (retiring (suc n) s)
      by_list [] e k =
          subst (Retirement (suc n) s) (sym (retiring_none n s e))
          (λ j m. subst (λ (z : List ℕ). j ∈ z) e (may_listed R s v j m))
      by_list (j ∷ js) e k =
          subst (Retirement (suc n) s) (sym (retiring_some n s j js e)) (
            listed_may R s v j (subst (λ (z : List ℕ). j ∈ z) (sym e) (inl refl)),
            (λ i m.
                first_smallest j js (subst Ascending e (retirable_ascending s)) i
                (subst (λ (z : List ℕ). i ∈ z) e (may_listed R s v i m))),
            k j js e,
          )

pub retires_smallest : RetiresSmallest
unfolding answer after_call refusal granted_answer granted_state
retires_smallest s t n a r q =
    let i = reached_inv s r in (
      retiring n s,
      q.answers,
      retirement i.0 (λ j. fate j i.1) (accesses i.1) n i.2 s i.3,
      q.becomes,
    )
