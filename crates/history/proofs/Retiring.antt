-- What may retire: the machine's list of it, told by its members; and that retiring keeps what holds of
-- the states that a run comes to.
use Rattle.std.proofs.Common.{◌≡◌, ℕ, zero, suc, ◌<◌, ◌≤◌, Bool, true, false, not, ◌&&◌, List, [], ◌∷◌, ◌++◌, sym, refl, ap, subst, inl, inr, zero-add, arith}
use Rattle.std.proofs.lemmas.Bool.{cases_Bool, and_parts, and_from, not_from_false}
use Rattle.std.proofs.lemmas.List.{append-nil, append_assoc}
use Rattle.graph.specs.Paths.{◌∈◌}
use Rattle.history.specs.Acts.{Fate}
use Rattle.history.specs.Conflicts.{Access}
use Rattle.history.specs.Machine.{State, Status, rising, any, present, jobs, has_committed, retirable, removed, all_removed, retiring}
use Rattle.history.proofs.Lists.{true_not_false, ∈-those, those-∈, ∈-rising, rising-∈, any_true, true_any, Ascending, ascending_rising, ascending_those, first_smallest}
use Rattle.history.proofs.Invariant.{Inv, lives_listed}
use Rattle.history.proofs.Changes.{inv_retired}

-- the jobs that the machine lists are those present
pub ∈-jobs : (st : State) (j : ℕ) → j < st.next → present (st.status j) ≡ true → j ∈ jobs st
unfolding jobs
∈-jobs st j l e =
    ∈-those (λ i. present (st.status i)) j (rising 0 st.next)
    (∈-rising 0 st.next j (omega arith) (subst (λ (z : ℕ). j < z) (sym (zero-add st.next)) l)) e

pub jobs-∈ : (st : State) (j : ℕ) → j ∈ jobs st → (j < st.next) × (present (st.status j) ≡ true)
unfolding jobs
jobs-∈ st j h =
    let q = those-∈ (λ i. present (st.status i)) j (rising 0 st.next) h in
    let r = rising-∈ 0 st.next j q.0 in
    (subst (λ (z : ℕ). j < z) (zero-add st.next) r.1, q.1)

committed_status : (σ : Status) → has_committed σ ≡ true → σ ≡ Status.committed
committed_status Status.absent e = true_not_false false e refl
committed_status Status.running e = true_not_false false e refl
committed_status Status.committed e = refl

not-true : (b : Bool) → not b ≡ true → b ≡ false
not-true true e = true_not_false false e refl
not-true false e = refl

-- what may retire is committed, and no present job leads into it
pub retirable_means : (st : State) (j : ℕ) → j ∈ retirable st
    → (j ∈ jobs st) × (st.status j ≡ Status.committed) × ((i : ℕ) → i ∈ jobs st → st.edges i j ≡ true → ⊥)
unfolding retirable
retirable_means st j h =
    let q = those-∈ (λ i. has_committed (st.status i) && not (any (λ k. st.edges k i) (jobs st))) j (jobs st) h in
    let p = and_parts (has_committed (st.status j)) (not (any (λ k. st.edges k j) (jobs st))) q.1 in (
      q.0,
      committed_status (st.status j) p.0,
      λ i k e.
          true_not_false (any (λ k. st.edges k j) (jobs st)) (true_any (λ k. st.edges k j) i (jobs st) k e)
          (not-true (any (λ k. st.edges k j) (jobs st)) p.1),
    )

pub retiring_none : (n : ℕ) (st : State) → retirable st ≡ [] → retiring (suc n) st ≡ []
unfolding retiring
retiring_none n st e = rw (e, retiring)

pub retiring_some : (n : ℕ) (st : State) (j : ℕ) (js : List ℕ) → retirable st ≡ j ∷ js
    → retiring (suc n) st ≡ j ∷ retiring n (removed j st)
unfolding retiring
retiring_some n st j js e = rw (e, retiring)

pub ∈-retirable : (st : State) (j : ℕ) → j ∈ jobs st → st.status j ≡ Status.committed
    → ((i : ℕ) → i ∈ jobs st → st.edges i j ≡ true → ⊥) → j ∈ retirable st
unfolding retirable
∈-retirable st j h c n =
    ∈-those (λ i. has_committed (st.status i) && not (any (λ k. st.edges k i) (jobs st))) j (jobs st) h
    (and_from (has_committed (st.status j)) (not (any (λ k. st.edges k j) (jobs st))) (ap has_committed c)
    (not_from_false (any (λ k. st.edges k j) (jobs st))
    (elim (cases_Bool (any (λ k. st.edges k j) (jobs st))) [
      | inl e ↦ let z = any_true (λ k. st.edges k j) (jobs st) e in absurd (n z.0 z.1 z.2)
      | inr e ↦ e
    ])))

pub retirable_ascending : (st : State) → Ascending (retirable st)
unfolding retirable jobs
retirable_ascending st =
    ascending_those (λ i. has_committed (st.status i) && not (any (λ k. st.edges k i) (jobs st))) (jobs st)
    (ascending_those (λ i. present (st.status i)) (rising 0 st.next) (ascending_rising 0 st.next))

-- the first of a list that rises is its smallest, and the other way round
first_is : (xs : List ℕ) (j : ℕ) → Ascending xs → j ∈ xs → ((i : ℕ) → i ∈ xs → j ≤ i)
    → (js : List ℕ) × (xs ≡ j ∷ js)
first_is [] j a h s = absurd h
first_is (x ∷ xs) j a h s =
    let p = first_smallest x xs a j h in
    let q = s x (inl refl) in
    let e : x ≡ j = omega arith in
    (xs, ap (λ (z : ℕ). z ∷ xs) e)

none_is : (xs : List ℕ) → ((j : ℕ) → j ∈ xs → ⊥) → xs ≡ []
none_is [] n = refl
none_is (x ∷ xs) n = absurd (n x (inl refl))

-- what retires next: the smallest that may, or none if none may
pub retiring_smallest : (n : ℕ) (st : State) (j : ℕ) → j ∈ retirable st → ((i : ℕ) → i ∈ retirable st → j ≤ i)
    → retiring (suc n) st ≡ j ∷ retiring n (removed j st)
retiring_smallest n st j h s =
    let r = first_is (retirable st) j (retirable_ascending st) h s in
    retiring_some n st j r.0 r.1

pub retiring_stops : (n : ℕ) (st : State) → ((j : ℕ) → j ∈ retirable st → ⊥) → retiring (suc n) st ≡ []
retiring_stops n st none = retiring_none n st (none_is (retirable st) none)

pub inv_retiring : (opening : List ℕ) (F : ℕ → Fate) (s : List Access) (n : ℕ) (R : List ℕ) (st : State)
    → Inv opening F s R st → Inv opening F s (R ++ retiring n st) (all_removed (retiring n st) st)
unfolding retiring all_removed
inv_retiring opening F s zero R st v = subst (λ (Q : List ℕ). Inv opening F s Q st) (sym (append-nil R)) v
inv_retiring opening F s (suc n) R st v =
    by_list (retirable st) refl
    (λ j js e.
    let m = retirable_means st j (subst (λ (l : List ℕ). j ∈ l) (sym e) (inl refl)) in
    inv_retiring opening F s n (R ++ j ∷ []) (removed j st)
    (inv_retired opening F s R st v j m.1 (λ i l. m.2 i (lives_listed opening F s R st v i l))))
  where
    Goal : List ℕ → Type 0
    Goal js = Inv opening F s (R ++ js) (all_removed js st)

    by_list : (l : List ℕ) → retirable st ≡ l
        → ((j : ℕ) (js : List ℕ) → retirable st ≡ j ∷ js
        → Inv opening F s ((R ++ j ∷ []) ++ retiring n (removed j st)) (all_removed (retiring n (removed j st)) (removed j st)))
        → Goal (retiring (suc n) st)
    by_list [] e k =
        subst Goal (sym (retiring_none n st e)) (subst (λ (Q : List ℕ). Inv opening F s Q st) (sym (append-nil R)) v)
    by_list (j ∷ js) e k =
        subst Goal (sym (retiring_some n st j js e))
        (subst (λ (Q : List ℕ). Inv opening F s Q (all_removed (retiring n (removed j st)) (removed j st)))
        (append_assoc R (j ∷ []) (retiring n (removed j st))) (k j js e))
