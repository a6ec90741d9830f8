-- The slot of a job: how it is found, and what it is where slots change. Assumes nothing.
use Rattle.std.proofs.Common.{◌≡◌, ℕ, suc, ◌+◌, ◌<◌, ◌≤◌, Bool, true, false, cond, not, List, [], ◌∷◌, length, Some, None, Option, sym, refl, ◌∙◌, subst, inl, inr, arith}
use Rattle.std.proofs.lemmas.Bool.{cases_Bool, cases_lt, lt-ltb, le-ltb}
use Rattle.std.proofs.lemmas.List.Sums.{prefix_len-le-length, passes_at_first, fails_before_first, position_or_len_is}
use Rattle.std.specs.List.{position, position_or_len}
use Rattle.std.specs.Option.{MatchOption}
use Rattle.scheduler.specs.declared.slots.Slot.{Slot}
use Rattle.scheduler.specs.Slots.{free_slot, slot, first}

module _ (p : Slot → Bool) where
  first_is : (ss : List Slot) → position_or_len p ss ≡ first p ss
  first_is [] = refl
  first_is (s ∷ ss) = elim (p s) as (λ b. cond (not b) (1 + position_or_len p ss) 0 ≡ cond b 0 (suc (first p ss))) [ true ↦ refl | false ↦ (let rest = first_is ss in omega arith) ]

  pub first_within : (ss : List Slot) → first p ss ≤ length ss
  first_within ss = subst (λ n. n ≤ length ss) (first_is ss) (prefix_len-le-length (λ s. not (p s)) ss)

  -- what `position` answers

  found : (ss : List Slot) → MatchOption (position p ss) (first p ss ≡ length ss) (λ k. (k ≡ first p ss) × (k < length ss))
  found ss =
      let same = first_is ss in
      let within = first_within ss in
      let Tells : Bool → Type 0 = λ b. MatchOption (cond b (Some (position_or_len p ss)) None) (first p ss ≡ length ss) (λ k. (k ≡ first p ss) × (k < length ss)) in
      elim (cases_lt (position_or_len p ss) (length ss)) [ inl l ↦ subst Tells (sym (lt-ltb _ _ l)) (same, l) | inr l ↦ subst Tells (sym (le-ltb _ _ l)) (omega arith) ]

  pub found_at : (ss : List Slot) (o : Option ℕ) (k : ℕ) → o ≡ position p ss → o ≡ Some k → (k ≡ first p ss) × (k < length ss)
  found_at ss o k e f = subst (λ r. MatchOption r (first p ss ≡ length ss) (λ k. (k ≡ first p ss) × (k < length ss))) (sym e ∙ f) (found ss)

  pub found_none : (ss : List Slot) (o : Option ℕ) → o ≡ position p ss → o ≡ None → first p ss ≡ length ss
  found_none ss o e f = subst (λ r. MatchOption r (first p ss ≡ length ss) (λ k. (k ≡ first p ss) × (k < length ss))) (sym e ∙ f) (found ss)

  -- what is found

  -- the slot that is found passes
  pub first_passes : (ss : List Slot) → first p ss < length ss → p (slot ss (first p ss)) ≡ true
  first_passes ss = subst (λ n. n < length ss → p (slot ss n) ≡ true) (first_is ss) (passes_at_first p ss free_slot)

  -- a slot before it does not
  first_before : (ss : List Slot) (k : ℕ) → k < first p ss → p (slot ss k) ≡ false
  first_before ss k = subst (λ n. k < n → p (slot ss k) ≡ false) (first_is ss) (fails_before_first p ss k free_slot)

  first_at : (ss : List Slot) (k : ℕ) → k ≤ length ss → ((a : ℕ) → a < k → p (slot ss a) ≡ false) → (k < length ss → p (slot ss k) ≡ true) → first p ss ≡ k
  first_at ss k within before here = sym (first_is ss) ∙ position_or_len_is p ss k free_slot within before here

  -- a slot that passes, if it is the only one
  pub first_only : (ss : List Slot) (k : ℕ) → k < length ss → p (slot ss k) ≡ true → ((a : ℕ) → a < length ss → p (slot ss a) ≡ true → a ≡ k) → first p ss ≡ k
  first_only ss k low h one =
      first_at ss k (omega arith)
      (λ a m. elim (cases_Bool (p (slot ss a))) [ inl e ↦ (let same = one a (omega arith) e in absurd (omega arith)) | inr e ↦ e ])
      (λ _. h)

  pub first_none : (ss : List Slot) → ((k : ℕ) → k < length ss → p (slot ss k) ≡ false) → first p ss ≡ length ss
  first_none ss h = first_at ss (length ss) (omega arith) h (λ l. absurd (omega arith))

  pub first_same : (ss ts : List Slot) → length ss ≡ length ts → ((k : ℕ) → k < length ss → p (slot ss k) ≡ p (slot ts k)) → first p ss ≡ first p ts
  first_same ss ts l h =
      let within = first_within ts in
      first_at ss (first p ts) (omega arith) (λ a m. h a (omega arith) ∙ first_before ts a m) (λ m. h (first p ts) m ∙ first_passes ts (omega arith))
