-- A loop that changes each place of a list in turn. Assumes nothing.
use Rattle.std.proofs.Common.{◌≡◌, ℕ, ◌<◌, ◌≤◌, List, length, get_or, sym, subst₂, inl, inr, arith}
use Rattle.std.proofs.lemmas.Bool.{cases_lt}
use Rattle.std.proofs.lemmas.List.{get_or_past}

-- the places below n have changed as R says, and the others have not
pub record Swept {X : Type 0} (R : ℕ → X → X → Type 0) (d : X) (n : ℕ) (xs ys : List X) : Type 0 where
  pub long : length ys ≡ length xs
  pub below : (k : ℕ) → k < n → R k (get_or xs k d) (get_or ys k d)
  pub above : (k : ℕ) → n ≤ k → get_or ys k d ≡ get_or xs k d

module _ {X : Type 0} (R : ℕ → X → X → Type 0) (d : X) (xs : List X) where
  pub swept_all : (n : ℕ) (ys : List X) → Swept R d n xs ys → length xs ≤ n → ((k : ℕ) → R k d d) → (k : ℕ) → R k (get_or xs k d) (get_or ys k d)
  swept_all n ys s h past k = elim (cases_lt k n) [
    | inl l ↦ s.below k l
    | inr l ↦ subst₂ (R k) (sym (get_or_past xs k d (omega arith))) (sym (get_or_past ys k d (omega (arith, s.long)))) (past k)
  ]
