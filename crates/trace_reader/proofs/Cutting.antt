-- Cutting bytes at a separator, as the slices of the code do. Rests on the laws of pieces.
use Rattle.std.proofs.Common.{◌≡◌, ℕ, ◌+◌, ◌-◌, ◌<◌, ◌==◌, cond, ltb, List, [], ◌∷◌, length, take, drop, position, Some, None, sym, refl, ◌∙◌, inl, inr, arith}
use Rattle.std.specs.List.{position_or_len, count_by}
use Rattle.std.proofs.lemmas.List.{drop_all, take_rest, take_all}
use Rattle.std.proofs.lemmas.List.Recursion.{is_position_or_len, is_count_by}
use Rattle.std.proofs.lemmas.Bool.{cases_Bool, ltb-true, ltb-false}
use Rattle.trace.specs.Pieces.{before, behind, parted}
use Rattle.trace.proofs.Parting.{take_before, before_short, some_piece, length_onto}

-- the first separator

before_place : (sep : ℕ) (bs : List ℕ) → length (before sep bs) ≡ position_or_len (λ b. b == sep) bs
before_place sep bs = is_position_or_len (λ bs. length (before sep bs)) (λ b. b == sep) refl (λ b bs. by b bs) bs
  where
    by : (b : ℕ) (bs : List ℕ) → length (before sep (b ∷ bs)) ≡ cond (b == sep) 0 (1 + length (before sep bs))
    by b bs = elim (cases_Bool (b == sep)) [ inl e ↦ rw e refl | inr e ↦ rw e (omega arith) ]

-- the number of pieces
pub pieces : (sep : ℕ) (bs : List ℕ) → count_by (λ b. b == sep) bs + 1 ≡ length (parted sep bs)
pieces sep bs = omega (arith, is_count_by (λ bs. length (parted sep bs) - 1) (λ b. b == sep) refl by bs, some_piece sep bs)
  where
    by : (b : ℕ) (bs : List ℕ) → length (parted sep (b ∷ bs)) - 1 ≡ cond (b == sep) (1 + (length (parted sep bs) - 1)) (length (parted sep bs) - 1)
    by b bs =
        elim (cases_Bool (b == sep)) [
          | inl e ↦ rw e (omega (arith, some_piece sep bs))
          | inr e ↦ rw e (omega (arith, length_onto b (parted sep bs) (some_piece sep bs)))
        ]

pub found : (sep : ℕ) (bs : List ℕ) (n : ℕ) → Some n ≡ position (λ b. b == sep) bs → (n ≡ length (before sep bs)) × (n < length bs)
found sep bs n h =
    let at = before_place sep bs in
    elim (cases_Bool (ltb (position_or_len (λ b. b == sep) bs) (length bs))) [
      | inl e ↦
          let q = rw e at h in
          let l = ltb-true _ _ e in
          let same : n ≡ position_or_len (λ b. b == sep) bs = cc in
          omega arith
      | inr e ↦
          let q = rw e at h in
          absurd (cc)
    ]

pub not_found : (sep : ℕ) (bs : List ℕ) → None ≡ position (λ b. b == sep) bs → length (before sep bs) ≡ length bs
not_found sep bs h =
    elim (cases_Bool (ltb (position_or_len (λ b. b == sep) bs) (length bs))) [
      | inl e ↦
          let q = rw e at h in
          absurd (cc)
      | inr e ↦ omega (arith, before_place sep bs, before_short sep bs, ltb-false _ _ e)
    ]

-- a cut at the first separator, as slices read it

pub cut_front : (sep : ℕ) (bs : List ℕ) (n : ℕ) → n ≡ length (before sep bs) → take n bs ≡ before sep bs
cut_front sep bs n e = rw e (take_before sep bs)

pub cut_back : (sep : ℕ) (bs : List ℕ) (n : ℕ) → n ≡ length (before sep bs) → take (length bs - (n + 1)) (drop (n + 1) bs) ≡ behind sep bs
cut_back sep bs n e = rw e (take_rest bs (length (before sep bs) + 1))

pub uncut_front : (sep : ℕ) (bs : List ℕ) → length (before sep bs) ≡ length bs → bs ≡ before sep bs
uncut_front sep bs h = sym (take_all _ bs (omega arith)) ∙ take_before sep bs

pub uncut_back : (sep : ℕ) (bs : List ℕ) → length (before sep bs) ≡ length bs → [] ≡ behind sep bs
uncut_back sep bs h = sym (drop_all (length (before sep bs) + 1) bs (omega arith))
