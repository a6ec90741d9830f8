-- Laws of pieces that a separator parts. Rests on the specs of pieces.
use Rattle.std.proofs.Common.{◌≡◌, ℕ, suc, ◌+◌, ◌<◌, ◌≤◌, false, eqb, List, [], ◌∷◌, ◌++◌, length, take, sym, refl, ap, ◌∙◌, inl, inr, add-one, arith}
use Rattle.std.proofs.lemmas.Bool.{eq-eqb, ne_eqb, cases_Bool, eqb-true}
use Rattle.trace.specs.Pieces.{before, behind, onto, parted}

-- before the separator

pub before_short : (sep : ℕ) (bs : List ℕ) → length (before sep bs) ≤ length bs
before_short sep [] = omega arith
before_short sep (b ∷ bs) = elim (cases_Bool (eqb b sep)) [ inl e ↦ rw e (omega arith) | inr e ↦ rw e (omega (arith, before_short sep bs)) ]

pub take_before : (sep : ℕ) (bs : List ℕ) → take (length (before sep bs)) bs ≡ before sep bs
take_before sep [] = refl
take_before sep (b ∷ bs) = elim (cases_Bool (eqb b sep)) [ inl e ↦ rw e refl | inr e ↦ rw e (ap (λ l. b ∷ l) (take_before sep bs)) ]

-- the number of pieces

some_onto : (b : ℕ) (ps : List (List ℕ)) → 0 < length (onto b ps)
some_onto b [] = omega arith
some_onto b (p ∷ ps) = omega arith

pub some_piece : (sep : ℕ) (bs : List ℕ) → 0 < length (parted sep bs)
some_piece sep [] = omega arith
some_piece sep (b ∷ bs) = elim (cases_Bool (eqb b sep)) [ inl e ↦ rw e (omega arith) | inr e ↦ rw e (some_onto b (parted sep bs)) ]

pub length_onto : (b : ℕ) (ps : List (List ℕ)) → 0 < length ps → length (onto b ps) ≡ length ps
length_onto b [] h = absurd (omega arith)
length_onto b (p ∷ ps) h = refl

-- pieces, one by one

behind_other : (sep b : ℕ) (bs : List ℕ) → eqb b sep ≡ false → behind sep (b ∷ bs) ≡ behind sep bs
behind_other sep b bs e = rw (e, add-one, add-one) refl

onto_more : (b : ℕ) (ps qs : List (List ℕ)) (p : List ℕ) → ps ≡ p ∷ qs → onto b ps ≡ (b ∷ p) ∷ qs
onto_more b ps qs p e = ap (onto b) e

-- the first of several pieces stands before the first separator, and the others are those behind it
pub parted_more : (sep : ℕ) (bs : List ℕ) → 1 < length (parted sep bs) → parted sep bs ≡ before sep bs ∷ parted sep (behind sep bs)
parted_more sep [] h = absurd (omega arith)
parted_more sep (b ∷ bs) h = go (parted_more sep bs)
  where
    go : (1 < length (parted sep bs) → parted sep bs ≡ before sep bs ∷ parted sep (behind sep bs)) → parted sep (b ∷ bs) ≡ before sep (b ∷ bs) ∷ parted sep (behind sep (b ∷ bs))
    go ih =
        elim (cases_Bool (eqb b sep)) [
          | inl e ↦ rw e refl
          | inr e ↦
              let h' : 1 < length (onto b (parted sep bs)) = rw e at h in
              rw (behind_other sep b bs e, e) (onto_more b _ _ _ (ih (omega (arith, length_onto b (parted sep bs) (some_piece sep bs)))))
        ]

-- a lone piece is everything
pub parted_one : (sep : ℕ) (bs : List ℕ) → length (parted sep bs) ≡ 1 → parted sep bs ≡ bs ∷ []
parted_one sep [] h = refl
parted_one sep (b ∷ bs) h = go (parted_one sep bs)
  where
    go : (length (parted sep bs) ≡ 1 → parted sep bs ≡ bs ∷ []) → parted sep (b ∷ bs) ≡ (b ∷ bs) ∷ []
    go ih =
        elim (cases_Bool (eqb b sep)) [
          | inl e ↦
              let h' : suc (length (parted sep bs)) ≡ 1 = rw e at h in
              absurd (omega (arith, some_piece sep bs))
          | inr e ↦
              let h' : length (onto b (parted sep bs)) ≡ 1 = rw e at h in
              rw e (onto_more b _ _ _ (ih (omega (arith, length_onto b (parted sep bs) (some_piece sep bs)))))
        ]

pub parted_few : (sep : ℕ) (bs : List ℕ) → length (parted sep bs) ≤ length bs + 1
parted_few sep [] = omega arith
parted_few sep (b ∷ bs) =
    elim (cases_Bool (eqb b sep)) [
      | inl e ↦ rw e (omega (arith, parted_few sep bs))
      | inr e ↦ rw e (omega (arith, parted_few sep bs, length_onto b (parted sep bs) (some_piece sep bs)))
    ]

-- with no separator there is one piece
pub parted_unended : (sep : ℕ) (bs : List ℕ) → length (before sep bs) ≡ length bs → parted sep bs ≡ bs ∷ []
parted_unended sep [] h = refl
parted_unended sep (b ∷ bs) h = go (parted_unended sep bs)
  where
    go : (length (before sep bs) ≡ length bs → parted sep bs ≡ bs ∷ []) → parted sep (b ∷ bs) ≡ (b ∷ bs) ∷ []
    go ih =
        elim (cases_Bool (eqb b sep)) [
          | inl e ↦
              let h' : 0 ≡ suc (length bs) = rw e at h in
              absurd (omega arith)
          | inr e ↦
              let h' : suc (length (before sep bs)) ≡ suc (length bs) = rw e at h in
              rw e (onto_more b _ _ _ (ih (omega arith)))
        ]

-- with one, the first piece ends there
pub parted_ended : (sep : ℕ) (bs : List ℕ) → (length (before sep bs) ≡ length bs → ⊥) → parted sep bs ≡ before sep bs ∷ parted sep (behind sep bs)
parted_ended sep [] h = absurd (h refl)
parted_ended sep (b ∷ bs) h = go (parted_ended sep bs)
  where
    go : ((length (before sep bs) ≡ length bs → ⊥) → parted sep bs ≡ before sep bs ∷ parted sep (behind sep bs)) → parted sep (b ∷ bs) ≡ before sep (b ∷ bs) ∷ parted sep (behind sep (b ∷ bs))
    go ih =
        elim (cases_Bool (eqb b sep)) [
          | inl e ↦ rw e refl
          | inr e ↦
              let h' : suc (length (before sep bs)) ≡ suc (length bs) → ⊥ = rw e at h in
              rw (behind_other sep b bs e, e) (onto_more b _ _ _ (ih (λ q. h' (ap suc q))))
        ]

-- putting together again

-- pieces put together again, with a separator between any two
abbrev pub rejoined : ℕ → List (List ℕ) → List ℕ
rejoined sep [] = []
rejoined sep (p ∷ []) = p
rejoined sep (p ∷ q ∷ ps) = p ++ sep ∷ rejoined sep (q ∷ ps)

rejoined_onto : (sep b : ℕ) (ps : List (List ℕ)) → rejoined sep (onto b ps) ≡ b ∷ rejoined sep ps
rejoined_onto sep b [] = refl
rejoined_onto sep b (p ∷ []) = refl
rejoined_onto sep b (p ∷ q ∷ ps) = refl

rejoined_empty : (sep : ℕ) (ps : List (List ℕ)) → 0 < length ps → rejoined sep ([] ∷ ps) ≡ sep ∷ rejoined sep ps
rejoined_empty sep [] h = absurd (omega arith)
rejoined_empty sep (p ∷ ps) h = refl

-- pieces put together again are the bytes that were parted
pub rejoin : (sep : ℕ) (bs : List ℕ) → rejoined sep (parted sep bs) ≡ bs
rejoin sep [] = refl
rejoin sep (b ∷ bs) = go (rejoin sep bs)
  where
    go : rejoined sep (parted sep bs) ≡ bs → rejoined sep (parted sep (b ∷ bs)) ≡ b ∷ bs
    go ih =
        elim (cases_Bool (eqb b sep)) [
          | inl e ↦ rw e (rejoined_empty sep (parted sep bs) (some_piece sep bs) ∙ ap (λ l. sep ∷ l) ih ∙ ap (λ c. c ∷ bs) (sym (eqb-true b sep e)))
          | inr e ↦ rw e (rejoined_onto sep b (parted sep bs) ∙ ap (λ l. b ∷ l) ih)
        ]

-- no separator stands among the bytes
abbrev pub Free : ℕ → List ℕ → Type 0
Free sep [] = Unit {0}
Free sep (b ∷ bs) = (b ≡ sep → ⊥) × Free sep bs

pub free_append : (sep : ℕ) (p q : List ℕ) → Free sep p → Free sep q → Free sep (p ++ q)
free_append sep [] q f g = g
free_append sep (b ∷ p) q f g = (f.0, free_append sep p q f.1 g)

pub parted_none : (sep : ℕ) (p : List ℕ) → Free sep p → parted sep p ≡ p ∷ []
parted_none sep [] f = refl
parted_none sep (b ∷ p) f = rw (ne_eqb b sep f.0) (onto_more b _ _ _ (parted_none sep p f.1))

pub parted_at : (sep : ℕ) (p t : List ℕ) → Free sep p → parted sep (p ++ sep ∷ t) ≡ p ∷ parted sep t
parted_at sep [] t f = rw (eq-eqb sep sep refl) refl
parted_at sep (b ∷ p) t f = rw (ne_eqb b sep f.0) (onto_more b _ _ _ (parted_at sep p t f.1))

pub before_at : (sep : ℕ) (p t : List ℕ) → Free sep p → before sep (p ++ sep ∷ t) ≡ p
before_at sep [] t f = rw (eq-eqb sep sep refl) refl
before_at sep (b ∷ p) t f = rw (ne_eqb b sep f.0) (ap (λ l. b ∷ l) (before_at sep p t f.1))

-- bytes with a separator are what stands before it, the separator, and what stands behind it
pub split_ended : (sep : ℕ) (bs : List ℕ) → (length (before sep bs) ≡ length bs → ⊥) → bs ≡ before sep bs ++ sep ∷ behind sep bs
split_ended sep [] h = absurd (h refl)
split_ended sep (b ∷ bs) h = go (split_ended sep bs)
  where
    go : ((length (before sep bs) ≡ length bs → ⊥) → bs ≡ before sep bs ++ sep ∷ behind sep bs) → b ∷ bs ≡ before sep (b ∷ bs) ++ sep ∷ behind sep (b ∷ bs)
    go ih =
        elim (cases_Bool (eqb b sep)) [
          | inl e ↦ rw e (ap (λ c. c ∷ bs) (eqb-true b sep e))
          | inr e ↦
              let h' : suc (length (before sep bs)) ≡ suc (length bs) → ⊥ = rw e at h in
              rw (behind_other sep b bs e, e) (ap (λ l. b ∷ l) (ih (λ q. h' (ap suc q))))
        ]
