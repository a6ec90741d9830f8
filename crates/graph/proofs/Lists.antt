-- Members of a list of nodes: one more at the end, and how many distinct ones there can be.
use Rattle.std.proofs.Common.{◌≡◌, ℕ, zero, suc, ◌<◌, ◌≤◌, cond, eqb, ◌⊎◌, List, [], ◌∷◌, ◌++◌, length, get_or, replicate, sym, refl, ap, subst, inl, inr, ⊎_elim, arith}
use Rattle.std.proofs.lemmas.Bool.{cond_both, eqb-true, eqb-false}
use Rattle.graph.specs.Paths.{◌∈◌, Distinct}

pub in_left : (a : ℕ) (xs ys : List ℕ) → a ∈ xs → a ∈ (xs ++ ys)
in_left a [] ys h = absurd h
in_left a (x ∷ xs) ys (inl e) = inl e
in_left a (x ∷ xs) ys (inr h) = inr (in_left a xs ys h)

pub in_right : (a : ℕ) (xs ys : List ℕ) → a ∈ ys → a ∈ (xs ++ ys)
in_right a [] ys h = h
in_right a (x ∷ xs) ys h = inr (in_right a xs ys h)

pub in_either : (a : ℕ) (xs ys : List ℕ) → a ∈ (xs ++ ys) → (a ∈ xs) ⊎ (a ∈ ys)
in_either a [] ys h = inr h
in_either a (x ∷ xs) ys (inl e) = inl (inl e)
in_either a (x ∷ xs) ys (inr h) = ⊎_elim (λ l. inl (inr l)) inr (in_either a xs ys h)

pub in_push : (a : ℕ) (xs : List ℕ) (y : ℕ) → a ∈ (xs ++ y ∷ []) → (a ∈ xs) ⊎ (a ≡ y)
in_push a xs y h = ⊎_elim inl (⊎_elim inr (λ i. absurd i)) (in_either a xs (y ∷ []) h)

pub distinct_push : (xs : List ℕ) (y : ℕ) → Distinct xs → (y ∈ xs → ⊥) → Distinct (xs ++ y ∷ [])
distinct_push [] y d h = ((λ i. i), tt)
distinct_push (x ∷ xs) y d h =
    ((λ i. ⊎_elim d.0 (λ e. h (inl (sym e))) (in_push x xs y i)), distinct_push xs y d.1 (λ i. h (inr i)))

-- the list without its first n
strike : ℕ → List ℕ → List ℕ
strike n [] = []
strike n (x ∷ xs) = cond (eqb x n) xs (x ∷ strike n xs)

in_strike : (n a : ℕ) (xs : List ℕ) → a ∈ strike n xs → a ∈ xs
unfolding strike
in_strike n a [] = λ h. h
in_strike n a (x ∷ xs) =
    cond_both (eqb x n) xs (x ∷ strike n xs) (λ l. a ∈ l → a ∈ (x ∷ xs))
    (λ _ h. inr h) (λ _ h. ⊎_elim inl (λ i. inr (in_strike n a xs i)) h)

strike_distinct : (n : ℕ) (xs : List ℕ) → Distinct xs → Distinct (strike n xs)
unfolding strike
strike_distinct n [] d = tt
strike_distinct n (x ∷ xs) d =
    cond_both (eqb x n) xs (x ∷ strike n xs) Distinct
    (λ _. d.1) (λ _. ((λ i. d.0 (in_strike n x xs i)), strike_distinct n xs d.1))

strike_gone : (n : ℕ) (xs : List ℕ) → Distinct xs → n ∈ strike n xs → ⊥
unfolding strike
strike_gone n [] d = λ h. h
strike_gone n (x ∷ xs) d =
    cond_both (eqb x n) xs (x ∷ strike n xs) (λ l. n ∈ l → ⊥)
    (λ e h. d.0 (subst (λ y. y ∈ xs) (sym (eqb-true x n e)) h))
    (λ e h. ⊎_elim (λ p. eqb-false x n e (sym p)) (strike_gone n xs d.1) h)

strike_length : (n : ℕ) (xs : List ℕ) → length xs ≤ suc (length (strike n xs))
unfolding strike
strike_length n [] = omega arith
strike_length n (x ∷ xs) =
    cond_both (eqb x n) xs (x ∷ strike n xs) (λ l. length (x ∷ xs) ≤ suc (length l))
    (λ _. omega arith) (λ _. omega (arith, strike_length n xs))

-- there are at most n distinct numbers below n
pub distinct_few : (n : ℕ) (xs : List ℕ) → Distinct xs → ((a : ℕ) → a ∈ xs → a < n) → length xs ≤ n
distinct_few zero [] d b = omega arith
distinct_few zero (x ∷ xs) d b = absurd (omega (arith, b x (inl refl)))
distinct_few (suc n) xs d b =
    let below : (a : ℕ) → a ∈ strike n xs → a < n = λ a i.
    let h = b a (in_strike n a xs i) in
    let ne : a ≡ n → ⊥ = λ e. strike_gone n xs d (subst (λ y. y ∈ strike n xs) e i) in omega arith in
    omega (arith, strike_length n xs, distinct_few n (strike n xs) (strike_distinct n xs d) below)

-- what stands at a place of a list is a member of it
pub in_at : (xs : List ℕ) (k : ℕ) → k < length xs → get_or xs k 0 ∈ xs
in_at [] k l = absurd (omega arith)
in_at (x ∷ xs) zero l = inl refl
in_at (x ∷ xs) (suc k) l = inr (in_at xs k (omega arith))

-- a member of a list stands at some place of it
pub place_of : (xs : List ℕ) (a : ℕ) → a ∈ xs → (k : ℕ) × (k < length xs) × (get_or xs k 0 ≡ a)
place_of [] a h = absurd h
place_of (x ∷ xs) a (inl e) = (zero, omega arith, sym e)
place_of (x ∷ xs) a (inr h) = let p = place_of xs a h in (suc p.0, omega (arith, p.1), p.2)

-- in a list without repetition a number stands at one place
pub one_place : (xs : List ℕ) (p q : ℕ) → Distinct xs → p < length xs → q < length xs → get_or xs p 0 ≡ get_or xs q 0 → p ≡ q
one_place [] p q d l m e = absurd (omega arith)
one_place (x ∷ xs) zero zero d l m e = refl
one_place (x ∷ xs) zero (suc q) d l m e = absurd (d.0 (subst (λ n. n ∈ xs) (sym e) (in_at xs q (omega arith))))
one_place (x ∷ xs) (suc p) zero d l m e = absurd (d.0 (subst (λ n. n ∈ xs) e (in_at xs p (omega arith))))
one_place (x ∷ xs) (suc p) (suc q) d l m e = ap suc (one_place xs p q d.1 (omega arith) (omega arith) e)

-- a list of one thing has it at every place, also past its end
pub all_same : {A : Type 0} (k n : ℕ) (d : A) → get_or (replicate k d) n d ≡ d
all_same zero n d = refl
all_same (suc k) zero d = refl
all_same (suc k) (suc n) d = all_same k n d
