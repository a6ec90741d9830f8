-- Lists of numbers: membership, tests over them, numbers that rise.
use Rattle.std.proofs.Common.{◌≡◌, ℕ, zero, suc, ◌+◌, ◌<◌, ◌≤◌, Bool, true, false, ◌||◌, T, eqb, ◌⊎◌, List, [], ◌∷◌, ◌++◌, sym, refl, ap, ◌∙◌, inl, inr, arith}
use Rattle.std.proofs.lemmas.Bool.{eqb-true, eq-eqb, cases_eq, cases_Bool, or_cases, or_left, or_right}
use Rattle.graph.specs.Paths.{Relation, ◌∈◌, Distinct, Forward}
use Rattle.history.specs.Machine.{rising, those, any}

-- a false test is not a true one
pub true_not_false : {X : Type 0} (b : Bool) → b ≡ true → b ≡ false → X
true_not_false b p q = let z : ◌≡◌ {A = Bool} true false = cc in absurd (mathlib.Core.Bool.true≢false z)

pub T_true : (b : Bool) → T b → b ≡ true
T_true true t = refl
T_true false t = absurd t

pub true_T : (b : Bool) → b ≡ true → T b
true_T b p = rw p tt

-- membership in joined lists
pub ∈-left : (a : ℕ) (xs ys : List ℕ) → a ∈ xs → a ∈ (xs ++ ys)
∈-left a [] ys h = absurd h
∈-left a (x ∷ xs) ys (inl e) = inl e
∈-left a (x ∷ xs) ys (inr h) = inr (∈-left a xs ys h)

pub ∈-right : (a : ℕ) (xs ys : List ℕ) → a ∈ ys → a ∈ (xs ++ ys)
∈-right a [] ys h = h
∈-right a (x ∷ xs) ys h = inr (∈-right a xs ys h)

pub ∈-split : (a : ℕ) (xs ys : List ℕ) → a ∈ (xs ++ ys) → (a ∈ xs) ⊎ (a ∈ ys)
∈-split a [] ys h = inr h
∈-split a (x ∷ xs) ys (inl e) = inl (inl e)
∈-split a (x ∷ xs) ys (inr h) =
    elim (∈-split a xs ys h) [ inl k ↦ inl (inr k) | inr k ↦ inr k ]

-- membership as a test
unfoldable pub mem : ℕ → List ℕ → Bool
mem a [] = false
mem a (x ∷ xs) = eqb a x || mem a xs

pub mem-∈ : (a : ℕ) (xs : List ℕ) → mem a xs ≡ true → a ∈ xs
unfolding mem
mem-∈ a [] p = true_not_false false p refl
mem-∈ a (x ∷ xs) p =
    elim (or_cases (eqb a x) (mem a xs) p) [ inl q ↦ inl (eqb-true a x q) | inr q ↦ inr (mem-∈ a xs q) ]

pub ∈-mem : (a : ℕ) (xs : List ℕ) → a ∈ xs → mem a xs ≡ true
unfolding mem
∈-mem a [] h = absurd h
∈-mem a (x ∷ xs) (inl e) = or_left (eqb a x) (mem a xs) (eq-eqb a x e)
∈-mem a (x ∷ xs) (inr h) = or_right (eqb a x) (mem a xs) (∈-mem a xs h)

pub ∈-dec : (a : ℕ) (xs : List ℕ) → (a ∈ xs) ⊎ (a ∈ xs → ⊥)
∈-dec a xs =
    elim (cases_Bool (mem a xs))
    [ inl p ↦ inl (mem-∈ a xs p) | inr p ↦ inr (λ h. true_not_false (mem a xs) (∈-mem a xs h) p) ]

-- those that pass a test
module _ (p : ℕ → Bool) where
  pub those_yes : (x : ℕ) (xs : List ℕ) → p x ≡ true → those p (x ∷ xs) ≡ x ∷ those p xs
  unfolding those
  those_yes x xs e = rw e

  pub those_no : (x : ℕ) (xs : List ℕ) → p x ≡ false → those p (x ∷ xs) ≡ those p xs
  unfolding those
  those_no x xs e = rw e

  pub ∈-those : (a : ℕ) (xs : List ℕ) → a ∈ xs → p a ≡ true → a ∈ those p xs
  ∈-those a [] h q = absurd h
  ∈-those a (x ∷ xs) (inl k) q =
      let e : p x ≡ true = ap p (sym k) ∙ q in
      rw (those_yes x xs e) (inl k)
  ∈-those a (x ∷ xs) (inr k) q =
      elim (cases_Bool (p x)) [
        | inl e ↦ rw (those_yes x xs e) (inr (∈-those a xs k q))
        | inr e ↦ rw (those_no x xs e) (∈-those a xs k q)
      ]

  pub those-∈ : (a : ℕ) (xs : List ℕ) → a ∈ those p xs → (a ∈ xs) × (p a ≡ true)
  unfolding those
  those-∈ a [] h = absurd h
  those-∈ a (x ∷ xs) h =
      elim (cases_Bool (p x)) [
        | inl e ↦
            let k : (a ≡ x) ⊎ (a ∈ those p xs) = rw (those_yes x xs e) at h in
            elim k [ inl q ↦ (inl q, ap p q ∙ e) | inr q ↦ (inr (those-∈ a xs q).0, (those-∈ a xs q).1) ]
        | inr e ↦
            let k : a ∈ those p xs = rw (those_no x xs e) at h in
            (inr (those-∈ a xs k).0, (those-∈ a xs k).1)
      ]

  pub any_true : (xs : List ℕ) → any p xs ≡ true → (a : ℕ) × (a ∈ xs) × (p a ≡ true)
  unfolding any
  any_true [] e = true_not_false false e refl
  any_true (x ∷ xs) e =
      elim (or_cases (p x) (any p xs) e)
      [ inl q ↦ (x, inl refl, q) | inr q ↦ let r = any_true xs q in (r.0, inr r.1, r.2) ]

  pub true_any : (a : ℕ) (xs : List ℕ) → a ∈ xs → p a ≡ true → any p xs ≡ true
  unfolding any
  true_any a [] h q = absurd h
  true_any a (x ∷ xs) (inl k) q = or_left (p x) (any p xs) (ap p (sym k) ∙ q)
  true_any a (x ∷ xs) (inr k) q = or_right (p x) (any p xs) (true_any a xs k q)

  pub distinct_those : (xs : List ℕ) → Distinct xs → Distinct (those p xs)
  unfolding those
  distinct_those [] d = tt
  distinct_those (x ∷ xs) d =
      elim (cases_Bool (p x)) [
        | inl e ↦ rw (those_yes x xs e) ((λ h. d.0 (those-∈ x xs h).0), distinct_those xs d.1)
        | inr e ↦ rw (those_no x xs e) (distinct_those xs d.1)
      ]

-- numbers that rise
pub ∈-rising : (a n b : ℕ) → a ≤ b → b < a + n → b ∈ rising a n
unfolding rising
∈-rising a zero b h k = absurd (omega arith)
∈-rising a (suc n) b h k =
    elim (cases_eq b a) [
      | inl e ↦ inl e
      | inr e ↦ inr (∈-rising (suc a) n b (omega arith) (omega arith))
    ]

pub rising-∈ : (a n b : ℕ) → b ∈ rising a n → (a ≤ b) × (b < a + n)
unfolding rising
rising-∈ a zero b h = absurd h
rising-∈ a (suc n) b (inl e) = omega arith
rising-∈ a (suc n) b (inr h) = let r = rising-∈ (suc a) n b h in omega arith

pub distinct_rising : (a n : ℕ) → Distinct (rising a n)
unfolding rising
distinct_rising a zero = tt
distinct_rising a (suc n) =
    ((λ h. let r = rising-∈ (suc a) n a h in omega arith), distinct_rising (suc a) n)

-- no number of the list is followed by a smaller one
abbrev pub Ascending : List ℕ → Type 0
Ascending [] = Unit {0}
Ascending (x ∷ xs) = ((y : ℕ) → y ∈ xs → x ≤ y) × Ascending xs

pub ascending_rising : (a n : ℕ) → Ascending (rising a n)
unfolding rising
ascending_rising a zero = tt
ascending_rising a (suc n) =
    ((λ y h. let r = rising-∈ (suc a) n y h in omega arith), ascending_rising (suc a) n)

pub ascending_those : (p : ℕ → Bool) (xs : List ℕ) → Ascending xs → Ascending (those p xs)
unfolding those
ascending_those p [] a = tt
ascending_those p (x ∷ xs) a =
    elim (cases_Bool (p x)) [
      | inl e ↦ rw (those_yes p x xs e) ((λ y h. a.0 y (those-∈ p y xs h).0), ascending_those p xs a.1)
      | inr e ↦ rw (those_no p x xs e) (ascending_those p xs a.1)
    ]

-- so the first is the smallest
pub first_smallest : (j : ℕ) (js : List ℕ) → Ascending (j ∷ js) → (i : ℕ) → i ∈ (j ∷ js) → j ≤ i
first_smallest j js a i (inl e) = omega arith
first_smallest j js a i (inr h) = a.0 i h

-- lists in which no edge leads back
module _ (E : Relation) where
  pub forward_join : (xs ys : List ℕ) → Forward E xs → Forward E ys
      → ((x y : ℕ) → x ∈ xs → y ∈ ys → E y x → ⊥) → Forward E (xs ++ ys)
  forward_join [] ys f g c = g
  forward_join (x ∷ xs) ys f g c = (
    (λ y h e. elim (∈-split y xs ys h) [ inl k ↦ f.0 y k e | inr k ↦ c x y (inl refl) k e ]),
    forward_join xs ys f.1 g (λ a b h. c a b (inr h)),
  )

  pub forward_those : (p : ℕ → Bool) (xs : List ℕ) → Forward E xs → Forward E (those p xs)
  unfolding those
  forward_those p [] f = tt
  forward_those p (x ∷ xs) f =
      elim (cases_Bool (p x)) [
        | inl e ↦ rw (those_yes p x xs e) ((λ y h. f.0 y (those-∈ p y xs h).0), forward_those p xs f.1)
        | inr e ↦ rw (those_no p x xs e) (forward_those p xs f.1)
      ]

pub forward_weaken : (E D : Relation) (xs : List ℕ)
    → ((x y : ℕ) → x ∈ xs → y ∈ xs → D y x → E y x) → Forward E xs → Forward D xs
forward_weaken E D [] w f = tt
forward_weaken E D (x ∷ xs) w f = (
  (λ y h d. f.0 y h (w x y (inl refl) (inr h) d)),
  forward_weaken E D xs (λ a b h k. w a b (inr h) (inr k)) f.1,
)

pub distinct_join : (xs ys : List ℕ) → Distinct xs → Distinct ys → ((x : ℕ) → x ∈ xs → x ∈ ys → ⊥)
    → Distinct (xs ++ ys)
distinct_join [] ys d e c = e
distinct_join (x ∷ xs) ys d e c = (
  (λ h. elim (∈-split x xs ys h) [ inl k ↦ d.0 k | inr k ↦ c x (inl refl) k ]),
  distinct_join xs ys d.1 e (λ a h. c a (inr h)),
)
