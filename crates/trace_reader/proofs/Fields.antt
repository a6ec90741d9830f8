-- A line that has four fields. Rests on the laws of pieces.
use Rattle.std.proofs.Common.{◌≡◌, ℕ, ◌<◌, eqb, List, [], ◌∷◌, length, get_or, drop, Some, Err, sym, refl, ap, ◌∙◌, subst, inl, inr, arith, ◌≤◌, None}
use Rattle.trace.specs.declared.fault.FieldFault.TheVariants.{NoKind}
use Rattle.trace.specs.declared.fault.LineCause.TheVariants.{Field}
use Rattle.std.proofs.lemmas.Bool.{cases_Bool, eqb-true, ne_eqb}
use Rattle.trace.specs.declared.kind.Kind.{Kind}
use Rattle.trace.specs.Kinds.{kind_of}
use Rattle.trace.specs.Lines.{act_on, act_in, act_as, act_of, in_line, kind_in}
use Rattle.trace.specs.Pieces.{parted, before, behind}
use Rattle.trace.proofs.Parting.{parted_more, parted_one, parted_few}

-- the four fields, each cut off in turn
four_fields : (line : List ℕ) → length (parted 44 line) ≡ 4 → act_on line ≡ in_line (act_as (kind_in (before 44 line)) (before 44 (behind 44 line)) (before 44 (behind 44 (behind 44 line))) (behind 44 (behind 44 (behind 44 line))))
four_fields line h =
    let r₁ = behind 44 line in
    let r₂ = behind 44 r₁ in
    let r₃ = behind 44 r₂ in
    let e₁ = parted_more 44 line (omega arith) in
    let l₁ : length (parted 44 r₁) ≡ 3 = omega (arith, ap length e₁) in
    let e₂ = parted_more 44 r₁ (omega arith) in
    let l₂ : length (parted 44 r₂) ≡ 2 = omega (arith, ap length e₂) in
    let e₃ = parted_more 44 r₂ (omega arith) in
    let l₃ : length (parted 44 r₃) ≡ 1 = omega (arith, ap length e₃) in
    ap act_in (e₁ ∙ ap (λ ps. before 44 line ∷ ps) (e₂ ∙ ap (λ ps. before 44 r₁ ∷ ps) (e₃ ∙ ap (λ ps. before 44 r₂ ∷ ps) (parted_one 44 r₃ l₃))))

unnamed : (line : List ℕ) → length (parted 44 line) ≡ 4 → kind_in (before 44 line) ≡ None → Err (Field NoKind) ≡ act_on line
unnamed line four e = sym (four_fields line four ∙ ap (λ k. in_line (act_as k (before 44 (behind 44 line)) (before 44 (behind 44 (behind 44 line))) (behind 44 (behind 44 (behind 44 line))))) e)

-- a line of four fields has two bytes at least
pub no_kind_short : (line : List ℕ) → length (parted 44 line) ≡ 4 → length line < 2 → Err (Field NoKind) ≡ act_on line
no_kind_short line four short = absurd (omega (arith, parted_few 44 line))

-- without a comma behind its first byte it has no kind
long_kind : (line : List ℕ) → 2 ≤ length line → (get_or line 1 0 ≡ 44 → ⊥) → kind_in (before 44 line) ≡ None
long_kind [] two ne = refl
long_kind (c ∷ []) two ne = absurd (omega arith)
long_kind (c ∷ d ∷ r) two ne = elim (cases_Bool (eqb c 44)) [ inl e ↦ rw e refl | inr e ↦ rw (e, ne_eqb d 44 ne) refl ]

pub no_kind_long : (line : List ℕ) → length (parted 44 line) ≡ 4 → (get_or line 1 0 ≡ 44 → ⊥) → Err (Field NoKind) ≡ act_on line
no_kind_long line four ne = unnamed line four (long_kind line (omega (arith, parted_few 44 line)) ne)

lone_kind : (c : ℕ) (r : List ℕ) → kind_in (before 44 (c ∷ 44 ∷ r)) ≡ kind_of c
lone_kind c r = elim (cases_Bool (eqb c 44)) [ inl e ↦ rw e (ap kind_of (sym (eqb-true c 44 e))) | inr e ↦ rw e refl ]

-- a letter that names no kind
pub no_kind_named : (line : List ℕ) → length (parted 44 line) ≡ 4 → get_or line 1 0 ≡ 44 → kind_of (get_or line 0 0) ≡ None → Err (Field NoKind) ≡ act_on line
no_kind_named [] four comma e = absurd (omega arith)
no_kind_named (c ∷ []) four comma e = absurd (omega arith)
no_kind_named (c ∷ d ∷ r) four comma e = unnamed (c ∷ d ∷ r) four (subst (λ d. kind_in (before 44 (c ∷ d ∷ r)) ≡ None) (sym comma) (lone_kind c r ∙ e))

-- a letter that names a kind is no comma
behind_kind : (c : ℕ) (r : List ℕ) (k : Kind) → kind_of c ≡ Some k → behind 44 (c ∷ 44 ∷ r) ≡ r
behind_kind c r k h = elim (cases_Bool (eqb c 44)) [ inl e ↦ let q = sym (ap kind_of (eqb-true c 44 e)) ∙ h in absurd (cc) | inr e ↦ rw e refl ]

named_at : (c : ℕ) (r : List ℕ) (k : Kind) → length (parted 44 (c ∷ 44 ∷ r)) ≡ 4 → kind_of c ≡ Some k → act_on (c ∷ 44 ∷ r) ≡ in_line (act_of k (before 44 r) (before 44 (behind 44 r)) (behind 44 (behind 44 r)))
named_at c r k four h =
    four_fields (c ∷ 44 ∷ r) four
    ∙ ap (λ s. in_line (act_as (kind_in (before 44 (c ∷ 44 ∷ r))) (before 44 s) (before 44 (behind 44 s)) (behind 44 (behind 44 s)))) (behind_kind c r k h)
    ∙ ap (λ o. in_line (act_as o (before 44 r) (before 44 (behind 44 r)) (behind 44 (behind 44 r)))) (lone_kind c r ∙ h)

pub kind_named : (line : List ℕ) (k : Kind) → length (parted 44 line) ≡ 4 → get_or line 1 0 ≡ 44 → kind_of (get_or line 0 0) ≡ Some k → in_line (act_of k (before 44 (drop 2 line)) (before 44 (behind 44 (drop 2 line))) (behind 44 (behind 44 (drop 2 line)))) ≡ act_on line
kind_named [] k four comma e = absurd (omega arith)
kind_named (c ∷ []) k four comma e = absurd (omega arith)
kind_named (c ∷ d ∷ r) k four comma e =
    let P : ℕ → Type 0 = λ d. length (parted 44 (c ∷ d ∷ r)) ≡ 4 → in_line (act_of k (before 44 r) (before 44 (behind 44 r)) (behind 44 (behind 44 r))) ≡ act_on (c ∷ d ∷ r) in
    subst P (sym comma) (λ h. sym (named_at c r k h e)) four
