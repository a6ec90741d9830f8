-- The reading of a trace, line by line. Rests on the laws of pieces.
use Rattle.std.proofs.Common.{◌≡◌, ℕ, ◌+◌, ◌-◌, ◌<◌, ◌≤◌, List, [], ◌∷◌, length, drop, Some, Ok, Err, Result, sym, refl, ap, ◌∙◌, inl, inr, arith}
use Rattle.std.proofs.lemmas.Bool.{cases_eq, eq-eqb, ne_eqb}
use Rattle.trace.specs.declared.act.Act.{Act}
use Rattle.trace.specs.declared.fault.LineCause.{LineCause}
use Rattle.trace.specs.declared.fault.LinePlace.{LinePlace}
use Rattle.trace.specs.declared.fault.LineFault.{LineFault}
use Rattle.trace.specs.declared.fault.LineCause.TheVariants.{Unended}
use Rattle.trace.specs.declared.fault.ReadRefusal.TheVariants.{Line}
use Rattle.trace.specs.Lines.{act_on}
use Rattle.trace.specs.Pieces.{parted, before, behind}
use Rattle.trace.specs.Traces.{in_place, with_length, first_line, ends, place_of, at_fault, line_read, reading}
use Rattle.trace.proofs.Parting.{take_before, some_piece, parted_unended, parted_ended, before_short}

-- the reading, one line on

reading_line : (room n start : ℕ) (line : List ℕ) (ps : List (List ℕ)) → 0 < length ps → reading room n start (line ∷ ps) ≡ line_read room (place_of n start) (act_on line) (reading (room - 1) (n + 1) (start + (length line + 1)) ps)
reading_line room n start line [] h = absurd (omega arith)
reading_line room n start line (p ∷ ps) h = refl

-- the reading of bytes that are ended
ended_reading : (room n start : ℕ) (bs : List ℕ) → (length (before 10 bs) ≡ length bs → ⊥) → reading room n start (parted 10 bs) ≡ line_read room (place_of n start) (act_on (before 10 bs)) (reading (room - 1) (n + 1) (start + (length (before 10 bs) + 1)) (parted 10 (behind 10 bs)))
ended_reading room n start bs ne =
    ap (reading room n start) (parted_ended 10 bs ne) ∙ reading_line room n start (before 10 bs) (parted 10 (behind 10 bs)) (some_piece 10 (behind 10 bs))

apart : {X Y : Type 0} (x : X) (y : Y) → Ok x ≡ Err y → ⊥
apart x y e = cc

unended_reading : (room n start : ℕ) (bs : List ℕ) → 0 < length bs → length (before 10 bs) ≡ length bs → reading room n start (parted 10 bs) ≡ ends (Some (at_fault (place_of n start) Unended))
unended_reading room n start [] h e = absurd (omega arith)
unended_reading room n start (b ∷ bs) h e = ap (reading room n start) (parted_unended 10 (b ∷ bs) e)

pub first_unended : (place : LinePlace) (bs : List ℕ) → length (before 10 bs) ≡ length bs → first_line place bs ≡ Err (record { place = place; what = Unended })
first_unended place bs e = rw (eq-eqb (length (before 10 bs)) (length bs) e) refl

pub first_ended : (place : LinePlace) (bs : List ℕ) → (length (before 10 bs) ≡ length bs → ⊥) → first_line place bs ≡ with_length (length (before 10 bs) + 1) (in_place place (act_on (before 10 bs)))
first_ended place bs ne =
    rw (ne_eqb (length (before 10 bs)) (length bs) ne)
    (ap (λ l. with_length (length (before 10 bs) + 1) (in_place place (act_on l))) (take_before 10 bs))

pub bad_line : (room n start : ℕ) (bs : List ℕ) (f : LineFault) → 0 < length bs → first_line (place_of n start) bs ≡ Err f → reading room n start (parted 10 bs) ≡ ends (Some (Line f))
bad_line room n start bs f h e = elim (cases_eq (length (before 10 bs)) (length bs)) [ inl q ↦ short q | inr ne ↦ by (act_on (before 10 bs)) refl ne ]
  where
    short : length (before 10 bs) ≡ length bs → reading room n start (parted 10 bs) ≡ ends (Some (Line f))
    short q = let g = first_unended (place_of n start) bs q in let r = unended_reading room n start bs h q in cc

    by : (r : Result Act LineCause) → act_on (before 10 bs) ≡ r → (length (before 10 bs) ≡ length bs → ⊥) → reading room n start (parted 10 bs) ≡ ends (Some (Line f))
    by (Ok a) q ne = absurd (apart _ _ (sym (first_ended (place_of n start) bs ne ∙ ap (λ r. with_length (length (before 10 bs) + 1) (in_place (place_of n start) r)) q) ∙ e))
    by (Err w) q ne =
        let g = first_ended (place_of n start) bs ne ∙ ap (λ r. with_length (length (before 10 bs) + 1) (in_place (place_of n start) r)) q in
        let r = ended_reading room n start bs ne ∙ ap (λ r. line_read room (place_of n start) r (reading (room - 1) (n + 1) (start + (length (before 10 bs) + 1)) (parted 10 (behind 10 bs)))) q in
        cc

abbrev act_part : Act → Result (Act × ℕ) LineFault → Act
act_part d (Ok p) = p.0
act_part d (Err f) = d

abbrev length_part : ℕ → Result (Act × ℕ) LineFault → ℕ
length_part d (Ok p) = p.1
length_part d (Err f) = d

-- what a good first line says of the bytes
pub first_said : (place : LinePlace) (bs : List ℕ) (a : Act) (k : ℕ) → first_line place bs ≡ Ok (a, k) → (act_on (before 10 bs) ≡ Ok a) × (k ≡ length (before 10 bs) + 1) × (length (before 10 bs) ≡ length bs → ⊥)
first_said place bs a k e = elim (cases_eq (length (before 10 bs)) (length bs)) [ inl q ↦ absurd (apart _ _ (sym e ∙ first_unended place bs q)) | inr ne ↦ by (act_on (before 10 bs)) refl ne ]
  where
    by : (r : Result Act LineCause) → act_on (before 10 bs) ≡ r → (length (before 10 bs) ≡ length bs → ⊥) → (act_on (before 10 bs) ≡ Ok a) × (k ≡ length (before 10 bs) + 1) × (length (before 10 bs) ≡ length bs → ⊥)
    by (Err w) q ne = absurd (apart _ _ (sym e ∙ first_ended place bs ne ∙ ap (λ r. with_length (length (before 10 bs) + 1) (in_place place r)) q))
    by (Ok b) q ne =
        let g = sym e ∙ first_ended place bs ne ∙ ap (λ r. with_length (length (before 10 bs) + 1) (in_place place r)) q in
        (q ∙ ap Ok (sym (ap (act_part a) g)), ap (length_part k) g, ne)

pub good_line : (room n start : ℕ) (bs : List ℕ) (a : Act) (k : ℕ) → first_line (place_of n start) bs ≡ Ok (a, k) → (reading room n start (parted 10 bs) ≡ line_read room (place_of n start) (Ok a) (reading (room - 1) (n + 1) (start + k) (parted 10 (drop k bs)))) × (0 < k) × (k ≤ length bs)
good_line room n start bs a k e =
    let s = first_said (place_of n start) bs a k e in
    let ne = s.2 in
    let ek = sym s.1 in
    let short = before_short 10 bs in (
      ended_reading room n start bs ne
          ∙ ap (λ r. line_read room (place_of n start) r (reading (room - 1) (n + 1) (start + (length (before 10 bs) + 1)) (parted 10 (behind 10 bs)))) s.0
          ∙ ap (λ k. line_read room (place_of n start) (Ok a) (reading (room - 1) (n + 1) (start + k) (parted 10 (drop k bs)))) ek,
      omega arith,
      omega arith,
    )
