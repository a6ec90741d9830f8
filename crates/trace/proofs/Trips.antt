-- Acts that were written out are read back. Rests on Readings and Saying.
use Rattle.std.proofs.Common.{◌≡◌, ℕ, ◌+◌, ◌-◌, ◌≤◌, cond, List, [], ◌∷◌, ◌++◌, length, drop, Some, None, Ok, sym, refl, ap, ◌∙◌, arith, length-append}
use Rattle.std.proofs.lemmas.List.{append_assoc, drop_at}
use Rattle.std.proofs.lemmas.Bool.{ne_eqb}
use Rattle.trace.specs.declared.act.Act.{Act}
use Rattle.trace.specs.declared.fault.LinePlace.{LinePlace}
use Rattle.trace.specs.declared.fault.ReadRefusal.TheVariants.{Full}
use Rattle.trace.specs.Lines.{act_on, line_of, Sayable}
use Rattle.trace.specs.Pieces.{parted, before}
use Rattle.trace.specs.Traces.{first_line, in_place, with_length, ends, also, place_of, reading, written, AllSayable}
use Rattle.trace.proofs.Parting.{before_at}
use Rattle.trace.proofs.Readings.{first_ended, good_line}
use Rattle.trace.proofs.Saying.{line_written, body, body_ended, free_body}

line_first : (a : Act) (t : List ℕ) → line_of a ++ t ≡ body a ++ 10 ∷ t
line_first a t = ap (λ l. l ++ t) (sym (body_ended a)) ∙ append_assoc (body a) (10 ∷ []) t

pub first_written : (place : LinePlace) (a : Act) (t : List ℕ) → Sayable a → first_line place (line_of a ++ t) ≡ Ok (a, length (line_of a))
first_written place a t h =
    let bs = line_of a ++ t in
    let front : before 10 bs ≡ body a = ap (before 10) (line_first a t) ∙ before_at 10 (body a) t (free_body a h) in
    let long : length (body a) + 1 ≡ length (line_of a) = sym (length-append (body a) (10 ∷ [])) ∙ ap length (body_ended a) in
    let ne : length (before 10 bs) ≡ length bs → ⊥ = λ q. omega (arith, ap length front, length-append (line_of a) t) in
    first_ended place bs ne
    ∙ ap (λ l. with_length (length l + 1) (in_place place (act_on l))) front
    ∙ ap (λ r. with_length (length (body a) + 1) (in_place place r)) (line_written a h)
    ∙ ap (λ n. Ok (a, n)) long

pub reading_written : (room n start : ℕ) (acts : List Act) → AllSayable acts → length acts ≤ room → reading room n start (parted 10 (written acts)) ≡ record { acts = acts; stop = None }
reading_written room n start [] h l = refl
reading_written room n start (a ∷ acts) h l =
    let bs = line_of a ++ written acts in
    let k = length (line_of a) in
    let g = (good_line room n start bs a k (first_written (place_of n start) a (written acts) h.0)).0 in
    let later = reading (room - 1) (n + 1) (start + k) (parted 10 (drop k bs)) in
    g
    ∙ ap (λ t. cond t (ends (Some (Full n))) (also a later)) (ne_eqb room 0 (omega arith))
    ∙ ap (λ l. also a (reading (room - 1) (n + 1) (start + k) (parted 10 l))) (drop_at (line_of a) (written acts) k refl)
    ∙ ap (also a) (reading_written (room - 1) (n + 1) (start + k) acts h.1 (omega arith))
