-- How long a line is: its fields and what stands between them.
use Rattle.std.proofs.Common.{◌≡◌, ℕ, ◌+◌, List, [], ◌∷◌, ◌++◌, length, arith, length-append}
use Rattle.trace.specs.declared.act.Act.{Act}
use Rattle.trace.specs.Kinds.{letter}
use Rattle.trace.specs.Lines.{field_text, job_of, item_of, value_of, kind_of_act, line_of}
use Rattle.trace.proofs.Saying.{lined}

pub length_lined : (b : ℕ) (j x v : List ℕ) → length (lined b j x v) ≡ 5 + length j + length x + length v
length_lined b j x v =
    omega (arith, length-append j (44 ∷ (x ++ 44 ∷ (v ++ 10 ∷ []))), length-append x (44 ∷ (v ++ 10 ∷ [])), length-append v (10 ∷ []))

pub length_line : (a : Act) → length (line_of a) ≡ 5 + length (field_text (job_of a)) + length (field_text (item_of a)) + length (field_text (value_of a))
length_line a = length_lined (letter (kind_of_act a)) (field_text (job_of a)) (field_text (item_of a)) (field_text (value_of a))
