-- Digits and the numbers that they write. Rests on the specs of numbers.
use Rattle.std.proofs.Common.{◌≡◌, ℕ, ◌-◌, ◌<◌, ◌≤◌, min, true, cond, List, length, get_or, take, Some, None, refl, ap, inl, inr, arith}
use Rattle.std.specs.Str.Parse.{AllDigits, digits_value}
use Rattle.std.specs.Int.{IsInRange}
use Rattle.std.specs.Char.{digit_value}
use Rattle.std.specs.Str.{all_ascii_digits}
use Rattle.std.proofs.lemmas.List.{take_all}
use Rattle.std.proofs.lemmas.Str.Parse.{digit_at}
use Rattle.std.proofs.lemmas.Bool.{cases_Bool}
use Rattle.std.proofs.lemmas.Str.{digit_value_digit}
use Rattle.trace.proofs.Saying.{own}

pub digit_below : (c : ℕ) → IsInRange 48 57 c → (digit_value c < 10) × (digit_value c ≡ c - 48)
digit_below c h = omega (arith, digit_value_digit c h)

-- a byte that is no digit leaves no number
pub no_value : (ds : List ℕ) (i : ℕ) → i < length ds → (IsInRange 48 57 (get_or ds i 0) → ⊥) → None ≡ cond (all_ascii_digits ds) (Some (min (digits_value 10 ds) 4294967296)) None
no_value ds i h ne = elim (cases_Bool (all_ascii_digits ds)) [ inl e ↦ absurd (ne (digit_at ds i (own.to ds e) h)) | inr e ↦ rw e refl ]

-- at the end of the digits the number so far is theirs
pub all_value : (ds : List ℕ) (total i : ℕ) → length ds ≤ i → AllDigits 10 (take i ds) → total ≡ min (digits_value 10 (take i ds)) 4294967296 → Some total ≡ cond (all_ascii_digits ds) (Some (min (digits_value 10 ds) 4294967296)) None
all_value ds total i h d e =
    let whole = take_all i ds h in
    let all : all_ascii_digits ds ≡ true = own.from ds (rw whole at d) in
    rw all (ap Some (rw whole at e))
