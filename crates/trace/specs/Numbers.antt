-- Numbers as digits. Rests on the faults, and on the standard library's words for digits.
use Rattle.std.specs.Prelude.{ℕ, Bool, cond, not, ◌&&◌, List, length, Ok, Err, Result, ◌==◌, nat_le, nat_lt, slice_index}
use Rattle.std.specs.Str.Parse.{digits_value}
use Rattle.std.specs.Str.{all_ascii_digits}
use Rattle.trace.specs.declared.fault.NumberFault.{NumberFault}
use Rattle.trace.specs.declared.fault.NumberFault.TheVariants.{AboveLimit, NotANumber}

-- the first digit is 0 and more follow
abbrev pub leading_zero : List ℕ → Bool
leading_zero ds = slice_index ds 0 == 48 && nat_lt 1 (length ds)

-- one digit or more and nothing else, with no leading zero
abbrev pub is_number : List ℕ → Bool
is_number ds = (nat_lt 0 (length ds) && all_ascii_digits ds) && not (leading_zero ds)

-- the number that the bytes write, up to a limit
abbrev pub number_of : ℕ → List ℕ → Result ℕ NumberFault
number_of limit ds =
    cond (is_number ds) (cond (nat_le (digits_value 10 ds) limit) (Ok (digits_value 10 ds)) (Err AboveLimit)) (Err NotANumber)
