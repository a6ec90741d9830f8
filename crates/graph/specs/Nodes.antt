-- Sets of nodes as words. Rests on nothing.
use Rattle.std.specs.Prelude.{◌≡◌, ℕ, ◌/◌, ◌%◌, ◌^◌, ◌<◌, Bool, true, false, Some, None, Option, ◌==◌}

-- the node is in the set: its bit of the word is 1
unfoldable pub has : ℕ → ℕ → Bool
has set node = (set / 2 ^ node % 2) == 1

-- a node of the set is answered, or it has none and none is answered
abbrev pub MemberOf : ℕ → Option ℕ → Type 0
MemberOf set None = (k : ℕ) → has set k ≡ false
MemberOf set (Some n) = (n < 64) × (has set n ≡ true)
