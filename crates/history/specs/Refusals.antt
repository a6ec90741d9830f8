-- The refusals of a hub: their numbers, which of them aborts the job, and who holds the item. Rests on nothing.
use Rattle.std.specs.Prelude.{ℕ, Bool, true, false, Some, None, Option}
use Rattle.history.specs.declared.refusal.Refusal.{Refusal}
use Rattle.history.specs.declared.refusal.Refusal.TheVariants.{TableFull, NumbersSpent, NotPresent, AlreadyCommitted, ItemNotServed, ItemHeld, ClosesCycle, NoRoom}

-- the number by which a refusal is known
abbrev pub refusal_number : Refusal → ℕ
refusal_number TableFull = 1
refusal_number NumbersSpent = 2
refusal_number NotPresent = 3
refusal_number AlreadyCommitted = 4
refusal_number ItemNotServed = 5
refusal_number (ItemHeld holder) = 6
refusal_number ClosesCycle = 7
refusal_number NoRoom = 8

-- a step that would close a cycle aborts its job; every other refusal changes nothing
abbrev pub aborts : Refusal → Bool
aborts TableFull = false
aborts NumbersSpent = false
aborts NotPresent = false
aborts AlreadyCommitted = false
aborts ItemNotServed = false
aborts (ItemHeld holder) = false
aborts ClosesCycle = true
aborts NoRoom = false

-- a refusal tells who holds the item, if it is held
abbrev pub holder : Refusal → Option ℕ
holder TableFull = None
holder NumbersSpent = None
holder NotPresent = None
holder AlreadyCommitted = None
holder ItemNotServed = None
holder (ItemHeld job) = Some job
holder ClosesCycle = None
holder NoRoom = None
