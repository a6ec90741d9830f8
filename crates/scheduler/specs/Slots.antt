-- Slots of the job table, and which of them belongs to a job. Rests on nothing.
use Rattle.std.specs.Prelude.{◌≡◌, ℕ, suc, Bool, true, false, cond, not, ◌&&◌, List, [], ◌∷◌, map, ◌==◌, nat_lt, slice_index_or}
use Rattle.graph.specs.Nodes.{has}
use Rattle.history.specs.Machine.{Status, absent, running, committed}
use Rattle.scheduler.specs.declared.slots.Slot.{Slot}
use Rattle.scheduler.specs.declared.slots.SlotStatus.{SlotStatus}
use Rattle.scheduler.specs.declared.slots.SlotStatus.TheVariants.{Free, Running, Committed}

-- what the machine says of the job of a slot
abbrev pub status_of : SlotStatus → Status
status_of Free = absent
status_of Running = running
status_of Committed = committed

-- the slot is not free
abbrev pub taken : SlotStatus → Bool
taken Free = false
taken Running = true
taken Committed = true

-- the slot is taken by job j
abbrev pub belongs : ℕ → Slot → Bool
belongs j s = taken s.status && s.job == j

abbrev pub free_slot : Slot
free_slot = record { job = 0; status = Free }

-- slot k of the table; past its end there are only free ones
abbrev pub slot : List Slot → ℕ → Slot
slot slots k = slice_index_or slots k free_slot

-- the first slot that passes a test, or how many slots there are if none does
abbrev pub first : (Slot → Bool) → List Slot → ℕ
first p [] = 0
first p (s ∷ slots) = cond (p s) 0 (suc (first p slots))

-- the slot of job j
abbrev pub slot_of : ℕ → List Slot → ℕ
slot_of j slots = first (belongs j) slots

abbrev pub is_free : Slot → Bool
is_free s = not (taken s.status)

-- the two say the same
abbrev pub same_status : SlotStatus → SlotStatus → Bool
same_status Free Free = true
same_status Free Running = false
same_status Free Committed = false
same_status Running Free = false
same_status Running Running = true
same_status Running Committed = false
same_status Committed Free = false
same_status Committed Running = false
same_status Committed Committed = true

-- the set of the slots that say this
abbrev pub SlotsWith : SlotStatus → List Slot → ℕ → Type 0
SlotsWith status slots set = (a : ℕ) → has set a ≡ (nat_lt a 32 && same_status (slot slots a).status status)

-- the numbers in the slots
abbrev pub numbers : List Slot → List ℕ
numbers slots = map (λ s. s.job) slots
