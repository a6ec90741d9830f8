-- A step on an item: what it asks of the machine, and what is noted at the item. Rests on the machine.
use Rattle.std.specs.Prelude.{◌≡◌, ℕ, Bool, true, false, ◌&&◌, ◌||◌, Some, None, Ok, Err, Result, ◌==◌, nat_lt}
use Rattle.graph.specs.Nodes.{has}
use Rattle.history.specs.declared.refusal.Refusal.{Refusal}
use Rattle.history.specs.Machine.{State, Call, read, write, refusal, granted_state, refused_state}
use Rattle.scheduler.specs.declared.items.Access.{Access}
use Rattle.scheduler.specs.declared.items.Access.TheVariants.{Read, Write}
use Rattle.scheduler.specs.declared.tables.ItemState.{ItemState}

-- the step is a write
abbrev pub writes : Access → Bool
writes Read = false
writes (Write v) = true

-- the call that a step of job j on item x is
abbrev pub asked : ℕ → ℕ → Access → Call
asked j x Read = read j x
asked j x (Write v) = write j x v

-- the call is granted and leads to state t, or it is refused so
abbrev pub Leads : {A : Type 0} → State → Call → Result A Refusal → State → Type 0
Leads s c (Ok u) t = (refusal s c ≡ None) × (t ≡ granted_state s c t.room)
Leads s c (Err r) t = (refusal s c ≡ Some r) × (t ≡ refused_state s c r)

-- a set of slots with slot k
abbrev pub SetWith : ℕ → ℕ → ℕ → Type 0
SetWith k set set' = (a : ℕ) → has set' a ≡ (has set a || (nat_lt k 64 && a == k))

-- an item after a step of job j, whose slot is k: it has one reader more, or one writer, who holds it
abbrev pub ItemNoted : Access → ℕ → ℕ → ItemState → ItemState → Type 0
ItemNoted Read j k it it' = (it'.held ≡ it.held) × SetWith k it.readers it'.readers × (it'.writers ≡ it.writers)
ItemNoted (Write v) j k it it' =
    (it'.held ≡ Some (record { job = j; value = v })) × (it'.readers ≡ it.readers) × SetWith k it.writers it'.writers
