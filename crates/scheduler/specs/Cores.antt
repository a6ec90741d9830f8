-- The scheduler read as the machine. Rests on Reading.
use Rattle.std.specs.Prelude.{ℕ, cond, List, Some, None, Option, Result, ◌==◌}
use Rattle.history.specs.declared.holding.Holding.{Holding}
use Rattle.history.specs.declared.refusal.Refusal.{Refusal}
use Rattle.history.specs.Machine.{State}
use Rattle.scheduler.specs.declared.hub_core.Core.{Core}
use Rattle.scheduler.specs.Reading.{item, state, Ended}

-- the state of the machine that the scheduler stands for, over a store with these values and this room
abbrev pub machine : Core → List ℕ → ℕ → State
machine core values room = state core.tables values room

-- who holds an item, and the value held there
abbrev pub held_in : Core → ℕ → Option Holding
held_in core x = (item core.tables.items x).held

-- the value held, if this job holds it
abbrev pub value_of : ℕ → Option Holding → Option ℕ
value_of j None = None
value_of j (Some h) = cond (h.job == j) (Some h.value) None

-- what job j holds at item x
abbrev pub held_by : Core → ℕ → ℕ → Option ℕ
held_by core j x = value_of j (held_in core x)

-- job j has ended, or it does not run, and nothing has changed
abbrev pub Ends : {A : Type 0} → Core → ℕ → Result A Refusal → Core → Type 0
Ends core j r core' = Ended core.tables j r core'.tables
