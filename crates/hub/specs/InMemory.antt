-- A hub over a store in lent memory. Rests on the machine.
use Rattle.std.specs.Prelude.{ℕ, List, replicate}
use Rattle.history.specs.Machine.{State, made}
use Rattle.scheduler.specs.Cores.{machine}
use Rattle.store.specs.Memories.{memory_values, memory_room}
use Rattle.store.specs.declared.memory.MemoryStore.{MemoryStore}
use Rattle.hub.specs.declared.hub.Hub.{Hub}

-- the state of the machine for such a hub: `machine_of` of this store, written out, since a clause that names
-- the store's bound there would need a lifetime, and has none to write
abbrev pub in_memory : Hub MemoryStore → State
in_memory hub = machine hub.core (memory_values hub.store) (memory_room hub.store)

-- the room of a store in memory, which no put takes from
abbrev pub plenty : ℕ
plenty = 4294967295

-- 64 items that hold 0
abbrev pub zeros : List ℕ
zeros = replicate 64 0

-- a hub that was just made: 32 slots, no job, the number of the first, and what the memory holds
abbrev pub start : ℕ → List ℕ → State
start first opening = made 32 first opening plenty
