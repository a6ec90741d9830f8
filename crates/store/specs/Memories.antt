-- What a store in lent memory means. Rests on nothing.
use Rattle.std.specs.Prelude.{◌≡◌, ℕ, List, slice_set}
use Rattle.store.specs.declared.memory.MemoryStore.{MemoryStore}

-- the values of its items: those that stand in the memory
abbrev pub memory_values : MemoryStore → List ℕ
memory_values store = store.values.now

-- its room, which no put takes from
abbrev pub memory_room : MemoryStore → ℕ
memory_room store = 4294967295

-- what it becomes by a put: it stands in the same lent memory, where one value is replaced
abbrev pub memory_becomes : MemoryStore → ℕ → ℕ → MemoryStore → Type 0
memory_becomes store item value store' =
    (memory_values store' ≡ slice_set (memory_values store) item value) × (store'.values.ghost_name ≡ store.values.ghost_name)
