-- What is left of the edges and of the items when a job's slot is taken out. Rests on Reading and on the
-- machine.
use Rattle.std.specs.Prelude.{◌≡◌, ℕ, Bool, not, IsTrue, ◌↔◌, ◌&&◌, ◌||◌, List, length, set, ◌==◌}
use Rattle.graph.specs.Edges.{Edges}
use Rattle.graph.specs.Nodes.{has}
use Rattle.graph.specs.Paths.{Path}
use Rattle.history.specs.Machine.{let_go}
use Rattle.scheduler.specs.declared.tables.ItemState.{ItemState}
use Rattle.scheduler.specs.Reading.{item, row}

-- row b without slot k: empty if it is slot k's own, and else without the mark of k
abbrev pub RowWithout : ℕ → ℕ → ℕ → ℕ → Type 0
RowWithout k b marks marks' = (a : ℕ) → has marks' a ≡ (not (b == k) && (not (a == k) && has marks a))

-- the edges without those from slot k and those to it
abbrev pub EdgesWithout : ℕ → List ℕ → List ℕ → Type 0
EdgesWithout k rows rows' = (length rows' ≡ length rows) × ((b : ℕ) → RowWithout k b (row rows b) (row rows' b))

-- a set of slots without slot k
abbrev pub SetWithout : ℕ → ℕ → ℕ → Type 0
SetWithout k set set' = (a : ℕ) → has set' a ≡ (not (a == k) && has set a)

-- an item without job j, whose slot is k
abbrev pub ItemWithout : ℕ → ℕ → ItemState → ItemState → Type 0
ItemWithout j k it it' =
    (it'.held ≡ let_go j it.held) × SetWithout k it.readers it'.readers × SetWithout k it.writers it'.writers

-- all items without job j, whose slot is k
abbrev pub ItemsWithout : ℕ → ℕ → List ItemState → List ItemState → Type 0
ItemsWithout j k items items' = (length items' ≡ length items) × ((x : ℕ) → ItemWithout j k (item items x) (item items' x))

-- an item that job j holds no more
abbrev pub ItemLetGo : ℕ → ItemState → ItemState → Type 0
ItemLetGo j it it' =
    (it'.held ≡ let_go j it.held) × (it'.readers ≡ it.readers) × (it'.writers ≡ it.writers)

-- all items, none of which job j holds any more
abbrev pub ItemsLetGo : ℕ → List ItemState → List ItemState → Type 0
ItemsLetGo j items items' = (length items' ≡ length items) × ((x : ℕ) → ItemLetGo j (item items x) (item items' x))

-- slots from which a step on an item draws edges to slot k: those of its other writers, and for a write
-- those of its other readers too
abbrev pub Sources : ItemState → Bool → ℕ → ℕ → Type 0
Sources it writes k from = (a : ℕ) → has from a ≡ ((has it.writers a || writes && has it.readers a) && not (a == k))

-- an edge between slots, with those from a set of slots to slot k drawn
abbrev pub slot_edge : List ℕ → ℕ → ℕ → ℕ → ℕ → Bool
slot_edge rows k from a b = has (row rows b) a || b == k && has from a

-- row k has got the marks of a set of slots, and no other row has changed
abbrev pub Draws : List ℕ → ℕ → ℕ → List ℕ → Type 0
Draws rows k from rows' =
    (rows' ≡ set rows k (row rows' k)) × ((a : ℕ) → has (row rows' k) a ≡ (has (row rows k) a || has from a))

-- with these edges drawn, a path leads from slot k to itself exactly when the answer is true
abbrev pub TellsCycle : List ℕ → ℕ → ℕ → Bool → Type 0
TellsCycle rows k from r = IsTrue r ↔ (Path (Edges 32 (slot_edge rows k from)) k k)
