-- The edges of a graph, and of a part of it. Rests on Paths and Nodes.
use Rattle.std.specs.Prelude.{ℕ, ◌<◌, Bool, T}
use Rattle.graph.specs.Nodes.{has}
use Rattle.graph.specs.Paths.{Relation}

-- an edge leads from i to j in the graph of this size: both are nodes of it
abbrev pub Edges : ℕ → (ℕ → ℕ → Bool) → Relation
Edges size leads i j = (i < size) × (j < size) × T (leads i j)

-- an edge that leads from a node of the set to a node of the set
abbrev pub Within : ℕ → Relation → Relation
Within set E i j = T (has set i) × T (has set j) × E i j
