-- Graphs as rows of marks. Rests on Nodes.
use Rattle.std.specs.Prelude.{ℕ, Bool, ◌&&◌, List, nat_lt, slice_index}
use Rattle.graph.specs.Nodes.{has}

-- an edge leads from i to j by these rows, so many of them: row j has a mark of i
abbrev pub marked : ℕ → List ℕ → ℕ → ℕ → Bool
marked count rows i j = nat_lt j count && has (slice_index rows j) i
