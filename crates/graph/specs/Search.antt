-- What a search from a start has found: which nodes, in which order, and how each was reached. Rests on Nodes.
use Rattle.std.specs.Prelude.{◌≡◌, ℕ, zero, suc, ◌+◌, ◌||◌, List, [], ◌∷◌, ◌++◌, replicate, ◌==◌, slice_index_or, slice_set}
use Rattle.graph.specs.Nodes.{has}
use Rattle.graph.specs.declared.path.Found.{Found}
use Rattle.graph.specs.declared.path.Reach.{Reach}

-- how a node is reached that no node leads to
abbrev pub unreached : Reach
unreached = record { from = 0; depth = 0 }

-- the node before this one on its way from the start
abbrev pub from_of : Found → ℕ → ℕ
from_of f n = (slice_index_or f.reach n unreached).from

-- how many edges the way to this node has
abbrev pub depth_of : Found → ℕ → ℕ
depth_of f n = (slice_index_or f.reach n unreached).depth

-- only the start is found
pub record Starts (start : ℕ) (g : Found) : Type 0 where
  pub order : g.order.items ≡ start ∷ []
  pub seen : (k : ℕ) → has g.seen k ≡ (k == start)
  pub reach : g.reach ≡ replicate 64 unreached

-- one more node is found last, by an edge from another
pub record Adds (f : Found) (at to : ℕ) (g : Found) : Type 0 where
  pub order : g.order.items ≡ f.order.items ++ to ∷ []
  pub seen : (k : ℕ) → has g.seen k ≡ (has f.seen k || k == to)
  pub reach : g.reach ≡ slice_set f.reach to (record { from = at; depth = depth_of f at + 1 })

-- the way on which the search came to a node, so many nodes of it, put before some others
abbrev pub way_before : Found → ℕ → ℕ → List ℕ → List ℕ
way_before f zero node after = after
way_before f (suc k) node after = way_before f k (from_of f node) (node ∷ after)
