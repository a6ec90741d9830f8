-- What the searches answer. Rests on Paths and Lists.
use Rattle.std.specs.Prelude.{◌≡◌, ℕ, ◌≤◌, length, Some, None, Option}
use Rattle.graph.specs.Lists.{listed}
use Rattle.graph.specs.Paths.{Relation, Path, Cycle, ShowsPath, ShowsCycle}
use Rattle.graph.specs.declared.list.NodeList.{NodeList}

-- there is a path from start to goal and its nodes are answered, or there is none and none is answered
abbrev pub Finds : Relation → ℕ → ℕ → Option NodeList → Type 0
Finds E start goal None = Path E start goal → ⊥
Finds E start goal (Some l) = Path E start goal × ShowsPath E start goal (listed l) × (l.count ≤ 64) × (length l.nodes ≡ 64)

-- there is a cycle and the nodes of one are answered, or there is none and none is answered
abbrev pub FindsCycle : Relation → Option NodeList → Type 0
FindsCycle E None = Cycle E → ⊥
FindsCycle E (Some l) = Cycle E × ShowsCycle E (listed l) × (l.count ≤ 64) × (length l.nodes ≡ 64)
