-- Lists of nodes as the code holds them. Rests on nothing.
use Rattle.std.specs.Prelude.{ℕ, List, take}
use Rattle.graph.specs.declared.list.NodeList.{NodeList}

-- the nodes of the list, first to last
abbrev pub listed : NodeList → List ℕ
listed l = take l.count l.nodes
