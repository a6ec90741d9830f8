-- The edges of a graph, as its trait tells them. Rests on Edges.
use Rattle.graph.specs.Edges.{Edges}
use Rattle.graph.specs.Paths.{Relation}
use Rattle.graph.specs.declared.graph.Graph.{Ghosts}

-- the edges of this graph, by the ghost members of its bound
abbrev pub edges_of : {S : Type 0} → Ghosts S → S → Relation
edges_of members graph = Edges (members.size graph) (members.leads graph)
