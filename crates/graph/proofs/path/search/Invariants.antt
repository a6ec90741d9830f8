use Rattle.std.proofs.Common.{◌≡◌, ◌-◌, None}
use Rattle.graph.specs.Graphs.{edges_of}
use Rattle.graph.proofs.Search.{Searched, Searching}
use Rattle.graph.proofs.path.search.Given as goal

abbrev pub invariant-loop-to : goal.invariant-loop-to
invariant-loop-to g l =
    Searching (edges_of g.G.Graph l.graph) (g.G.Graph.size l.graph) l.start l.goal l.found l.head l.at l.to
    × (l.last ≡ None)

abbrev pub invariant-search : goal.invariant-search
invariant-search g l =
    Searched (edges_of g.G.Graph l.graph) (g.G.Graph.size l.graph) l.start l.goal l.found l.head
    × (l.last ≡ None)

abbrev pub decreases-search : goal.decreases-search
decreases-search g l = 64 - l.head
