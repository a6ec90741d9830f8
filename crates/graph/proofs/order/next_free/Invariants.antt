use Rattle.graph.specs.Graphs.{edges_of}
use Rattle.graph.specs.Nodes.{has}
use Rattle.graph.specs.Orders.{Picks}
use Rattle.graph.proofs.order.next_free.Given as goal

abbrev pub invariant-loop-node : goal.invariant-loop-node
invariant-loop-node g l =
    Picks (edges_of g.G.Graph l.graph) l.node l.keys (has l.left) (has l.eligible) l.best
