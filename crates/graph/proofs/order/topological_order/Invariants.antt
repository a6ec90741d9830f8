use Rattle.std.proofs.Common.{◌-◌, length}
use Rattle.graph.specs.Graphs.{edges_of}
use Rattle.graph.specs.Nodes.{has}
use Rattle.graph.proofs.Orders.{Placed}
use Rattle.graph.proofs.order.topological_order.Given as goal

abbrev pub invariant-loop-node : goal.invariant-loop-node
invariant-loop-node g l =
    Placed (edges_of g.G.Graph l.graph) (g.G.Graph.size l.graph) l.keys (has l.set) l.order.items (has l.left)

abbrev pub decreases-loop-node : goal.decreases-loop-node
decreases-loop-node g l = 64 - length l.order.items
