use Rattle.std.proofs.Common.{◌<◌, length, arith}
use Rattle.graph.proofs.Orders.{placed_room}
use Rattle.graph.proofs.order.topological_order.Goals as goal
use Rattle.graph.proofs.order.topological_order.Goals.{In-Some}

-- one more node is found only where fewer are placed than the graph has
space : (g : _) (c : In-Some g) → length c.loop-node.order.items < 64
space g c =
    omega (
      arith,
      g.G.Graph.few c.args.graph.now,
      placed_room _ _ c.args.keys.now _ c.loop-node.order.items _ c.in-Some.node c.loop-node.invariant c.in-Some.ensures,
    )

pub push-requires : goal.push-requires
push-requires g c = (omega arith, space g (goal.at.push-requires g c).In-Some)

pub loop-node-smaller : goal.loop-node-smaller
loop-node-smaller g c = omega (arith, space g (goal.at.loop-node-smaller g c).In-Some)
