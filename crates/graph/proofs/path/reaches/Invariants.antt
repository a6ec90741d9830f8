use Rattle.std.proofs.Common.{◌+◌, ◌-◌, ◌*◌, ◌^◌, ◌<◌}
use Rattle.graph.specs.Graphs.{edges_of}
use Rattle.graph.proofs.Reach.{Reaching}
use Rattle.graph.proofs.path.reaches.Given as goal

abbrev pub invariant-loop-at : goal.invariant-loop-at
invariant-loop-at g l =
    (l.seen < 2 ^ 64) × (l.left < 2 ^ 64)
    × Reaching (edges_of g.G.Graph l.graph) l.goal l.seen l.left

abbrev pub decreases-loop-at : goal.decreases-loop-at
decreases-loop-at g l = 2 * (2 ^ 64 - l.seen) + l.left
