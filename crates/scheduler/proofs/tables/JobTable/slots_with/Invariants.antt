use Rattle.std.proofs.Common.{◌≡◌, ◌&&◌, ltb}
use Rattle.graph.specs.Nodes.{has}
use Rattle.scheduler.specs.Slots.{slot, same_status}
use Rattle.scheduler.proofs.tables.JobTable.slots_with.Given as goal

abbrev pub invariant-loop-k : goal.invariant-loop-k
invariant-loop-k l = (a : _) → has l.set a ≡ (ltb a l.k && same_status (slot l.self.slots a).status l.status)
