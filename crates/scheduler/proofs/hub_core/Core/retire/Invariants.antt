use Rattle.scheduler.proofs.RetireRuns.{Retired}
use Rattle.scheduler.proofs.hub_core.Core.retire.Given as goal

abbrev pub invariant-loop-count : goal.invariant-loop-count
invariant-loop-count l = Retired l.initial.self.tables l.initial.list l.count l.self.tables l.list
