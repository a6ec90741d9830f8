use Rattle.scheduler.proofs.Numbers.{Copied}
use Rattle.scheduler.proofs.tables.JobTable.numbers.Given as goal

abbrev pub invariant-loop-k : goal.invariant-loop-k
invariant-loop-k l = Copied l.self.slots l.k l.numbers
