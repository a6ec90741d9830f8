use Rattle.std.proofs.Common.{refl, arith}
use Rattle.scheduler.proofs.Numbers.{copied_more, copied_all}
use Rattle.scheduler.proofs.tables.JobTable.numbers.Goals as goal

pub loop-k-init : goal.loop-k-init
loop-k-init c = record { long = refl; front = refl }

pub loop-k-preserved : goal.loop-k-preserved
loop-k-preserved c = copied_more c.args.self.now.slots c.loop-k.k c.loop-k.numbers _ c.loop-k.invariant (omega arith) (omega arith)

pub returns : goal.returns
returns c = copied_all c.args.self.now.slots c.loop-k.k c.loop-k.numbers c.loop-k.invariant (omega arith) (omega arith)
