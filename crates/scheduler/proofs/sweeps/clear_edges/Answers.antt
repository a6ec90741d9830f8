use Rattle.std.proofs.Common.{arith}
use Rattle.scheduler.specs.Marks.{RowWithout}
use Rattle.scheduler.proofs.Sounds.{row_without_none}
use Rattle.scheduler.proofs.Swept.{swept_all}
use Rattle.scheduler.proofs.sweeps.clear_edges.Goals as goal

pub returns : goal.returns
returns c = (
  c.loop-to.invariant.long,
  swept_all (RowWithout c.args.slot) 0 c.args.rows.now c.loop-to.to c.loop-to.rows c.loop-to.invariant (omega arith) (row_without_none c.args.slot),
)
