use Rattle.std.proofs.Common.{arith}
use Rattle.scheduler.specs.Marks.{ItemWithout}
use Rattle.scheduler.specs.Reading.{idle}
use Rattle.scheduler.proofs.Sounds.{item_without_idle}
use Rattle.scheduler.proofs.Swept.{swept_all}
use Rattle.scheduler.proofs.sweeps.clear_items.Goals as goal

pub returns : goal.returns
returns c = (
  c.loop-item.invariant.long,
  swept_all (λ _. ItemWithout c.args.job c.args.slot) idle c.args.items.now c.loop-item.item-index c.loop-item.items c.loop-item.invariant (omega arith) (item_without_idle c.args.job c.args.slot),
)
