use Rattle.scheduler.specs.Reading.{idle}
use Rattle.scheduler.specs.Marks.{ItemWithout}
use Rattle.scheduler.proofs.Swept.{Swept}
use Rattle.scheduler.proofs.sweeps.clear_items.Given as goal

abbrev pub invariant-loop-item : goal.invariant-loop-item
invariant-loop-item l = Swept (λ _. ItemWithout l.job l.slot) idle l.item-index l.initial.items l.items
