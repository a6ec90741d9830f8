use Rattle.scheduler.specs.Reading.{idle}
use Rattle.scheduler.specs.Marks.{ItemLetGo}
use Rattle.scheduler.proofs.Swept.{Swept}
use Rattle.scheduler.proofs.sweeps.release_items.Given as goal

abbrev pub invariant-loop-item : goal.invariant-loop-item
invariant-loop-item l = Swept (λ _. ItemLetGo l.job) idle l.item-index l.initial.items l.items
