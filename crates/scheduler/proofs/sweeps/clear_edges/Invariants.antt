use Rattle.scheduler.specs.Marks.{RowWithout}
use Rattle.scheduler.proofs.Swept.{Swept}
use Rattle.scheduler.proofs.sweeps.clear_edges.Given as goal

abbrev pub invariant-loop-to : goal.invariant-loop-to
invariant-loop-to l = Swept (RowWithout l.slot) 0 l.to l.initial.rows l.rows
