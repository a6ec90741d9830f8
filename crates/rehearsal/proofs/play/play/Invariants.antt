use Rattle.std.proofs.Common.{drop, vec_items}
use Rattle.hub.specs.InMemory.{in_memory}
use Rattle.rehearsal.proofs.Playing.{Telling}
use Rattle.rehearsal.proofs.play.play.Given as goal

abbrev pub invariant-loop-step : goal.invariant-loop-step
invariant-loop-step l =
    Telling (in_memory l.initial.hub) l.steps (vec_items l.initial.lines) (in_memory l.hub) (drop l.step-index l.steps) (vec_items l.lines)
