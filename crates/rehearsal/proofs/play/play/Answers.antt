use Rattle.std.proofs.Common.{refl, arith}
use Rattle.scheduler.specs.Reading.{state}
use Rattle.rehearsal.proofs.Playing.{telling_more}
use Rattle.rehearsal.proofs.play.play.Goals as goal

pub loop-step-preserved : goal.loop-step-preserved
unfolding state
loop-step-preserved c = telling_more _ c.args.steps.now _ _ _ c.loop-step.step-index _ _ (omega arith) refl c.in_ok-take_turn.ensures c.loop-step.invariant
