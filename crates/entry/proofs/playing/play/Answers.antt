use Rattle.std.proofs.Common.{refl, arith}
use Rattle.scheduler.specs.Reading.{state}
use Rattle.entry.proofs.Turns.{replying_more}
use Rattle.entry.proofs.playing.play.Goals as goal

pub loop-at-preserved : goal.loop-at-preserved
unfolding state
loop-at-preserved c = (
  omega arith,
  replying_more _ c.args.requests.now c.args.replies.now _ c.loop-at.at c.loop-at.replies c.in-Some.act c.loop-at.list c.take.new.list c.take.result c.into.result _
      (omega arith) c.requires c.in-Some.ensures c.loop-at.invariant.0 refl c.take.ensures.takes c.into.ensures c.loop-at.invariant.1,
)
