use Rattle.std.proofs.Common.{arith}
use Rattle.entry.proofs.Turns.{plays_all, asked_front}
use Rattle.entry.proofs.playing.sathkeif_play.Goals as goal

pub returns : goal.returns
returns c =
    plays_all _ _ c.args.first _ _ c.args.requests.now c.args.replies.now _ _
    c.new-hub.ensures.made c.new.ensures.means.0 (asked_front c.args.requests.now _ _ (omega arith)) c.play.ensures
