use Rattle.rehearsal.proofs.Playing.{rehearsed}
use Rattle.rehearsal.proofs.play.rehearse_on.Goals as goal

-- what the hub promises where it is made holds of the run that was made here
pub returns : goal.returns
returns c =
    rehearsed _ _ c.args.first _ _ _ c.args.steps.now _ _
    c.new-hub.ensures.made c.new.ensures.means.0 c.new.ensures.means.1 c.new-hub.ensures.serializable c.new-lines.ensures.items
    c.in_ok-play.ensures
