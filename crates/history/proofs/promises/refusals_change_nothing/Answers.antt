use Rattle.history.proofs.Laws.{refusals_change_nothing, conflicts_abort}
use Rattle.history.proofs.promises.refusals_change_nothing.Goals as goal

pub returns : goal.returns
returns c = record { others = refusals_change_nothing; conflicts = conflicts_abort }
