use Rattle.history.proofs.Laws.{one_outcome}
use Rattle.history.proofs.promises.one_outcome.Goals as goal

pub returns : goal.returns
returns c = one_outcome
