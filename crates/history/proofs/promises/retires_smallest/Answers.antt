use Rattle.history.proofs.Laws.{retires_smallest}
use Rattle.history.proofs.promises.retires_smallest.Goals as goal

pub returns : goal.returns
returns c = retires_smallest
