use Rattle.history.proofs.Equivalence as equivalence
use Rattle.history.proofs.promises.serializable_exactly_without_cycle.Goals as goal

pub returns : goal.returns
returns c = equivalence.serializable_exactly_without_cycle
