use Rattle.history.proofs.Examples.{worked_examples}
use Rattle.history.proofs.promises.worked_examples.Goals as goal

pub returns : goal.returns
returns c = worked_examples
