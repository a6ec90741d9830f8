use Rattle.history.proofs.Laws.{exact_test}
use Rattle.history.proofs.promises.exact_test.Goals as goal

pub returns : goal.returns
returns c = exact_test
