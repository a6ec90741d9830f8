use Rattle.std.proofs.Common.{◌==◌, get_or, ◌∙◌, rules}
use borrow.Author.Tests.{tests}
use Rattle.std.proofs.lemmas.Iterator.{YieldsList-from_slice}
use Rattle.std.proofs.lemmas.Iterator.Consumers.{YieldsList-at, count_from_yields_List}
use Rattle.std.proofs.lemmas.Iterator.Search.{YieldsList-from_take_while}
use Rattle.std.proofs.lemmas.List.Folds.{length-prefix_len}
use Rattle.store.specs.Records.{whole, records}
use Rattle.store.proofs.Records.{count_marked}
use Rattle.store.proofs.log_bytes.count_used.Goals as goal

pub returns : goal.returns
returns c =
    let all = records c.args.bytes.now (whole c.args.bytes.now) in
    count_from_yields_List _ _ c.count.ensures.ran (YieldsList-from_take_while _ (λ r. get_or r 0 0 == 165) (YieldsList-at c.take_while.ensures.source (YieldsList-from_slice all cc)) c.take_while.ensures.closure c.take_while.ensures.done (λ x b q k. search (rules, tests))) ∙ length-prefix_len (λ r. get_or r 0 0 == 165) all ∙ count_marked c.args.bytes.now
