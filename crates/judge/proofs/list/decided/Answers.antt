use Rattle.std.proofs.Common.{Some, take, rules}
use Rattle.std.proofs.lemmas.Iterator.{items_from_collect, YieldsList-from_map, YieldsList-from_slice}
use Rattle.std.proofs.lemmas.Iterator.Adapters.{YieldsList-from_once}
use Rattle.std.proofs.lemmas.Iterator.Consumers.{YieldsList-at, YieldsList-from_chain}
use Rattle.judge.specs.declared.line.Line.TheVariants.{Decided, Job}
use Rattle.judge.specs.Prints.{verdict_count}
use Rattle.judge.proofs.list.decided.Goals as goal

pub returns : goal.returns
returns c =
    items_from_collect c.collect.result c.collect.ensures.ran
    (YieldsList-from_chain
    (YieldsList-at c.chain.ensures.first (YieldsList-from_once (Some (Decided c.args.verdict)) c.once.ensures.item))
    (YieldsList-at c.chain.ensures.second (YieldsList-from_map _ Job (YieldsList-at c.map.ensures.source (YieldsList-from_slice (take (verdict_count c.args.verdict) c.args.numbers.now) (cc (c.iter-jobs.ensures.rest, c.count.ensures)))) c.map.ensures.closure (λ x r q k. search rules)))
    c.chain.ensures.first_done c.chain.ensures.second_done)
