use Rattle.std.proofs.Common.{length, arith}
use Rattle.verdict.proofs.Shows.{cycle_fits, cycle_jobs, cycle_decides, order_fits, order_jobs, order_decides}
use Rattle.verdict.proofs.judge.decide.Goals as goal

pub put-requires : goal.put-requires
put-requires c = record {
  fits = cycle_fits c.args.ledger.now c.in-Some.cycle (length c.args.numbers.now) c.requires c.in-Some.ensures;
  jobs = cycle_jobs c.args.ledger.now c.in-Some.cycle (length c.args.numbers.now) c.requires c.in-Some.ensures;
}

pub put-requires-in-None : goal.put-requires-in-None
put-requires-in-None c = record {
  fits = order_fits c.args.ledger.now c.order_of-order.result (length c.args.numbers.now) c.requires c.order_of-order.ensures c.in-None.ensures;
  jobs = order_jobs c.args.ledger.now c.order_of-order.result (length c.args.numbers.now) c.requires c.order_of-order.ensures c.in-None.ensures;
}

pub returns-in-Some : goal.returns-in-Some
returns-in-Some c H k =
    let fits = cycle_fits c.args.ledger.now c.in-Some.cycle (length c.args.numbers.now) c.requires c.in-Some.ensures in
    cycle_decides H c.args.ledger.now k c.in-Some.cycle c.args.numbers.now c.put.new.numbers (omega (arith, fits, c.put.auto.numbers))
    c.put.ensures.front c.put.ensures.rest c.in-Some.ensures

pub returns-in-None : goal.returns-in-None
returns-in-None c H k =
    let fits = order_fits c.args.ledger.now c.order_of-order.result (length c.args.numbers.now) c.requires c.order_of-order.ensures c.in-None.ensures in
    order_decides H c.args.ledger.now k c.order_of-order.result c.args.numbers.now c.put-in-None.new.numbers (omega (arith, fits, c.put-in-None.auto.numbers))
    c.put-in-None.ensures.front c.put-in-None.ensures.rest c.order_of-order.ensures c.in-None.ensures
