use Rattle.std.proofs.Common.{◌<◌, sym, ◌∙◌, arith}
use Rattle.verdict.specs.Ledgers.{count}
use Rattle.verdict.proofs.Ledgers.{found_never, counted, keeps_open}
use Rattle.verdict.proofs.reading.open.Goals as goal

pub returns : goal.returns
returns c H k =
    let l = c.args.ledger.now in
    let new = found_never H l k c.args.job c.find.result c.find.ensures.found (sym c.is_some.ensures ∙ c.if-is_some.false) in
    let room : count l < 64 = grind arith in
    (new, omega (arith, counted H l k), keeps_open H l c.add.new.self c.args.job k new room c.add.ensures)
