use Rattle.std.proofs.Common.{arith}
use Rattle.std.proofs.lemmas.Result.{err_from_is_err_and}
use Rattle.scheduler.proofs.Permits.{read_refused, read_answered}
use Rattle.scheduler.proofs.hub_core.Core.read.Goals as goal

pub returns-in_err-step : goal.returns-in_err-step
returns-in_err-step c = let p = err_from_is_err_and c.from_residual.result c.from_residual.ensures.1 in rw (p.1, p.2)
    (λ values room is val. let leads = c.in_err-step.ensures.leads values room is in read_refused c.args.self.now.tables _ c.args.job c.args.item values room _ leads.0 leads.1)

pub returns : goal.returns
returns c values room is val =
    let done = c.in_ok-step.ensures in
    let leads = done.leads values room is in
    let inside = done.inside in
    read_answered c.args.self.now.tables _ c.args.job c.args.item values room c.seen.result c.args.stored leads.0 leads.1 c.seen.ensures (val (omega (arith, inside)))
