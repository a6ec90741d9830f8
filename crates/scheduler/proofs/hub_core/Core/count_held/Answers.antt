use Rattle.std.proofs.Common.{rules, length, ap, ◌∙◌}
use Rattle.scheduler.specs.Reading.{held_below}
use Rattle.scheduler.proofs.Commits.{held_holdings}
use Rattle.scheduler.proofs.Ends.{stopped_status, runs_status}
use Rattle.scheduler.proofs.hub_core.Core.count_held.Goals as goal

pub returns-in_err-running : goal.returns-in_err-running
returns-in_err-running c = search (rules, stopped_status)

pub returns : goal.returns
returns c values room e = (
  runs_status c.args.self.now.tables c.args.job values room _ c.in_ok-running.ensures,
  held_holdings c.args.self.now.tables c.args.job c.args.items c.count_below.result values room e (c.count_below.ensures ∙ ap (λ n. length (held_below c.args.self.now.tables c.args.job n)) c.min.ensures),
)
