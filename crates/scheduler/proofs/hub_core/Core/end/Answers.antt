use Rattle.std.proofs.Common.{rules}
use Rattle.scheduler.proofs.Ends.{stopped_status, runs_status}
use Rattle.scheduler.proofs.hub_core.Core.end.Goals as goal

pub returns-in_err-slot : goal.returns-in_err-slot
returns-in_err-slot c = search (rules, stopped_status)

pub returns : goal.returns
returns c values room left = (
  runs_status c.args.self.now.tables c.args.job values room _ c.in_ok-slot.ensures,
  c.note_commit.ensures values room left,
)
