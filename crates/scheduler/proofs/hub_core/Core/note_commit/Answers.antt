use Rattle.scheduler.proofs.Commits.{ended_state}
use Rattle.scheduler.proofs.hub_core.Core.note_commit.Goals as goal

pub returns : goal.returns
returns c = rw c.close.ensures (ended_state c.args.self.now.tables c.args.self.now.sound c.args.job c.args.slot c.requires _ c.release_items.ensures)
