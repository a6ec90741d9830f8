use Rattle.scheduler.proofs.Retires.{picks_next}
use Rattle.scheduler.proofs.hub_core.Core.next_to_retire.Goals as goal

pub returns : goal.returns
returns c =
    picks_next c.args.self.now.tables c.args.self.now.sound c.slots_with-running.result c.slots_with-committed.result c.union.result c.numbers-keys.result
    c.slots_with-running.ensures c.slots_with-committed.ensures c.union.ensures c.numbers-keys.ensures c.next_free.result c.next_free.ensures
