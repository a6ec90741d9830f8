use Rattle.scheduler.proofs.Removes.{removed_state, removed_sound}
use Rattle.scheduler.proofs.hub_core.Core.remove.Goals as goal

pub invariant_of-self : goal.invariant_of-self
invariant_of-self c = rw c.vacate.ensures (record {
  sound = removed_sound c.args.self.now.tables c.args.self.now.sound c.args.job c.args.slot _ c.requires.is c.requires.low _ _ c.clear_edges.ensures c.clear_items.ensures;
})

pub returns : goal.returns
returns c = rw c.vacate.ensures (removed_state c.args.self.now.tables c.args.self.now.sound c.args.job c.args.slot _ c.requires.is c.requires.low _ _ c.clear_edges.ensures c.clear_items.ensures)
