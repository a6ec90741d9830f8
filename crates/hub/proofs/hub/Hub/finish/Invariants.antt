use Rattle.std.proofs.Common.{◌≡◌}
use Rattle.scheduler.specs.Cores.{held_in}
use Rattle.hub.proofs.Puttings.{OnTheWay}
use Rattle.hub.proofs.hub.Hub.finish.Given as goal

abbrev pub invariant-loop-item : goal.invariant-loop-item
invariant-loop-item g l =
    let s = g.S.Store in
    (l.self.core ≡ l.initial.self.core)
    × OnTheWay s (held_in l.initial.self.core) l.job l.served l.item l.initial.self.store l.self.store
