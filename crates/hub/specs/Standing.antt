-- The machine that a hub stands for. Rests on the machine, and on what a store is.
use Rattle.history.specs.Machine.{State}
use Rattle.scheduler.specs.Cores.{machine}
use Rattle.store.specs.declared.store.Store.{Ghosts}
use Rattle.hub.specs.declared.hub.Hub.{Hub}

-- the state of the machine for a hub: its scheduler, over what its store means by its values and its room. It is
-- no model of the hub's type: a model's value must be stored data, and a state has functions for parts.
abbrev pub machine_of : {S : Type 0} → Ghosts S → Hub S → State
machine_of meaning hub = machine hub.core (meaning.values hub.store) (meaning.room hub.store)
