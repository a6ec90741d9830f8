-- The users of an item: which jobs read it and which wrote it, by their nodes. Rests on sets of nodes, and on acts.
use Rattle.std.specs.Prelude.{◌≡◌, ℕ, Bool, true, false, ◌||◌, ◌==◌}
use Rattle.graph.specs.Nodes.{has}
use Rattle.trace.specs.declared.act.Act.{Act}
use Rattle.trace.specs.declared.act.Act.TheVariants.{Read as ReadAct, Write as WriteAct}
use Rattle.verdict.specs.declared.users.Access.{Access}
use Rattle.verdict.specs.declared.users.Access.TheVariants.{Read, Write}
use Rattle.verdict.specs.declared.users.Users.{Users}

-- no job uses it
abbrev pub no_users : Users
no_users = record { readers = 0; writers = 0 }

-- whether an access writes
abbrev pub writes : Access → Bool
writes Read = false
writes Write = true

-- the job at a node clashes with an access of another job: it wrote the item, or it read it and the access writes it
abbrev pub clashes : Access → Users → ℕ → Bool
clashes Read u p = has u.writers p
clashes Write u p = has u.readers p || has u.writers p

-- the job at the node is one more reader, or one more writer
abbrev pub AddsUser : Access → Users → ℕ → Users → Type 0
AddsUser Read u node v = ((p : ℕ) → has v.readers p ≡ (has u.readers p || p == node)) × (v.writers ≡ u.writers)
AddsUser Write u node v = ((p : ℕ) → has v.writers p ≡ (has u.writers p || p == node)) × (v.readers ≡ u.readers)

-- the act of an access of the item by the job
abbrev pub act_of : Access → ℕ → ℕ → ℕ → Act
act_of Read job item value = ReadAct job item value
act_of Write job item value = WriteAct job item value
