use Rattle.std.proofs.Common.{take}
use Rattle.history.specs.Conflicts.{accesses}
use Rattle.verdict.specs.Ledgers.{UsersOf}
use Rattle.verdict.specs.Turns.{acts}
use Rattle.verdict.proofs.reading.users_of.Given as goal

abbrev pub invariant-loop-step : goal.invariant-loop-step
invariant-loop-step l = UsersOf (accesses (acts (take l.step-index l.before))) l.ledger.numbers.items l.item l.users
