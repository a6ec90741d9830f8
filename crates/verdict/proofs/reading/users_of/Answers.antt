use Rattle.std.proofs.Common.{List, subst}
use Rattle.std.proofs.lemmas.List.{take_all}
use Rattle.history.specs.Conflicts.{accesses}
use Rattle.trace.specs.declared.act.Act.TheVariants.{Open}
use Rattle.trace.specs.declared.act.Step.{Step}
use Rattle.verdict.specs.Ledgers.{UsersOf}
use Rattle.verdict.specs.Turns.{acts}
use Rattle.verdict.proofs.Marks.{users_none, users_next}
use Rattle.verdict.proofs.reading.users_of.Goals as goal

pub loop-step-init : goal.loop-step-init
loop-step-init c = rw c.none-users.ensures (users_none c.args.ledger.now.numbers.items c.args.item)

pub loop-step-preserved : goal.loop-step-preserved
loop-step-preserved c =
    users_next c.args.ledger.now.numbers.items c.args.item c.loop-step.users c.note_use.new.users c.args.before.now c.loop-step.step-index
    (record { line = 0; act = Open 0 }) c.loop-step-test.true c.note_use.ensures c.loop-step.invariant

pub returns : goal.returns
returns c =
    subst (λ (steps : List Step). UsersOf (accesses (acts steps)) c.args.ledger.now.numbers.items c.args.item c.loop-step.users)
    (take_all c.loop-step.step-index c.args.before.now c.loop-step-test.false) c.loop-step.invariant
