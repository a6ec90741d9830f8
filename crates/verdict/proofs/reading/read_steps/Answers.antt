use Rattle.std.proofs.Common.{sym, subst}
use Rattle.trace.specs.declared.act.Act.TheVariants.{Open}
use Rattle.verdict.proofs.Steps.{ReadUpto, read_none, read_more}
use Rattle.verdict.proofs.reading.read_steps.Goals as goal

pub loop-index-init : goal.loop-index-init
loop-index-init c = subst (ReadUpto c.args.steps.now 0) (sym c.new-ledger.ensures) (read_none c.args.steps.now)

pub loop-index-preserved : goal.loop-index-preserved
loop-index-preserved c =
    read_more c.args.steps.now c.loop-index.index (record { line = 0; act = Open 0 }) c.loop-index.ledger c.follow.new.ledger c.loop-index-test.true c.loop-index.invariant
    c.in_ok-follow.field-0 c.in_ok-follow.ensures
