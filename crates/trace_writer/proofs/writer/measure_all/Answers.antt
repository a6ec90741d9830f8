use Rattle.std.proofs.Common.{sym, refl, arith}
use Rattle.trace_writer.proofs.Batches.{measured_on, measured_all, writing_all_says}
use Rattle.trace_writer.proofs.writer.measure_all.Goals as goal

pub loop-act-preserved : goal.loop-act-preserved
loop-act-preserved c =
    measured_on c.args.acts.now c.args.room c.loop-act.act-index c.loop-act.total _ c.loop-act.invariant c.loop-act-test.true (sym c.in_ok-total.ensures.answered) (c.in_ok-total.ensures.sayable _ refl)

pub returns-clause-within : goal.returns-clause-within
returns-clause-within c =
    let s = measured_all c.args.acts.now c.args.room c.loop-act.act-index c.loop-act.total c.loop-act.invariant c.loop-act-test.false in
    λ n q. omega (arith, writing_all_says c.args.acts.now c.args.room c.loop-act.total (sym s.0))
