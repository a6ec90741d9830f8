use Rattle.trace_writer.proofs.Batches.{Measured}
use Rattle.trace_writer.proofs.writer.measure_all.Given as goal

abbrev pub invariant-loop-act : goal.invariant-loop-act
invariant-loop-act l = Measured l.acts l.room l.act-index l.total
