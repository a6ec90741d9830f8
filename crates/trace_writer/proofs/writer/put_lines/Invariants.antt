use Rattle.trace_writer.proofs.Batches.{Laid}
use Rattle.trace_writer.proofs.writer.put_lines.Given as goal

abbrev pub invariant-loop-act : goal.invariant-loop-act
invariant-loop-act l = Laid l.acts l.initial.out l.out l.act-index l.place
