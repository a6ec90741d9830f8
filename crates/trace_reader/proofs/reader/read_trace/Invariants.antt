use Rattle.std.proofs.Common.{◌-◌, length}
use Rattle.trace_reader.proofs.Progress.{Sofar}
use Rattle.trace_reader.proofs.reader.read_trace.Given as goal

abbrev pub invariant-loop-start : goal.invariant-loop-start
invariant-loop-start l = Sofar l.bytes l.initial.steps l.steps l.count l.start

abbrev pub decreases-loop-start : goal.decreases-loop-start
decreases-loop-start l = length l.bytes - l.start
