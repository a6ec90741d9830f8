use Rattle.verdict.proofs.Steps.{ReadUpto}
use Rattle.verdict.proofs.reading.read_steps.Given as goal

abbrev pub invariant-loop-index : goal.invariant-loop-index
invariant-loop-index l = ReadUpto l.steps l.index l.ledger
