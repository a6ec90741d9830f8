use Rattle.std.proofs.Common.{take}
use Rattle.graph.specs.Lists.{listed}
use Rattle.verdict.proofs.Missing.{Missing}
use Rattle.verdict.proofs.judge.has_all.Given as goal

abbrev pub invariant-loop-node : goal.invariant-loop-node
invariant-loop-node l = Missing l.set (take l.node-index (listed l.list)) l.missing
