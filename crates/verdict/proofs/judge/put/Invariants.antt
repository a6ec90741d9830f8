use Rattle.std.proofs.Common.{◌≡◌, length, take, drop}
use Rattle.graph.specs.Lists.{listed}
use Rattle.verdict.specs.Shown.{numbered}
use Rattle.verdict.proofs.judge.put.Given as goal

abbrev pub invariant-loop-at : goal.invariant-loop-at
invariant-loop-at l = record {
  put : take l.at l.numbers ≡ numbered l.ledger (take l.at (listed l.chosen));
  kept : drop (length (listed l.chosen)) l.numbers ≡ drop (length (listed l.chosen)) l.initial.numbers;
}
