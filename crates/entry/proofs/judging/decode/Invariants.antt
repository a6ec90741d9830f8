use Rattle.std.proofs.Common.{◌≡◌, ◌++◌, take, drop}
use Rattle.verdict.specs.Turns.{acts}
use Rattle.entry.specs.Requests.{known}
use Rattle.entry.proofs.judging.decode.Given as goal

-- the acts of the steps so far, and those still to come
abbrev pub invariant-loop-at : goal.invariant-loop-at
invariant-loop-at l = acts (take l.at l.steps) ++ known (drop l.at l.requests) ≡ known l.requests
