use Rattle.std.proofs.Common.{◌≡◌, length}
use Rattle.hub.specs.InMemory.{in_memory}
use Rattle.entry.proofs.Turns.{ReplyingOn}
use Rattle.entry.proofs.playing.play.Given as goal

abbrev pub invariant-loop-at : goal.invariant-loop-at
invariant-loop-at l =
    (length l.list ≡ 32) × ReplyingOn (in_memory l.initial.hub) l.requests l.initial.replies (in_memory l.hub) l.at l.replies
