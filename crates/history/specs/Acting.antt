-- Acts made as calls on a hub: the call of an act, what is told of its answer, and the run that a list of
-- calls makes. Rests on Runs.
use Rattle.std.specs.Prelude.{◌≡◌, ℕ, List, [], ◌∷◌, ◌++◌, length, drop, map, Ok, Err, Result}
use Rattle.trace.specs.declared.act.Act.{Act}
use Rattle.trace.specs.declared.act.Act.TheVariants.{Open, Read, Write, Commit, Abort, Peek, Retire}
use Rattle.history.specs.declared.answer.Answer.{Answer as Told}
use Rattle.history.specs.declared.answer.Answer.TheVariants.{Number, Done, Count}
use Rattle.history.specs.declared.refusal.Refusal.{Refusal}
use Rattle.history.specs.Machine.{State, Call, begin, read, write, commit, abort, retire, peek, Answer, answered, done, wrote, refused, answer, after_call, Steps}
use Rattle.history.specs.Runs.{Turn, retired_by}

-- the call of an act: the hub gives the job's number and the value read, and a retire is lent so many places
abbrev pub call_of : ℕ → Act → Call
call_of places (Open j) = begin
call_of places (Read j x v) = read j x
call_of places (Write j x v) = write j x v
call_of places (Commit j) = commit j
call_of places (Abort j) = abort j
call_of places (Peek x v) = peek x
call_of places Retire = retire places

-- the calls of the acts, in their order
abbrev pub calls_of : ℕ → List Act → List Call
calls_of places acts = map (call_of places) acts

-- what is told of an answer: of the numbers that were written, how many they are
abbrev pub told_of : Answer → Result Told Refusal
told_of (answered n) = Ok (Number n)
told_of done = Ok Done
told_of (wrote js) = Ok (Count (length js))
told_of (refused r) = Err r

-- the call of an act, made in the state s with a lent list, is told so and leads to the state t; the list
-- begins with the numbers that were written and goes on as it was
pub record Takes (s : State) (act : Act) (lent : List ℕ) (r : Result Told Refusal) (t : State) (left : List ℕ) : Type 0 where
  pub answer : Answer
  pub steps : Steps s (call_of (length lent) act) answer t
  pub told : r ≡ told_of answer
  pub list : left ≡ retired_by answer ++ drop (length (retired_by answer)) lent

-- the run of some calls, each with the machine's answer, from the state s on, where the store keeps this room
abbrev pub run_from : ℕ → State → List Call → List Turn
run_from room s [] = []
run_from room s (c ∷ cs) = record { call = c; answer = answer s c } ∷ run_from room (after_call s c room) cs
