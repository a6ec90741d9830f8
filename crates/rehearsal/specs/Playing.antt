-- A trace played on a hub: the calls of its steps, the run that they make, and the lines that tell it.
-- Rests on the machine, and on the promises of every run.
use Rattle.std.specs.Prelude.{◌≡◌, ℕ, List, [], ◌∷◌, ◌++◌, map, Some, None, Option}
use Rattle.trace.specs.declared.act.Step.{Step}
use Rattle.trace.specs.declared.fault.ReadRefusal.{ReadRefusal}
use Rattle.console.specs.Inputs.{read as read_input, steps_of}
use Rattle.history.specs.Machine.{State, Call, Answer, Steps}
use Rattle.history.specs.Acting.{call_of, told_of, run_from}
use Rattle.history.specs.Runs.{Turn, Runs, acts_of, retired_by, retired_of}
use Rattle.history.specs.Promises.{Serializable}
use Rattle.hub.specs.InMemory.{plenty, zeros, start}
use Rattle.lines.specs.declared.line.Outcome.{Outcome}
use Rattle.lines.specs.declared.line.Outcome.TheVariants.{Retired}
use Rattle.lines.specs.declared.line.Line.{Line}
use Rattle.lines.specs.Outcomes.{outcome_of}
use Rattle.lines.specs.Texts.{refusal_line}

-- the calls of the steps, in their order: a retire is lent 32 places
abbrev pub calls_of : List Step → List Call
calls_of steps = map (λ step. call_of 32 step.act) steps

-- what a line tells of an answer
abbrev pub outcome : Answer → Outcome
outcome a = outcome_of (told_of a)

-- a line for each retired number
abbrev pub retired_lines : ℕ → List ℕ → List Line
retired_lines n js = map (λ j. record { number = n; outcome = Retired j }) js

-- the line of an answer, and below it those of the numbers that it wrote
abbrev pub answer_lines : ℕ → Answer → List Line
answer_lines n a = record { number = n; outcome = outcome a } ∷ retired_lines n (retired_by a)

-- the lines of a run that the steps made
abbrev pub lines_of : List Step → List Turn → List Line
lines_of [] run = []
lines_of (step ∷ steps) [] = []
lines_of (step ∷ steps) (turn ∷ run) = answer_lines step.line turn.answer ++ lines_of steps run

-- the run that the steps make on it
abbrev pub run_of : ℕ → List ℕ → List Step → List Turn
run_of first opening steps = run_from plenty (start first opening) (calls_of steps)

-- the step, played in the state s, has led to the state t, and its lines stand behind those before
pub record Answered (s : State) (step : Step) (before : List Line) (t : State) (after : List Line) : Type 0 where
  pub told : Answer
  pub steps : Steps s (call_of 32 step.act) told t
  pub lines : after ≡ before ++ answer_lines step.line told

-- the same of a list of steps
pub record Played (s : State) (steps : List Step) (before : List Line) (t : State) (after : List Line) : Type 0 where
  pub runs : Runs s (run_from plenty s (calls_of steps)) t
  pub lines : after ≡ before ++ lines_of steps (run_from plenty s (calls_of steps))

-- the calls of a run
abbrev pub called : List Turn → List Call
called [] = []
called (turn ∷ run) = turn.call ∷ called run

-- these are the lines of the steps played on such a hub, and the run that they tell of is serializable
pub record RehearsedOn (first : ℕ) (opening : List ℕ) (steps : List Step) (lines : List Line) : Type 0 where
  -- the steps' calls made a run of the hub
  pub ending : State
  pub calls : called (run_of first opening steps) ≡ calls_of steps
  pub runs : Runs (start first opening) (run_of first opening steps) ending
  -- the lines tell its answers
  pub tell : lines ≡ lines_of steps (run_of first opening steps)
  -- what is promised of every run holds of it
  pub serializable : Serializable opening (acts_of (run_of first opening steps)) (retired_of (run_of first opening steps)) ending

-- a rehearsal begins with 64 items that hold 0, and its first job has the number 1
abbrev pub Rehearsed : List Step → List Line → Type 0
Rehearsed = RehearsedOn 1 zeros

-- steps that were read to the end are rehearsed; else one line tells why they were not
abbrev pub RehearsedUnless : Option ReadRefusal → List Step → List Line → Type 0
RehearsedUnless None steps lines = Rehearsed steps lines
RehearsedUnless (Some why) steps lines = lines ≡ refusal_line why ∷ []

-- these are the lines of the trace in an input
abbrev pub RehearsedInput : List ℕ → List Line → Type 0
RehearsedInput bytes lines = RehearsedUnless (read_input bytes).stop (steps_of (read_input bytes)) lines
