-- Runs of a hub: the calls since its making, oldest first, with their answers; and what a run leaves
-- on record. Rests on Machine, and on the acts of a trace.
use Rattle.std.specs.Prelude.{◌≡◌, ℕ, cond, List, [], ◌∷◌, ◌++◌}
use Rattle.trace.specs.declared.act.Act.{Act}
use Rattle.trace.specs.declared.act.Act.TheVariants.{Open, Read, Write, Commit, Abort, Peek, Retire}
use Rattle.history.specs.declared.refusal.Refusal.{Refusal}
use Rattle.history.specs.Refusals.{aborts}
use Rattle.history.specs.Machine.{State, Call, begin, read, write, commit, abort, retire, peek, Answer, answered, done, wrote, refused, Steps}

-- a call and its answer
pub record Turn : Type 0 where
  pub call : Call
  pub answer : Answer

-- the turns, one after another, lead from the state s to the state t
abbrev pub Runs : State → List Turn → State → Type 0
Runs s [] t = t ≡ s
Runs s (u ∷ us) t = (m : State) × Steps s u.call u.answer m × Runs m us t

-- the act that a granted call leaves, with the number that was answered
abbrev pub granted_act : Call → ℕ → Act
granted_act begin n = Open n
granted_act (read j x) n = Read j x n
granted_act (write j x v) n = Write j x v
granted_act (commit j) n = Commit j
granted_act (abort j) n = Abort j
granted_act (retire k) n = Retire
granted_act (peek x) n = Peek x n

-- a refusal leaves nothing, unless it aborts the job
abbrev pub refused_acts : Call → Refusal → List Act
refused_acts begin r = []
refused_acts (read j x) r = cond (aborts r) (Abort j ∷ []) []
refused_acts (write j x v) r = cond (aborts r) (Abort j ∷ []) []
refused_acts (commit j) r = []
refused_acts (abort j) r = []
refused_acts (retire k) r = []
refused_acts (peek x) r = []

-- what a call and its answer leave on record
abbrev pub acts : Call → Answer → List Act
acts c (answered n) = granted_act c n ∷ []
acts c done = granted_act c 0 ∷ []
acts c (wrote js) = granted_act c 0 ∷ []
acts c (refused r) = refused_acts c r

-- the record of a run, oldest first
abbrev pub acts_of : List Turn → List Act
acts_of [] = []
acts_of (u ∷ us) = acts u.call u.answer ++ acts_of us

-- the numbers that an answer wrote into a lent list
abbrev pub retired_by : Answer → List ℕ
retired_by (answered n) = []
retired_by done = []
retired_by (wrote js) = js
retired_by (refused r) = []

-- the numbers retired in a run, in the order in which they were written
abbrev pub retired_of : List Turn → List ℕ
retired_of [] = []
retired_of (u ∷ us) = retired_by u.answer ++ retired_of us
