-- What a list of acts, oldest first, says of its jobs. Rests on the acts of a trace.
use Rattle.std.specs.Prelude.{ℕ, Bool, true, false, cond, T, List, [], ◌∷◌, ◌==◌}
use Rattle.trace.specs.declared.act.Act.{Act}
use Rattle.trace.specs.declared.act.Act.TheVariants.{Open, Read, Write, Commit, Abort, Peek, Retire}

-- what became of a job
pub data Fate : Type 0 where
  unopened running committed aborted : Fate

-- what an act makes of a job that stood so before it
abbrev pub after : Act → ℕ → Fate → Fate
after (Open i) j f = cond (i == j) running f
after (Read i x v) j f = f
after (Write i x v) j f = f
after (Commit i) j f = cond (i == j) committed f
after (Abort i) j f = cond (i == j) aborted f
after (Peek x v) j f = f
after Retire j f = f

-- what the acts make of a job that stood so before them
abbrev pub fate_from : Fate → ℕ → List Act → Fate
fate_from f j [] = f
fate_from f j (a ∷ H) = fate_from (after a j f) j H

-- what became of a job: the last act that opened, committed or aborted it tells
abbrev pub fate : ℕ → List Act → Fate
fate j H = fate_from unopened j H

-- which jobs count, by what became of them
abbrev pub Keep : Type 0
Keep = Fate → Bool

-- every job that was opened and has not aborted counts
abbrev pub not_aborted : Keep
not_aborted unopened = false
not_aborted running = true
not_aborted committed = true
not_aborted aborted = false

-- only committed jobs count
abbrev pub is_committed : Keep
is_committed unopened = false
is_committed running = false
is_committed committed = true
is_committed aborted = false

-- the job counts
abbrev pub Kept : Keep → List Act → ℕ → Type 0
Kept keep H j = T (keep (fate j H))
