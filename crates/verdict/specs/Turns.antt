-- Which steps are in turn, and what the judge refuses. Rests on the fate of a job.
use Rattle.std.specs.Prelude.{◌≡◌, ℕ, ◌<◌, List, [], ◌∷◌, map, length, take, slice_index_or}
use Rattle.trace.specs.declared.act.Act.{Act}
use Rattle.trace.specs.declared.act.Act.TheVariants.{Open, Read, Write, Commit, Abort, Peek, Retire}
use Rattle.trace.specs.declared.act.Step.{Step}
use Rattle.history.specs.Acts.{Fate, fate}
use Rattle.verdict.specs.declared.refusal.JudgeRefusal.{JudgeRefusal}
use Rattle.verdict.specs.declared.refusal.JudgeRefusal.TheVariants.{OutOfTurn, TooManyJobs, ListTooShort}

-- the acts of the steps
abbrev pub acts : List Step → List Act
acts steps = map (λ s. s.act) steps

-- the jobs that the acts open, in the order of opening
abbrev pub opened : List Act → List ℕ
opened [] = []
opened (Open j ∷ H) = j ∷ opened H
opened (Read j x v ∷ H) = opened H
opened (Write j x v ∷ H) = opened H
opened (Commit j ∷ H) = opened H
opened (Abort j ∷ H) = opened H
opened (Peek x v ∷ H) = opened H
opened (Retire ∷ H) = opened H

-- after these acts the next one is in turn: it opens a job for the first time, or its job is running, or it has none
abbrev pub InTurn : List Act → Act → Type 0
InTurn H (Open j) = fate j H ≡ Fate.unopened
InTurn H (Read j x v) = fate j H ≡ Fate.running
InTurn H (Write j x v) = fate j H ≡ Fate.running
InTurn H (Commit j) = fate j H ≡ Fate.running
InTurn H (Abort j) = fate j H ≡ Fate.running
InTurn H (Peek x v) = Unit {0}
InTurn H Retire = Unit {0}

-- after these acts the next one opens no job, or at most the 64th
abbrev pub HasRoom : List Act → Act → Type 0
HasRoom H (Open j) = length (opened H) < 64
HasRoom H (Read j x v) = Unit {0}
HasRoom H (Write j x v) = Unit {0}
HasRoom H (Commit j) = Unit {0}
HasRoom H (Abort j) = Unit {0}
HasRoom H (Peek x v) = Unit {0}
HasRoom H Retire = Unit {0}

-- the first n acts are in turn and have room
abbrev pub Sound : List Act → ℕ → Type 0
Sound H n = (k : ℕ) → k < n → InTurn (take k H) (slice_index_or H k Retire) × HasRoom (take k H) (slice_index_or H k Retire)

-- why acts are not judged, with a list of so many places: the first that is out of turn or has no room decides, and
-- the places count after all of them
abbrev pub Refuses : List Act → ℕ → JudgeRefusal → Type 0
Refuses H places (OutOfTurn i) = (i < length H) × Sound H i × (InTurn (take i H) (slice_index_or H i Retire) → ⊥)
Refuses H places TooManyJobs =
    (i : ℕ) × (i < length H) × Sound H i × InTurn (take i H) (slice_index_or H i Retire) × (HasRoom (take i H) (slice_index_or H i Retire) → ⊥)
Refuses H places ListTooShort = Sound H (length H) × (places < length (opened H))
