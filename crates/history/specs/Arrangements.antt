-- Conflict equivalence to a serial schedule. An arrangement lists the reads and writes of the jobs that
-- count in some order, each named by its position among the acts. Rests on Conflicts.
use Rattle.std.specs.Prelude.{◌≡◌, ℕ, ◌<◌, true, false, ◌⊎◌, ◌↔◌, List, [], ◌∷◌, slice_index_or}
use Rattle.trace.specs.declared.act.Act.{Act}
use Rattle.trace.specs.declared.act.Act.TheVariants.{Open, Read, Write, Commit, Abort, Peek, Retire}
use Rattle.graph.specs.Paths.{◌∈◌, Distinct, Cycle}
use Rattle.history.specs.Acts.{Keep, Kept, unopened}
use Rattle.history.specs.Conflicts.{Access, Conflict, Edge}

-- the act is this read or write
abbrev pub Is : Act → Access → Type 0
Is (Open j) a = ⊥
Is (Read j x v) a = a ≡ record { job = j; item = x; writes = false; value = v }
Is (Write j x v) a = a ≡ record { job = j; item = x; writes = true; value = v }
Is (Commit j) a = ⊥
Is (Abort j) a = ⊥
Is (Peek x v) a = ⊥
Is Retire a = ⊥

-- a read or write of a job that counts stands at position p of the acts
abbrev pub Stands : Keep → List Act → ℕ → Access → Type 0
Stands keep H p a = Is (slice_index_or H p Retire) a × Kept keep H a.job

-- p stands before q in the list
abbrev pub Precedes : ℕ → ℕ → List ℕ → Type 0
Precedes p q [] = ⊥
Precedes p q (x ∷ xs) = ((p ≡ x) × (q ∈ xs)) ⊎ Precedes p q xs

-- two accesses whose order counts: of one job, or in conflict
abbrev pub Ordered : Access → Access → Type 0
Ordered a b = (a.job ≡ b.job) ⊎ Conflict a b

-- the arrangement has each read and write of the jobs that count once and nothing else, and keeps the
-- order of any two of one job and of any two in conflict
pub record Equivalent (keep : Keep) (H : List Act) (arrangement : List ℕ) : Type 0 where
  pub distinct : Distinct arrangement
  pub all : (p : ℕ) (a : Access) → Stands keep H p a → p ∈ arrangement
  pub only : (p : ℕ) → p ∈ arrangement → (a : Access) × Stands keep H p a
  pub keeps : (p q : ℕ) (a b : Access) → p < q → Stands keep H p a → Stands keep H q b → Ordered a b → Precedes p q arrangement

-- the reads and writes of each job stand together: nothing of another job stands between two of them
abbrev pub SerialArrangement : List Act → List ℕ → Type 0
SerialArrangement H arrangement =
    (p q r : ℕ) (a b c : Access) → Precedes p q arrangement → Precedes q r arrangement →
    Is (slice_index_or H p Retire) a → Is (slice_index_or H q Retire) b → Is (slice_index_or H r Retire) c →
    a.job ≡ c.job → b.job ≡ a.job

-- the jobs that count are conflict equivalent to some serial schedule
abbrev pub ConflictSerializable : Keep → List Act → Type 0
ConflictSerializable keep H = (arrangement : List ℕ) × Equivalent keep H arrangement × SerialArrangement H arrangement

-- the jobs that count are conflict equivalent to some serial schedule exactly when their conflict graph has
-- no cycle; a job that was never opened does not count
abbrev pub SerializableExactlyWithoutCycle : Type 0
SerializableExactlyWithoutCycle =
    (keep : Keep) (H : List Act) → keep unopened ≡ false → ConflictSerializable keep H ↔ (Cycle (Edge keep H) → ⊥)
