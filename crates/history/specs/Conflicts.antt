-- Conflicts between the reads and writes of a list of acts, and the graph that they draw between the
-- jobs. Rests on Acts, and on the paths of a graph.
use Rattle.std.specs.Prelude.{◌≡◌, ℕ, Bool, true, false, ◌||◌, T, ◌⊎◌, List, [], ◌∷◌, ◌≢◌}
use Rattle.trace.specs.declared.act.Act.{Act}
use Rattle.trace.specs.declared.act.Act.TheVariants.{Open, Read, Write, Commit, Abort, Peek, Retire}
use Rattle.graph.specs.Paths.{Relation, Distinct, Forward, ◌∈◌}
use Rattle.history.specs.Acts.{Keep, Kept}

-- a granted read, with the value that it answered, or a granted write, with the value that it wrote
pub record Access : Type 0 where
  pub job : ℕ
  pub item : ℕ
  pub writes : Bool
  pub value : ℕ

-- the reads and writes of the acts, in their order
abbrev pub accesses : List Act → List Access
accesses [] = []
accesses (Open j ∷ H) = accesses H
accesses (Read j x v ∷ H) = record { job = j; item = x; writes = false; value = v } ∷ accesses H
accesses (Write j x v ∷ H) = record { job = j; item = x; writes = true; value = v } ∷ accesses H
accesses (Commit j ∷ H) = accesses H
accesses (Abort j ∷ H) = accesses H
accesses (Peek x v ∷ H) = accesses H
accesses (Retire ∷ H) = accesses H

-- two accesses of different jobs to one item, not both reads
abbrev pub Conflict : Access → Access → Type 0
Conflict a b = (a.job ≢ b.job) × (a.item ≡ b.item) × T (a.writes || b.writes)

-- some access of job j in the list conflicts with a
abbrev pub Meets : Access → ℕ → List Access → Type 0
Meets a j [] = ⊥
Meets a j (b ∷ s) = ((b.job ≡ j) × Conflict a b) ⊎ Meets a j s

-- some access of job i stands before a conflicting one of job j
abbrev pub Leads : List Access → Relation
Leads [] i j = ⊥
Leads (a ∷ s) i j = ((a.job ≡ i) × Meets a j s) ⊎ Leads s i j

-- the conflict graph: an edge leads from a job that counts to another that counts, if an access of the
-- first stands before a conflicting access of the second
abbrev pub Edge : Keep → List Act → Relation
Edge keep H i j = Kept keep H i × Kept keep H j × Leads (accesses H) i j

-- a serial order: all the jobs that count and no others, each once, and every edge between two of them
-- leads from the earlier to the later
pub record SerialOrder (keep : Keep) (H : List Act) (order : List ℕ) : Type 0 where
  pub distinct : Distinct order
  pub all : (j : ℕ) → Kept keep H j → j ∈ order
  pub only : (j : ℕ) → j ∈ order → Kept keep H j
  pub forward : Forward (Edge keep H) order
