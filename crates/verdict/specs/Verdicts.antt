-- What the judge answers. Rests on Turns, on the conflicts of a list of acts, and on conflict equivalence.
use Rattle.std.specs.Prelude.{◌≡◌, ℕ, ◌≤◌, List, [], ◌∷◌, length, take, drop, Ok, Err, Result, ◌≢◌}
use Rattle.graph.specs.Paths.{Relation, ShowsCycle}
use Rattle.trace.specs.declared.act.Act.{Act}
use Rattle.history.specs.Acts.{Keep, Kept}
use Rattle.history.specs.Conflicts.{Edge, SerialOrder}
use Rattle.history.specs.Arrangements.{ConflictSerializable}
use Rattle.verdict.specs.declared.judge.Verdict.{Verdict}
use Rattle.verdict.specs.declared.judge.Verdict.TheVariants.{Yes, No}
use Rattle.verdict.specs.declared.refusal.JudgeRefusal.{JudgeRefusal}
use Rattle.verdict.specs.Turns.{Sound, Refuses, opened}

-- no job that is left has an edge to j
abbrev pub Unled : Relation → (ℕ → Type 0) → ℕ → Type 0
Unled E left j = (i : ℕ) → left i → E i j → ⊥

-- each time the smallest number that no edge leads into from one that is left, until none is left
abbrev pub SmallestFirst : Relation → (ℕ → Type 0) → List ℕ → Type 0
SmallestFirst E left [] = (j : ℕ) → left j → ⊥
SmallestFirst E left (j ∷ js) =
    left j × Unled E left j × ((i : ℕ) → left i → Unled E left i → j ≤ i) × SmallestFirst E (λ i. left i × (i ≢ j)) js

-- the first n numbers of the list after are the jobs that count, in a serial order, the smallest first wherever there
-- is a choice; the others are as they were before
pub record ShowsOrder (keep : Keep) (H : List Act) (before after : List ℕ) (n : ℕ) : Type 0 where
  pub count : length (take n after) ≡ n
  pub serial : SerialOrder keep H (take n after)
  pub smallest : SmallestFirst (Edge keep H) (Kept keep H) (take n after)
  pub rest : drop n after ≡ drop n before

-- the first n numbers of the list after are the jobs of a cycle, and the others are as they were before
pub record ShowsItsCycle (keep : Keep) (H : List Act) (before after : List ℕ) (n : ℕ) : Type 0 where
  pub count : length (take n after) ≡ n
  pub cycle : ShowsCycle (Edge keep H) (take n after)
  pub rest : drop n after ≡ drop n before

-- yes where the accesses that count are conflict equivalent to a serial schedule, shown by an order; no where they are
-- not, shown by a cycle
abbrev pub Decides : Keep → List Act → List ℕ → Verdict → List ℕ → Type 0
Decides keep H before (Yes n) after = ConflictSerializable keep H × ShowsOrder keep H before after n
Decides keep H before (No n) after = (ConflictSerializable keep H → ⊥) × ShowsItsCycle keep H before after n

-- acts that are in turn, of at most 64 jobs and no more than the list has places, are decided; a refusal leaves the
-- list as it was
abbrev pub Judges : Keep → List Act → List ℕ → Result Verdict JudgeRefusal → List ℕ → Type 0
Judges keep H before (Ok v) after = Sound H (length H) × (length (opened H) ≤ length before) × Decides keep H before v after
Judges keep H before (Err r) after = Refuses H (length before) r × (after ≡ before)
