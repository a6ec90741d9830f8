-- What is promised of every run of a hub: it is conflict serializable. Rests on Runs, and on the serial
-- orders and serial runs of its record.
use Rattle.std.specs.Prelude.{◌≡◌, ℕ, T, ◌⊎◌, ◌↔◌, List, [], ◌∷◌, ◌++◌}
use Rattle.trace.specs.declared.act.Act.{Act}
use Rattle.trace.specs.declared.act.Act.TheVariants.{Read, Write}
use Rattle.graph.specs.Paths.{Cycle}
use Rattle.history.specs.declared.refusal.Refusal.TheVariants.{ClosesCycle}
use Rattle.history.specs.Acts.{Fate, fate, not_aborted, is_committed}
use Rattle.history.specs.Conflicts.{Access, accesses, Edge, SerialOrder}
use Rattle.history.specs.Serial.{RunsSerially}
use Rattle.history.specs.Machine.{State, made, Call, read, write, Answer, refused, Steps}
use Rattle.history.specs.Runs.{Turn, Runs, acts_of, retired_of}

-- job i wrote item x
abbrev pub Wrote : List Access → ℕ → ℕ → Type 0
Wrote [] i x = ⊥
Wrote (a ∷ s) i x = ((a.job ≡ i) × (a.item ≡ x) × T a.writes) ⊎ Wrote s i x

-- a running job holds what it wrote: item x is free for job j if no running job but j wrote it
abbrev pub FreeFor : List Act → ℕ → ℕ → Type 0
FreeFor H j x = (i : ℕ) → fate i H ≡ Fate.running → Wrote (accesses H) i x → i ≡ j

-- the record with this act granted last has a cycle in its conflict graph
abbrev pub WouldCycle : List Act → Act → Type 0
WouldCycle H act = Cycle (Edge not_aborted (H ++ act ∷ []))

-- the call is refused for conflict exactly when its act, granted last, would close a cycle
abbrev pub RefusedForCycle : State → List Act → Call → Act → Type 0
RefusedForCycle s H c act =
    (a : Answer) (t : State) → Steps s c a t → (a ≡ refused ClosesCycle) ↔ WouldCycle H act

-- what a hub that has come to the state s with this record, and has retired these jobs, promises
pub record Serializable (opening : List ℕ) (H : List Act) (retired : List ℕ) (s : State) : Type 0 where
  -- the committed jobs have a serial order
  pub some_order : (order : List ℕ) × SerialOrder is_committed H order
  -- each of their serial orders, run serially from the opening contents, gives every read the answer
  -- that the hub gave, and ends with the contents of the hub's store
  pub every_order : (order : List ℕ) → SerialOrder is_committed H order → RunsSerially opening H order s.values
  -- the retired jobs, in the order in which they were written, begin a serial order
  pub retired_first : (rest : List ℕ) × SerialOrder is_committed H (retired ++ rest)
  -- a step of a running job, its item being free for it, is refused for conflict exactly when it would
  -- close a cycle
  pub exact_read : (j x v : ℕ) → fate j H ≡ Fate.running → FreeFor H j x → RefusedForCycle s H (read j x) (Read j x v)
  pub exact_write : (j x v : ℕ) → fate j H ≡ Fate.running → FreeFor H j x → RefusedForCycle s H (write j x v) (Write j x v)

-- every run from a state in which the store has these contents
abbrev pub EveryRunFrom : State → List ℕ → Type 0
EveryRunFrom start opening =
    (run : List Turn) (s : State) → Runs start run s → Serializable opening (acts_of run) (retired_of run) s

-- every run of every hub
abbrev pub EveryRunSerializable : Type 0
EveryRunSerializable =
    (slots first room : ℕ) (opening : List ℕ) → EveryRunFrom (made slots first opening room) opening
