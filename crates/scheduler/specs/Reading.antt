-- The tables of the scheduler, which go by slot, read as the state of the machine, which goes by job
-- number. Rests on Slots and on the machine.
use Rattle.std.specs.Coded.{Coded-set, coded_ℕ, coded_bool, le_prop}
use Rattle.std.specs.Prelude.{◌≡◌, ℕ, ◌+◌, ◌<◌, ◌≤◌, Bool, true, List, [], ◌∷◌, length, Some, None, Ok, Err, Option, Result, nat_le, slice_index, slice_index_or, slice_set}
use Rattle.graph.specs.Nodes.{has}
use Rattle.history.specs.declared.refusal.Refusal.{Refusal}
use Rattle.history.specs.declared.refusal.Refusal.TheVariants.{ItemNotServed}
use Rattle.history.specs.Machine.{State, not_running, refuse_if, held_by_another, ◌else◌, retirable, those, rising, holds, holdings, has_ended, put_all}
use Rattle.scheduler.specs.declared.tables.ItemState.{ItemState}
use Rattle.scheduler.specs.declared.tables.Tables.{Tables}
use Rattle.scheduler.specs.declared.slots.Slot.{Slot}
use Rattle.scheduler.specs.declared.slots.SlotStatus.TheVariants.{Running}
use Rattle.scheduler.specs.Slots.{status_of, taken, belongs, slot, slot_of, first, is_free}

-- an item that no job has touched
abbrev pub idle : ItemState
idle = record { held = None; readers = 0; writers = 0 }

-- item x of the table; past its end nothing was touched
abbrev pub item : List ItemState → ℕ → ItemState
item items x = slice_index_or items x idle

-- slot b has a mark of slot a: an edge leads from a to b
abbrev pub row : List ℕ → ℕ → ℕ
row rows b = slice_index rows b

-- the state of the machine that the tables stand for, over a store with these values and this room
unfoldable pub state : Tables → List ℕ → ℕ → State
state t values room =
    record {
      slots = 32;
      next = t.next;
      status = λ j. status_of (slot t.jobs.slots (slot_of j t.jobs.slots)).status;
      held = λ x. (item t.items x).held;
      readers = λ x j. has (item t.items x).readers (slot_of j t.jobs.slots);
      writers = λ x j. has (item t.items x).writers (slot_of j t.jobs.slots);
      edges = λ i j. has (row t.jobs.edges (slot_of j t.jobs.slots)) (slot_of i t.jobs.slots);
      values = values;
      room = room;
    }

-- slot k is taken
abbrev pub Taken : List Slot → ℕ → Type 0
Taken slots k = taken (slot slots k).status ≡ true

-- how long the tables are, and how far the numbers may go
abbrev pub Sized : Tables → Type 0
Sized t =
    (length t.jobs.slots ≡ 32) × (length t.jobs.edges ≡ 32) × (length t.items ≡ 64) × (t.next ≤ 4294967296)

-- a job has one slot, and a number that was given out
abbrev pub Numbered : Tables → Type 0
Numbered t =
    ((a b j : ℕ) → belongs j (slot t.jobs.slots a) ≡ true → belongs j (slot t.jobs.slots b) ≡ true → a ≡ b)
    × ((a j : ℕ) → belongs j (slot t.jobs.slots a) ≡ true → j < t.next)

-- marks are of taken slots only
abbrev pub Marked : Tables → Type 0
Marked t =
    ((a b : ℕ) → has (row t.jobs.edges b) a ≡ true → Taken t.jobs.slots a × Taken t.jobs.slots b)
    × ((x a : ℕ) → has (item t.items x).readers a ≡ true → Taken t.jobs.slots a)
    × ((x a : ℕ) → has (item t.items x).writers a ≡ true → Taken t.jobs.slots a)

-- what holds of the tables between calls
abbrev pub Sound : Tables → Type 0
Sound t = Sized t × Numbered t × Marked t

-- it can hold in one way at most, so that a type can keep it
pub Sound-prop : (t : Tables) → IsProp (Sound t)
Sound-prop t p q = λ i. (
  (same p.0.0 q.0.0 i, same p.0.1 q.0.1 i, same p.0.2 q.0.2 i, le_prop p.0.3 q.0.3 i),
  ((λ a b j e f. same (p.1.0 a b j e f) (q.1.0 a b j e f) i), (λ a j e. le_prop (p.1.1 a j e) (q.1.1 a j e) i)),
  (
    (λ a b e. (is (p.2.0 a b e).0 (q.2.0 a b e).0 i, is (p.2.0 a b e).1 (q.2.0 a b e).1 i)),
    (λ x a e. is (p.2.1 x a e) (q.2.1 x a e) i),
    (λ x a e. is (p.2.2 x a e) (q.2.2 x a e) i),
  ),
)
  where
    same : {m n : ℕ} → IsProp (m ≡ n)
    same {m} {n} = Coded-set coded_ℕ m n

    is : {b c : Bool} → IsProp (b ≡ c)
    is {b} {c} = Coded-set coded_bool b c

-- what an open does to the tables, by its answer: granted, the first free slot is that of the job, which
-- runs, and the next number is one larger; nothing else changes, and nothing at all where it is refused
abbrev pub TakesSlot : Tables → Result ℕ Refusal → Tables → Type 0
TakesSlot t (Ok j) t' =
    (t'.jobs.slots ≡ slice_set t.jobs.slots (first is_free t.jobs.slots) (record { job = j; status = Running }))
    × (t'.jobs.edges ≡ t.jobs.edges)
    × (t'.items ≡ t.items)
    × (t'.next ≡ t.next + 1)
TakesSlot t (Err _) t' = t' ≡ t

-- slot k is that of the running job j
abbrev pub RunsAt : Tables → ℕ → ℕ → Type 0
RunsAt t j k = (k ≡ slot_of j t.jobs.slots) × (k < 32) × ((slot t.jobs.slots k).status ≡ Running)

-- job j does not run, and a call for it is refused so
abbrev pub Stopped : Tables → ℕ → Refusal → Type 0
Stopped t j r = not_running (status_of (slot t.jobs.slots (slot_of j t.jobs.slots)).status) ≡ Some r

-- a step of job j on item x may be asked of the edges: the job runs in slot k, the item is served, and
-- no other job holds it
abbrev pub Admitted : Tables → ℕ → ℕ → ℕ → ℕ → Type 0
Admitted t served j x k = RunsAt t j k × (x < served) × (held_by_another j (item t.items x).held ≡ None)

-- the step is refused before the edges are asked
abbrev pub Barred : Tables → ℕ → ℕ → ℕ → Refusal → Type 0
Barred t served j x r =
    (not_running (status_of (slot t.jobs.slots (slot_of j t.jobs.slots)).status)
    else refuse_if (nat_le served x) ItemNotServed
    else held_by_another j (item t.items x).held)
    ≡ Some r

-- no job may retire, or the next one that does has slot n
abbrev pub NextRetires : Tables → Option ℕ → Type 0
NextRetires t None = (values : List ℕ) (room : ℕ) → retirable (state t values room) ≡ []
NextRetires t (Some n) =
    (n < 32) × (n ≡ slot_of (slot t.jobs.slots n).job t.jobs.slots)
    × ((values : List ℕ) (room : ℕ) → (js : List ℕ) × (retirable (state t values room) ≡ (slot t.jobs.slots n).job ∷ js))

-- the items below n that job j holds, rising
abbrev pub held_below : Tables → ℕ → ℕ → List ℕ
held_below t j n = those (λ x. holds j (item t.items x).held) (rising 0 n)

-- job j has ended, over a store that has got what it held; or it does not run, and nothing has changed
abbrev pub Ended : {A : Type 0} → Tables → ℕ → Result A Refusal → Tables → Type 0
Ended t j (Ok u) t' =
    (values : List ℕ) (room left : ℕ) →
    (not_running ((state t values room).status j) ≡ None)
    × (state t' (put_all (state t values room).held (holdings (state t values room) j) values) left ≡ has_ended j left (state t values room))
Ended t j (Err r) t' =
    (t' ≡ t) × ((values : List ℕ) (room : ℕ) → not_running ((state t values room).status j) ≡ Some r)

-- how many items job j holds, of a store with these values; or it does not run
abbrev pub Counted : Tables → ℕ → List ℕ → ℕ → Result ℕ Refusal → Type 0
Counted t j values room (Ok n) =
    (not_running ((state t values room).status j) ≡ None) × (n ≡ length (holdings (state t values room) j))
Counted t j values room (Err r) = not_running ((state t values room).status j) ≡ Some r
