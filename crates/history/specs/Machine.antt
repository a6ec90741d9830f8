-- The hub as an abstract machine: its state by job number, and for each call the answer and the next
-- state. A job is a transaction, an item a numbered place of the store that holds a value. Rests on
-- Refusals.
use Rattle.std.specs.Prelude.{◌≡◌, ℕ, zero, suc, ◌+◌, ◌≤◌, min, Bool, true, false, cond, not, ◌&&◌, ◌||◌, List, [], ◌∷◌, ◌++◌, length, drop, set, Some, None, Ok, Err, Option, Result, ◌==◌, nat_le, nat_lt, slice_index, slice_set}
use Rattle.history.specs.declared.holding.Holding.{Holding}
use Rattle.history.specs.declared.refusal.Refusal.{Refusal}
use Rattle.history.specs.declared.refusal.Refusal.TheVariants.{TableFull, NumbersSpent, NotPresent, AlreadyCommitted, ItemNotServed, ItemHeld, ClosesCycle, NoRoom}
use Rattle.history.specs.Refusals.{aborts}

-- THE STATE

-- what the job table says of a job number
pub data Status : Type 0 where
  absent running committed : Status

pub record State : Type 0 where
  -- for how many jobs the job table has slots
  pub slots : ℕ
  -- the number that the next job gets
  pub next : ℕ
  -- by job: whether it is present, and how
  pub status : ℕ → Status
  -- by item: its holder with the value that the holder wrote
  pub held : ℕ → Option Holding
  -- by item and job: the present jobs that read the item, and those that wrote it
  pub readers : ℕ → ℕ → Bool
  pub writers : ℕ → ℕ → Bool
  -- an edge leads from the first job to the second
  pub edges : ℕ → ℕ → Bool
  -- the store's meaning: its values, one an item, and its room
  pub values : List ℕ
  pub room : ℕ

-- a hub that was just made
unfoldable pub made : ℕ → ℕ → List ℕ → ℕ → State
made slots first values room =
    record {
      slots = slots;
      next = first;
      status = λ j. absent;
      held = λ x. None;
      readers = λ x j. false;
      writers = λ x j. false;
      edges = λ i j. false;
      values = values;
      room = room;
    }

-- THE QUESTIONS THAT A CALL ASKS OF IT

-- n numbers, rising from a
unfoldable pub rising : ℕ → ℕ → List ℕ
rising a zero = []
rising a (suc n) = a ∷ rising (suc a) n

-- the numbers of a list that pass a test
unfoldable pub those : (ℕ → Bool) → List ℕ → List ℕ
those p [] = []
those p (x ∷ xs) = cond (p x) (x ∷ those p xs) (those p xs)

-- some number of a list passes a test
unfoldable pub any : (ℕ → Bool) → List ℕ → Bool
any p [] = false
any p (x ∷ xs) = p x || any p xs

-- a job is present while it runs, and from its commit until it retires
abbrev pub present : Status → Bool
present absent = false
present running = true
present committed = true

abbrev pub has_committed : Status → Bool
has_committed absent = false
has_committed running = false
has_committed committed = true

-- the present jobs, rising
unfoldable pub jobs : State → List ℕ
jobs s = those (λ j. present (s.status j)) (rising 0 s.next)

-- the items that the hub serves: the first 64 of its store, or all if these are fewer
abbrev pub served : State → ℕ
served s = min 64 (length s.values)

-- the holder is this job
abbrev pub holds : ℕ → Option Holding → Bool
holds j None = false
holds j (Some h) = h.job == j

-- the held value, or else the store's
abbrev pub held_value : Option Holding → ℕ → ℕ
held_value None v = v
held_value (Some h) v = h.value

-- the items that a job holds, rising
unfoldable pub holdings : State → ℕ → List ℕ
holdings s j = those (λ x. holds j (s.held x)) (rising 0 (served s))

-- the value of an item as a job sees it: what it holds there itself, or else the store's
abbrev pub seen : State → ℕ → ℕ → ℕ
seen s j x = cond (holds j (s.held x)) (held_value (s.held x) 0) (slice_index s.values x)

-- a step of job j on an item draws an edge to j from every other writer of the item, and a write also
-- from every other reader
abbrev pub draws_from : State → ℕ → ℕ → Bool → ℕ → Bool
draws_from s j x writes i = not (i == j) && (s.writers x i || writes && s.readers x i)

-- the edges with those of a step drawn
abbrev pub drawn : State → ℕ → ℕ → Bool → ℕ → ℕ → Bool
drawn s j x writes a b = s.edges a b || b == j && draws_from s j x writes a

-- a path of one edge or more leads from i to j, through no nodes but the listed ones
unfoldable pub path : List ℕ → (ℕ → ℕ → Bool) → ℕ → ℕ → Bool
path [] e i j = e i j
path (k ∷ ks) e i j = path ks e i j || path ks e i k && path ks e k j

-- a step would close a cycle: with its edges drawn, a path leads from the job to itself
abbrev pub closes_cycle : State → ℕ → ℕ → Bool → Bool
closes_cycle s j x writes = path (jobs s) (drawn s j x writes) j j

-- the jobs that may retire, rising: those committed that no edge leads into
unfoldable pub retirable : State → List ℕ
retirable s = those (λ j. has_committed (s.status j) && not (any (λ i. s.edges i j) (jobs s))) (jobs s)

-- HOW THE STATE CHANGES

-- a function changed at one number
abbrev pub put_at : {A : Type 0} → ℕ → A → (ℕ → A) → ℕ → A
put_at n a f m = cond (m == n) a (f m)

-- a number put into the set, and taken out of it
abbrev pub with_one : ℕ → (ℕ → Bool) → ℕ → Bool
with_one n set m = m == n || set m

abbrev pub without : ℕ → (ℕ → Bool) → ℕ → Bool
without n set m = not (m == n) && set m

-- the item is free again if this job held it
abbrev pub let_go : ℕ → Option Holding → Option Holding
let_go j h = cond (holds j h) None h

-- the next number is given to a job, which runs
unfoldable pub opened : State → State
opened s =
    record {
      slots = s.slots;
      next = suc s.next;
      status = put_at s.next running s.status;
      held = s.held;
      readers = s.readers;
      writers = s.writers;
      edges = s.edges;
      values = s.values;
      room = s.room;
    }

-- job j has read item x
unfoldable pub has_read : ℕ → ℕ → State → State
has_read j x s =
    record {
      slots = s.slots;
      next = s.next;
      status = s.status;
      held = s.held;
      readers = put_at x (with_one j (s.readers x)) s.readers;
      writers = s.writers;
      edges = drawn s j x false;
      values = s.values;
      room = s.room;
    }

-- job j has written v to item x, and holds it
unfoldable pub has_written : ℕ → ℕ → ℕ → State → State
has_written j x v s =
    record {
      slots = s.slots;
      next = s.next;
      status = s.status;
      held = put_at x (Some (record { job = j; value = v })) s.held;
      readers = s.readers;
      writers = put_at x (with_one j (s.writers x)) s.writers;
      edges = drawn s j x true;
      values = s.values;
      room = s.room;
    }

-- the held values of the listed items put into the store, one after another
unfoldable pub put_all : (ℕ → Option Holding) → List ℕ → List ℕ → List ℕ
put_all held [] values = values
put_all held (x ∷ xs) values = put_all held xs (slice_set values x (held_value (held x) 0))

-- job j has committed: its held values are in the store, which has this room left, and it holds nothing
unfoldable pub has_ended : ℕ → ℕ → State → State
has_ended j left s =
    record {
      slots = s.slots;
      next = s.next;
      status = put_at j committed s.status;
      held = λ x. let_go j (s.held x);
      readers = s.readers;
      writers = s.writers;
      edges = s.edges;
      values = put_all s.held (holdings s j) s.values;
      room = left;
    }

-- job j is gone, with its holdings, its part in the sets and its edges both ways
unfoldable pub removed : ℕ → State → State
removed j s =
    record {
      slots = s.slots;
      next = s.next;
      status = put_at j absent s.status;
      held = λ x. let_go j (s.held x);
      readers = λ x. without j (s.readers x);
      writers = λ x. without j (s.writers x);
      edges = λ a b. not (b == j) && without j (λ i. s.edges i b) a;
      values = s.values;
      room = s.room;
    }

-- a list of jobs removed, one after another
unfoldable pub all_removed : List ℕ → State → State
all_removed [] s = s
all_removed (j ∷ js) s = all_removed js (removed j s)

-- the jobs that retire into n places: the smallest that may, and so on with what is left, until the
-- places are filled or none may
unfoldable pub retiring : ℕ → State → List ℕ
retiring zero s = []
retiring (suc n) s = elim (retirable s) [ [] ↦ [] | j ∷ js ↦ j ∷ retiring n (removed j s) ]

-- THE CALLS

pub data Call : Type 0 where
  -- open a job
  begin : Call
  -- job, item; job, item, value
  read : ℕ → ℕ → Call
  write : ℕ → ℕ → ℕ → Call
  commit abort : ℕ → Call
  -- how many numbers the lent list takes
  retire : ℕ → Call
  peek : ℕ → Call

pub data Answer : Type 0 where
  -- the number of the opened job, or the value read
  answered : ℕ → Answer
  done : Answer
  -- the numbers written, in their order
  wrote : List ℕ → Answer
  refused : Refusal → Answer

-- the first refusal of two
abbrev pub ◌else◌ : Option Refusal → Option Refusal → Option Refusal
None else q = q
(Some r) else q = Some r

infixr 30 ◌else◌
abbrev pub refuse_if : Bool → Refusal → Option Refusal
refuse_if b r = cond b (Some r) None

-- a call for a job is refused unless the job runs
abbrev pub not_running : Status → Option Refusal
not_running absent = Some NotPresent
not_running running = None
not_running committed = Some AlreadyCommitted

abbrev pub not_served : State → ℕ → Option Refusal
not_served s x = refuse_if (nat_le (served s) x) ItemNotServed

abbrev pub held_by_another : ℕ → Option Holding → Option Refusal
held_by_another j None = None
held_by_another j (Some h) = refuse_if (not (h.job == j)) (ItemHeld h.job)

-- why a call is refused, if it is: of several reasons the one with the smallest number
unfoldable pub refusal : State → Call → Option Refusal
refusal s begin =
    refuse_if (nat_le s.slots (length (jobs s))) TableFull
    else refuse_if (nat_lt 4294967295 s.next) NumbersSpent
refusal s (read j x) =
    not_running (s.status j)
    else not_served s x
    else held_by_another j (s.held x)
    else refuse_if (closes_cycle s j x false) ClosesCycle
refusal s (write j x v) =
    not_running (s.status j)
    else not_served s x
    else held_by_another j (s.held x)
    else refuse_if (closes_cycle s j x true) ClosesCycle
refusal s (commit j) =
    not_running (s.status j)
    else refuse_if (nat_lt s.room (length (holdings s j))) NoRoom
refusal s (abort j) = not_running (s.status j)
refusal s (retire n) = None
refusal s (peek x) = not_served s x

-- what a call that is not refused answers
unfoldable pub granted_answer : State → Call → Answer
granted_answer s begin = answered s.next
granted_answer s (read j x) = answered (seen s j x)
granted_answer s (write j x v) = done
granted_answer s (commit j) = done
granted_answer s (abort j) = done
granted_answer s (retire n) = wrote (retiring n s)
granted_answer s (peek x) = answered (slice_index s.values x)

-- the state after a call that is not refused; the store has this room left after a commit
unfoldable pub granted_state : State → Call → ℕ → State
granted_state s begin left = opened s
granted_state s (read j x) left = has_read j x s
granted_state s (write j x v) left = has_written j x v s
granted_state s (commit j) left = has_ended j left s
granted_state s (abort j) left = removed j s
granted_state s (retire n) left = all_removed (retiring n s) s
granted_state s (peek x) left = s

-- the state after a refused call: a refusal that aborts removes the job, every other changes nothing
unfoldable pub refused_state : State → Call → Refusal → State
refused_state s begin r = s
refused_state s (read j x) r = cond (aborts r) (removed j s) s
refused_state s (write j x v) r = cond (aborts r) (removed j s) s
refused_state s (commit j) r = s
refused_state s (abort j) r = s
refused_state s (retire n) r = s
refused_state s (peek x) r = s

-- one thing where a call is granted, another where it is refused
abbrev pub by_refusal : {A : Type 0} → Option Refusal → A → (Refusal → A) → A
by_refusal None a f = a
by_refusal (Some r) a f = f r

-- the answer of a call
unfoldable pub answer : State → Call → Answer
answer s c = by_refusal (refusal s c) (granted_answer s c) (λ r. refused r)

-- the state after a call
unfoldable pub after_call : State → Call → ℕ → State
after_call s c left = by_refusal (refusal s c) (granted_state s c left) (λ r. refused_state s c r)

-- how many values a call puts into the store
unfoldable pub put_count : State → Call → ℕ
put_count s begin = 0
put_count s (read j x) = 0
put_count s (write j x v) = 0
put_count s (commit j) = by_refusal (refusal s (commit j)) (length (holdings s j)) (λ r. 0)
put_count s (abort j) = 0
put_count s (retire n) = 0
put_count s (peek x) = 0

-- the call, made in the state s, is answered so and leads to the state t: all of it is determined but
-- the room that puts leave, of which each takes at most one
pub record Steps (s : State) (c : Call) (a : Answer) (t : State) : Type 0 where
  pub answers : a ≡ answer s c
  pub becomes : t ≡ after_call s c t.room
  -- where nothing is put, the room stays
  pub keeps_room : put_count s c ≡ 0 → t.room ≡ s.room
  pub takes_room : s.room ≤ t.room + put_count s c

-- THE CALLS AS A USER SEES THEM, WITH WHAT EACH RETURNS

abbrev pub number_or_refusal : Result ℕ Refusal → Answer
number_or_refusal (Ok n) = answered n
number_or_refusal (Err r) = refused r

abbrev pub done_or_refusal : {A : Type 0} → Result A Refusal → Answer
done_or_refusal (Ok u) = done
done_or_refusal (Err r) = refused r

abbrev pub Opens : State → Result ℕ Refusal → State → Type 0
Opens s r t = Steps s begin (number_or_refusal r) t

abbrev pub Reads : State → ℕ → ℕ → Result ℕ Refusal → State → Type 0
Reads s j x r t = Steps s (read j x) (number_or_refusal r) t

abbrev pub Writes : {A : Type 0} → State → ℕ → ℕ → ℕ → Result A Refusal → State → Type 0
Writes s j x v r t = Steps s (write j x v) (done_or_refusal r) t

abbrev pub Commits : {A : Type 0} → State → ℕ → Result A Refusal → State → Type 0
Commits s j r t = Steps s (commit j) (done_or_refusal r) t

abbrev pub Aborts : {A : Type 0} → State → ℕ → Result A Refusal → State → Type 0
Aborts s j r t = Steps s (abort j) (done_or_refusal r) t

-- the lent list begins with the numbers written and goes on as it was; their count is answered
abbrev pub Retires : State → List ℕ → ℕ → State → List ℕ → Type 0
Retires s lent count t left =
    (js : List ℕ)
    × Steps s (retire (length lent)) (wrote js) t
    × (count ≡ length js)
    × (left ≡ js ++ drop (length js) lent)

abbrev pub Peeks : State → ℕ → Result ℕ Refusal → State → Type 0
Peeks s x r t = Steps s (peek x) (number_or_refusal r) t
