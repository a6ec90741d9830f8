-- Laws of the machine, in words that do not follow its recipe: each call has one outcome, what a refusal
-- changes, when a step is refused for conflict, and what retires. Rests on Runs, and on paths.
use Rattle.std.specs.Prelude.{◌≡◌, ℕ, zero, suc, ◌<◌, ◌≤◌, Bool, true, false, T, ◌⊎◌, ◌↔◌, List, [], ◌∷◌, Some, ◌≢◌}
use Rattle.graph.specs.Paths.{Relation, Path}
use Rattle.history.specs.declared.holding.Holding.{Holding}
use Rattle.history.specs.declared.refusal.Refusal.{Refusal}
use Rattle.history.specs.declared.refusal.Refusal.TheVariants.{ClosesCycle}
use Rattle.history.specs.Machine.{State, Status, made, served, removed, all_removed, Call, read, write, retire, Answer, wrote, refused, Steps}
use Rattle.history.specs.Runs.{Turn, Runs}

-- some run of some hub leads to the state
abbrev pub Reached : State → Type 0
Reached s =
    (slots : ℕ) × (first : ℕ) × (room : ℕ) × (opening : List ℕ) × (run : List Turn)
    × Runs (made slots first opening room) run s

-- EACH CALL HAS ONE OUTCOME

-- the state, whatever its room
unfoldable pub but_room : State → State
but_room s =
    record {
      slots = s.slots;
      next = s.next;
      status = s.status;
      held = s.held;
      readers = s.readers;
      writers = s.writers;
      edges = s.edges;
      values = s.values;
      room = 0;
    }

-- in every state every call has an answer and a next state, and no two that differ in more than the room
pub record OneOutcome (s : State) (c : Call) : Type 0 where
  pub some : (a : Answer) × (t : State) × Steps s c a t
  pub same_answer : (a b : Answer) (t u : State) → Steps s c a t → Steps s c b u → a ≡ b
  pub same_state : (a b : Answer) (t u : State) → Steps s c a t → Steps s c b u → but_room t ≡ but_room u

-- WHAT A REFUSAL CHANGES

-- a refused call changes nothing, unless it is refused for conflict
abbrev pub RefusalsChangeNothing : Type 0
RefusalsChangeNothing =
    (s t : State) (c : Call) (r : Refusal) → Steps s c (refused r) t → (r ≢ ClosesCycle) → t ≡ s

-- a step that is refused for conflict removes its job, and nothing else is refused so
abbrev pub ConflictsAbort : Type 0
ConflictsAbort =
    (s t : State) (c : Call) → Steps s c (refused ClosesCycle) t
    → (j : ℕ) × (x : ℕ) × ((c ≡ read j x) ⊎ ((v : ℕ) × (c ≡ write j x v))) × (t ≡ removed j s)

-- WHEN A STEP IS REFUSED FOR CONFLICT

-- the machine's edges, with those that a step of job j on item x draws: to j, from every other job that
-- wrote the item, and if the step writes, from every other job that read it
abbrev pub StepEdge : State → ℕ → ℕ → Bool → Relation
StepEdge s j x writes a b =
    T (s.edges a b)
    ⊎ ((b ≡ j) × (a ≢ j) × (T (s.writers x a) ⊎ (T writes × T (s.readers x a))))

-- the job runs, the item is served, and no other job holds it
pub record Unbarred (s : State) (j x : ℕ) : Type 0 where
  pub runs : s.status j ≡ Status.running
  pub inside : x < served s
  pub free : (h : Holding) → s.held x ≡ Some h → h.job ≡ j

-- exactly when nothing else bars the step and, with its edges drawn, a path leads from the job to itself
abbrev pub RefusedOnPath : State → Call → ℕ → ℕ → Bool → Type 0
RefusedOnPath s c j x writes =
    (a : Answer) (t : State) → Steps s c a t
    → (a ≡ refused ClosesCycle) ↔ (Unbarred s j x × Path (StepEdge s j x writes) j j)

abbrev pub ExactTest : Type 0
ExactTest =
    (s : State) → Reached s → (j x : ℕ)
    → RefusedOnPath s (read j x) j x false × ((v : ℕ) → RefusedOnPath s (write j x v) j x true)

-- WHAT RETIRES

-- the job is committed, and no edge leads into it
abbrev pub MayRetire : State → ℕ → Type 0
MayRetire s j = (s.status j ≡ Status.committed) × ((i : ℕ) → s.edges i j ≢ true)

-- into n places retire these: the smallest that may, and then what retires when it is gone, until the
-- places are filled or none may
abbrev pub Retirement : ℕ → State → List ℕ → Type 0
Retirement zero s js = js ≡ []
Retirement (suc n) s [] = (j : ℕ) → MayRetire s j → ⊥
Retirement (suc n) s (j ∷ js) =
    MayRetire s j × ((i : ℕ) → MayRetire s i → j ≤ i) × Retirement n (removed j s) js

abbrev pub RetiresSmallest : Type 0
RetiresSmallest =
    (s t : State) (n : ℕ) (a : Answer) → Reached s → Steps s (retire n) a t
    → (js : List ℕ) × (a ≡ wrote js) × Retirement n s js × (t ≡ all_removed js s)
