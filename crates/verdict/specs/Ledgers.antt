-- What a ledger says of the acts so far, and what the calls on it do. Rests on sets of nodes, and on the conflicts of a
-- list of acts.
use Rattle.std.specs.Prelude.{◌≡◌, ℕ, ◌<◌, ◌≤◌, Bool, true, false, not, ◌&&◌, ◌||◌, ◌⊎◌, List, [], ◌∷◌, ◌++◌, length, set, replicate, Some, None, Ok, Err, Option, Result, ◌==◌, ◌≢◌, slice_index, slice_index_or}
use Rattle.graph.specs.Nodes.{has}
use Rattle.graph.specs.Paths.{◌∈◌, Distinct}
use Rattle.trace.specs.declared.act.Act.{Act}
use Rattle.history.specs.Acts.{Fate, fate, Kept, not_aborted}
use Rattle.history.specs.Conflicts.{Access as Accessed, accesses, Leads}
use Rattle.verdict.specs.Turns.{opened, InTurn, HasRoom, Sound, Refuses}
use Rattle.verdict.specs.declared.refusal.JudgeRefusal.{JudgeRefusal}
use Rattle.verdict.specs.declared.refusal.JudgeRefusal.TheVariants.{OutOfTurn, TooManyJobs, ListTooShort}
use Rattle.verdict.specs.declared.ledger.Ledger.{Ledger}
use Rattle.verdict.specs.declared.users.Access.{Access}
use Rattle.verdict.specs.declared.users.Users.{Users}
use Rattle.verdict.specs.Users.{AddsUser, no_users}

-- the number of the job at a node
abbrev pub number_at : Ledger → ℕ → ℕ
number_at l p = slice_index l.numbers.items p

-- how many jobs were opened
abbrev pub count : Ledger → ℕ
count l = length l.numbers.items

-- the ledger of no job
abbrev pub blank : Ledger
blank = record {
  numbers = record { items = [] };
  running = 0;
  kept = 0;
  into = replicate 64 0;
  users = replicate 64 no_users;
}

-- an edge leads to the job at node q from that at node p
abbrev pub marked : Ledger → ℕ → ℕ → Bool
marked l p q = has (slice_index l.into q) p

-- the users of an item that the ledger has
abbrev pub users_at : Ledger → ℕ → Users
users_at l x = slice_index_or l.users x no_users

-- the node of the job is answered, or it has none and none is answered
abbrev pub Finds : Ledger → ℕ → Option ℕ → Type 0
Finds l job None = (p : ℕ) → p < count l → number_at l p ≢ job
Finds l job (Some p) = (p < count l) × (number_at l p ≡ job)

-- the node of the job is answered, where it is open; or it has none, or is not open at one that it has
abbrev pub FindsOpen : Ledger → ℕ → Option ℕ → Type 0
FindsOpen l job None =
    ((p : ℕ) → p < count l → number_at l p ≢ job)
    ⊎ ((p : ℕ) × (p < count l) × (number_at l p ≡ job) × (has l.running p ≡ false))
FindsOpen l job (Some p) = (p < count l) × (number_at l p ≡ job) × (has l.running p ≡ true)

-- the job has the next node, is open and counts
pub record Opens (l : Ledger) (job : ℕ) (m : Ledger) : Type 0 where
  pub numbers : m.numbers.items ≡ l.numbers.items ++ job ∷ []
  pub running : (p : ℕ) → has m.running p ≡ (has l.running p || p == count l)
  pub kept : (p : ℕ) → has m.kept p ≡ (has l.kept p || p == count l)
  pub rest : m ≡ record l { numbers = m.numbers; running = m.running; kept = m.kept }

-- the job at the node is not open
pub record Ends (l : Ledger) (node : ℕ) (m : Ledger) : Type 0 where
  pub running : (p : ℕ) → has m.running p ≡ (has l.running p && not (p == node))
  pub rest : m ≡ record l { running = m.running }

-- the job at the node is not open and does not count
pub record Drops (l : Ledger) (node : ℕ) (m : Ledger) : Type 0 where
  pub running : (p : ℕ) → has m.running p ≡ (has l.running p && not (p == node))
  pub kept : (p : ℕ) → has m.kept p ≡ (has l.kept p && not (p == node))
  pub rest : m ≡ record l { running = m.running; kept = m.kept }

-- edges lead to the job at the node from the others of the set too
pub record Draws (l : Ledger) (node from : ℕ) (m : Ledger) : Type 0 where
  pub here : (p : ℕ) → marked m p node ≡ (marked l p node || (has from p && not (p == node)))
  pub rest : m ≡ record l { into = set l.into node (slice_index m.into node) }

-- the job at the node is a reader or a writer of item x too, if that is below 64
pub record Notes (l : Ledger) (access : Access) (x node : ℕ) (m : Ledger) : Type 0 where
  pub here : x < 64 → AddsUser access (users_at l x) node (users_at m x)
  pub other : (y : ℕ) → (y ≢ x) → users_at m y ≡ users_at l y
  pub places : length m.users ≡ length l.users
  pub rest : m ≡ record l { users = m.users }

-- the marked nodes are those of the jobs of which P holds; the jobs stand at their nodes
pub record Marks (jobs : List ℕ) (P : ℕ → Type 0) (set : ℕ) : Type 0 where
  pub only : (p : ℕ) → has set p ≡ true → (p < length jobs) × P (slice_index jobs p)
  pub all : (p : ℕ) → p < length jobs → P (slice_index jobs p) → has set p ≡ true

-- job i accessed item x, by a write or by a read
abbrev pub Used : Bool → ℕ → ℕ → List Accessed → Type 0
Used w x i [] = ⊥
Used w x i (a ∷ s) = ((a.job ≡ i) × (a.item ≡ x) × (a.writes ≡ w)) ⊎ Used w x i s

-- the users of item x among these jobs
pub record UsersOf (s : List Accessed) (jobs : List ℕ) (x : ℕ) (u : Users) : Type 0 where
  pub readers : Marks jobs (λ i. Used false x i s) u.readers
  pub writers : Marks jobs (λ i. Used true x i s) u.writers

-- the ledger of these acts: the jobs that they open, in that order and each once; which of them run, which of them
-- count, and the edges between them
pub record Keeps (H : List Act) (l : Ledger) : Type 0 where
  pub few : count l ≤ 64
  pub places : (length l.into ≡ 64) × (length l.users ≡ 64)
  pub jobs : l.numbers.items ≡ opened H
  pub once : Distinct (opened H)
  pub unopened : (j : ℕ) → (j ∈ opened H → ⊥) → fate j H ≡ Fate.unopened
  pub opened_once : (j : ℕ) → j ∈ opened H → fate j H ≢ Fate.unopened
  pub users : (w : Bool) (x i : ℕ) → Used w x i (accesses H) → i ∈ opened H
  pub running : Marks l.numbers.items (λ i. fate i H ≡ Fate.running) l.running
  pub kept : Marks l.numbers.items (Kept not_aborted H) l.kept
  pub edges : (q : ℕ) → q < count l → Marks l.numbers.items (λ i. Leads (accesses H) i (number_at l q)) (slice_index l.into q)
  pub empty : (p q : ℕ) → count l ≤ q → marked l p q ≡ false
  pub items : (x : ℕ) → x < 64 → UsersOf (accesses H) l.numbers.items x (users_at l x)

-- what becomes of one more act: it is taken, or it is out of turn, or there is no room for its job
abbrev pub Takes : List Act → Act → ℕ → Result Unit JudgeRefusal → Ledger → Type 0
Takes H act index (Ok _) l = InTurn H act × HasRoom H act × Keeps (H ++ act ∷ []) l
Takes H act index (Err (OutOfTurn i)) l = (i ≡ index) × (InTurn H act → ⊥)
Takes H act index (Err TooManyJobs) l = InTurn H act × (HasRoom H act → ⊥)
Takes H act index (Err ListTooShort) l = ⊥

-- the acts are in turn and have room, and the ledger is theirs; or they are refused, whatever the list of numbers
abbrev pub ReadsSteps : List Act → Result Ledger JudgeRefusal → Type 0
ReadsSteps H (Ok l) = Sound H (length H) × Keeps H l
ReadsSteps H (Err r) = (places : ℕ) → Refuses H places r
