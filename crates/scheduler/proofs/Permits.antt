-- How a read and a write step: refused before the edges are asked, refused by them, or granted. Assumes
-- nothing.
use Rattle.std.proofs.Common.{◌≡◌, ℕ, min, Bool, true, false, cond, not, eqb, leb, List, length, get_or, Some, None, Option, Ok, Err, Result, sym, refl, ap, ◌∙◌, inl, inr, arith}
use Rattle.std.proofs.lemmas.Bool.{cases_Bool, lt-leb}
use Rattle.history.specs.declared.holding.Holding.{Holding}
use Rattle.history.specs.declared.refusal.Refusal.{Refusal}
use Rattle.history.specs.declared.refusal.Refusal.TheVariants.{ItemNotServed, ItemHeld, ClosesCycle}
use Rattle.history.specs.Refusals.{aborts}
use Rattle.history.specs.Machine.{State, Status, absent, running, committed, read, write, answered, done, refused, refusal, granted_answer, granted_state, refused_state, put_count, removed, has_read, not_running, not_served, refuse_if, held_by_another, ◌else◌, closes_cycle, holds, held_value, Steps, Writes}
use Rattle.scheduler.specs.Accesses.{writes, asked, Leads}
use Rattle.scheduler.specs.declared.items.Access.{Access}
use Rattle.scheduler.specs.declared.items.Access.TheVariants.{Read, Write}
use Rattle.scheduler.specs.declared.tables.Tables.{Tables}
use Rattle.scheduler.specs.Slots.{status_of, slot, slot_of}
use Rattle.scheduler.specs.Reading.{item, state, Admitted, Barred}
use Rattle.scheduler.proofs.States.{steps_refused, steps_granted}

-- what the tests before the edges answer leaves the job as it is

no_refusal : {X : Type 0} (r : Refusal) → ◌≡◌ {A = Option Refusal} None (Some r) → X
no_refusal r e = let z : ◌≡◌ {A = ℕ} 0 1 = cc in absurd (omega arith)

same_refusal : (q r : Refusal) → ◌≡◌ {A = Option Refusal} (Some q) (Some r) → q ≡ r
same_refusal q r e = cc

abbrev Keeps : Option Refusal → Type 0
Keeps o = (r : Refusal) → o ≡ Some r → aborts r ≡ false

keeps_none : Keeps None
keeps_none r e = no_refusal r e

keeps_some : (q : Refusal) → aborts q ≡ false → Keeps (Some q)
keeps_some q h r e = ap aborts (sym (same_refusal q r e)) ∙ h

keeps_else : (o p : Option Refusal) → Keeps o → Keeps p → Keeps (o else p)
keeps_else None p h k = k
keeps_else (Some q) p h k = h

keeps_running : (s : Status) → Keeps (not_running s)
keeps_running absent = keeps_some _ refl
keeps_running running = keeps_none
keeps_running committed = keeps_some _ refl

keeps_if : (b : Bool) (q : Refusal) → aborts q ≡ false → Keeps (refuse_if b q)
keeps_if true q h = keeps_some q h
keeps_if false q h = keeps_none

keeps_held : (j : ℕ) (o : Option Holding) → Keeps (held_by_another j o)
keeps_held j None = keeps_none
keeps_held j (Some h) = keeps_if (not (eqb h.job j)) (ItemHeld h.job) refl

-- a refusal by an earlier test stands before every later one
else_later : (o p q z : Option Refusal) (r : Refusal) → (o else p else q) ≡ Some r → (o else p else q else z) ≡ Some r
else_later (Some a) p q z r e = e
else_later None (Some a) q z r e = e
else_later None None (Some a) z r e = e
else_later None None None z r e = no_refusal r e

else_last : (o p q z : Option Refusal) → o ≡ None → p ≡ None → q ≡ None → (o else p else q else z) ≡ z
else_last o p q z e f g = ap (λ a. a else p else q else z) e ∙ ap (λ a. a else q else z) f ∙ ap (λ a. a else z) g

else_third : (o p q z : Option Refusal) → (o else p else q else z) ≡ None → q ≡ None
else_third (Some a) p q z e = no_refusal a (sym e)
else_third None (Some a) q z e = no_refusal a (sym e)
else_third None None (Some a) z e = no_refusal a (sym e)
else_third None None None z e = refl

-- the value of an item that no other job holds
seen_value : (j : ℕ) (o : Option Holding) (v : ℕ) → held_by_another j o ≡ None → held_value o v ≡ cond (holds j o) (held_value o 0) v
seen_value j None v e = refl
seen_value j (Some h) v e = elim (cases_Bool (eqb h.job j)) [
  | inl mine ↦ sym (ap (λ b. cond b h.value v) mine)
  | inr other ↦ no_refusal _ (sym e ∙ ap (λ b. refuse_if (not b) (ItemHeld h.job)) other)
]

-- why a step is refused, and where it then leads
asked_refusal : (s : State) (j x : ℕ) (a : Access) → refusal s (asked j x a) ≡ (not_running (s.status j) else not_served s x else held_by_another j (s.held x) else refuse_if (closes_cycle s j x (writes a)) ClosesCycle)
unfolding refusal
asked_refusal s j x Read = refl
asked_refusal s j x (Write v) = refl

asked_refused : (s : State) (j x : ℕ) (a : Access) (r : Refusal) → refused_state s (asked j x a) r ≡ cond (aborts r) (removed j s) s
unfolding refused_state
asked_refused s j x Read r = refl
asked_refused s j x (Write v) r = refl

module _ (t : Tables) (j x count : ℕ) (a : Access) (values : List ℕ) (room : ℕ) (is : count ≡ min 64 (length values)) where
  s : State
  s = state t values room

  before : Option Refusal
  before =
      not_running (status_of (slot t.jobs.slots (slot_of j t.jobs.slots)).status)
      else refuse_if (leb count x) ItemNotServed
      else held_by_another j (item t.items x).held

  before_keeps : Keeps before
  unfolding before
  before_keeps = keeps_else _ _ (keeps_running _) (keeps_else _ _ (keeps_if (leb count x) ItemNotServed refl) (keeps_held j (item t.items x).held))

  -- the machine's tests before the edges are the scheduler's
  served_test : (z : Option Refusal) → (not_running (s.status j) else not_served s x else held_by_another j (s.held x) else z) ≡ (not_running (s.status j) else refuse_if (leb count x) ItemNotServed else held_by_another j (s.held x) else z)
  unfolding s state
  served_test z = ap (λ n. not_running (s.status j) else refuse_if (leb n x) ItemNotServed else held_by_another j (s.held x) else z) (sym is)

  barred : (r : Refusal) → Barred t count j x r → (z : Option Refusal) → (not_running (s.status j) else not_served s x else held_by_another j (s.held x) else z) ≡ Some r
  unfolding s state
  barred r h z = served_test z ∙ else_later (not_running (s.status j)) (refuse_if (leb count x) ItemNotServed) (held_by_another j (s.held x)) z r h

  admitted : (k : ℕ) → Admitted t count j x k → (z : Option Refusal) → (not_running (s.status j) else not_served s x else held_by_another j (s.held x) else z) ≡ z
  unfolding s state
  admitted k (runs, low, free) z =
      served_test z
      ∙ else_last (not_running (s.status j)) (refuse_if (leb count x) ItemNotServed) (held_by_another j (s.held x)) z
      (ap not_running (ap (λ n. status_of (slot t.jobs.slots n).status) (sym runs.0) ∙ ap status_of runs.2))
      (ap (λ b. refuse_if b ItemNotServed) (lt-leb count x low))
      free

  pub step_barred : (r : Refusal) → Barred t count j x r → (refusal (state t values room) (asked j x a) ≡ Some r) × (state t values room ≡ refused_state (state t values room) (asked j x a) r)
  unfolding s before
  step_barred r h = (asked_refusal s j x a ∙ barred r h _, sym (asked_refused s j x a r ∙ ap (λ b. cond b (removed j s) s) (before_keeps r h)))

  module _ (k : ℕ) (may : Admitted t count j x k) where
    pub step_closes : (t' : Tables) → closes_cycle (state t values room) j x (writes a) ≡ true → state t' values room ≡ removed j (state t values room) → (refusal (state t values room) (asked j x a) ≡ Some ClosesCycle) × (state t' values room ≡ refused_state (state t values room) (asked j x a) ClosesCycle)
    unfolding s
    step_closes t' c e = (asked_refusal s j x a ∙ admitted k may _ ∙ ap (λ b. refuse_if b ClosesCycle) c, e ∙ sym (asked_refused s j x a ClosesCycle))

    pub step_granted : closes_cycle (state t values room) j x (writes a) ≡ false → refusal (state t values room) (asked j x a) ≡ None
    unfolding s
    step_granted c = asked_refusal s j x a ∙ admitted k may _ ∙ ap (λ b. refuse_if b ClosesCycle) c

-- the call of a step that was let be

module _ (t t' : Tables) (j x : ℕ) (values : List ℕ) (room : ℕ) where
  pub read_refused : (r : Refusal) → refusal (state t values room) (read j x) ≡ Some r → state t' values room ≡ refused_state (state t values room) (read j x) r → Steps (state t values room) (read j x) (refused r) (state t' values room)
  unfolding state
  read_refused r e f = steps_refused (state t values room) (read j x) (state t' values room) r e f refl

  -- the holder that is asked after a read is the one from before it
  pub read_answered : (v stored : ℕ) → refusal (state t values room) (read j x) ≡ None → state t' values room ≡ granted_state (state t values room) (read j x) (state t' values room).room → v ≡ held_value (item t'.items x).held stored → stored ≡ get_or values x 0 → Steps (state t values room) (read j x) (answered v) (state t' values room)
  unfolding refusal granted_answer granted_state put_count state has_read
  read_answered v stored e f answer is =
      let s = state t values room in
      let same = ap (λ (m : State). m.held x) f in
      let free = else_third (not_running (s.status j)) (not_served s x) (held_by_another j (s.held x)) (refuse_if (closes_cycle s j x false) ClosesCycle) e in
      steps_granted s (read j x) (state t' values room) (answered v) e
      (ap answered (answer ∙ ap (λ o. held_value o stored) same ∙ ap (held_value (item t.items x).held) is ∙ seen_value j (item t.items x).held (get_or values x 0) free))
      f (λ _. refl) (omega arith)

  pub leads_writes : {A : Type 0} (v : ℕ) (r : Result A Refusal) → Leads (state t values room) (write j x v) r (state t' values room) → Writes (state t values room) j x v r (state t' values room)
  unfolding granted_answer put_count state
  leads_writes v (Ok u) (e, f) = steps_granted (state t values room) (write j x v) (state t' values room) done e refl f (λ _. refl) (omega arith)
  leads_writes v (Err r) (e, f) = steps_refused (state t values room) (write j x v) (state t' values room) r e f refl
