-- Calls for a job that does not run, and an abort of one that does. Assumes nothing.
use Rattle.std.proofs.Common.{◌≡◌, ℕ, List, length, Some, None, sym, refl, ap, ◌∙◌, arith}
use Rattle.history.specs.declared.refusal.Refusal.{Refusal}
use Rattle.history.specs.declared.refusal.Refusal.TheVariants.{NotPresent}
use Rattle.history.specs.Machine.{not_running, abort, refusal, granted_answer, granted_state, refused_state, put_count, done, refused, removed, Steps}
use Rattle.scheduler.specs.declared.slots.Slot.{Slot}
use Rattle.scheduler.specs.declared.tables.Tables.{Tables}
use Rattle.scheduler.specs.Slots.{status_of, slot, slot_of}
use Rattle.scheduler.specs.Reading.{state, RunsAt, Stopped}
use Rattle.scheduler.proofs.Sounds.{slot_past}
use Rattle.scheduler.proofs.States.{steps_refused, steps_granted}

pub missing_stopped : (t : Tables) (j : ℕ) → slot_of j t.jobs.slots ≡ length t.jobs.slots → Stopped t j NotPresent
missing_stopped t j h = ap (λ (s : Slot). not_running (status_of s.status)) (slot_past t.jobs.slots (slot_of j t.jobs.slots) (omega arith))

module _ (t : Tables) (j : ℕ) (values : List ℕ) (room : ℕ) where
  pub stopped_status : (r : Refusal) → Stopped t j r → not_running ((state t values room).status j) ≡ Some r
  unfolding state
  stopped_status r h = h

  pub runs_status : (k : ℕ) → RunsAt t j k → not_running ((state t values room).status j) ≡ None
  unfolding state
  runs_status k h = ap not_running (ap (λ n. status_of (slot t.jobs.slots n).status) (sym h.0) ∙ ap status_of h.2)

  pub abort_refused : (r : Refusal) → Stopped t j r → Steps (state t values room) (abort j) (refused r) (state t values room)
  unfolding refusal refused_state
  abort_refused r h = steps_refused (state t values room) (abort j) (state t values room) r (stopped_status r h) refl refl

  pub abort_granted : (k : ℕ) (t' : Tables) → RunsAt t j k → state t' values room ≡ removed j (state t values room) → Steps (state t values room) (abort j) done (state t' values room)
  unfolding refusal granted_answer granted_state put_count state
  abort_granted k t' h e = steps_granted (state t values room) (abort j) (state t' values room) done (runs_status k h) refl e (λ _. refl) (omega arith)
