use Rattle.std.proofs.Common.{◌≡◌, ℕ, Some, sym, refl, ap, ◌∙◌, arith}
use Rattle.std.proofs.lemmas.Result.{err_from_is_err_and}
use Rattle.history.specs.declared.refusal.Refusal.{Refusal}
use Rattle.history.specs.declared.refusal.Refusal.TheVariants.{NotPresent}
use Rattle.history.specs.Machine.{not_running}
use Rattle.scheduler.specs.declared.slots.SlotStatus.{SlotStatus}
use Rattle.scheduler.specs.declared.tables.Tables.{Tables}
use Rattle.scheduler.specs.Reading.{Stopped}
use Rattle.scheduler.specs.Slots.{status_of, slot, slot_of, belongs}
use Rattle.scheduler.proofs.Ends.{missing_stopped}
use Rattle.scheduler.proofs.JobSlots.{found_at, found_none}
use Rattle.scheduler.proofs.hub_core.Core.running.Goals as goal

-- the slot of the job says why it does not run
told_stopped : (t : Tables) (j k : ℕ) (st : SlotStatus) (r : Refusal) → k ≡ slot_of j t.jobs.slots → (slot t.jobs.slots k).status ≡ st → not_running (status_of st) ≡ Some r → Stopped t j r
told_stopped t j k st r is says why = ap (λ n. not_running (status_of (slot t.jobs.slots n).status)) (sym is) ∙ ap (λ s. not_running (status_of s)) says ∙ why

pub returns-in_err-slot : goal.returns-in_err-slot
returns-in_err-slot c =
    let p = err_from_is_err_and c.from_residual.result c.from_residual.ensures.1 in
    let is : c.in_err-slot.field-0.0 ≡ NotPresent = grind arith in
    rw (p.1, p.2, is) (missing_stopped c.args.self.now.tables c.args.job (found_none (belongs c.args.job) c.args.self.now.tables.jobs.slots c.find.result c.find.ensures (grind arith)))

pub returns-in-Free : goal.returns-in-Free
returns-in-Free c =
    let at = found_at (belongs c.args.job) c.args.self.now.tables.jobs.slots c.find.result c.in_ok-slot.slot c.find.ensures (grind arith) in
    told_stopped c.args.self.now.tables c.args.job c.in_ok-slot.slot _ _ at.0 c.in-Free.is refl

pub returns-in-Running : goal.returns-in-Running
returns-in-Running c =
    let at = found_at (belongs c.args.job) c.args.self.now.tables.jobs.slots c.find.result c.in_ok-slot.slot c.find.ensures (grind arith) in
    (at.0, omega (arith, c.args.self.now.sound.0.0), c.in-Running.is)

pub returns-in-Committed : goal.returns-in-Committed
returns-in-Committed c =
    let at = found_at (belongs c.args.job) c.args.self.now.tables.jobs.slots c.find.result c.in_ok-slot.slot c.find.ensures (grind arith) in
    told_stopped c.args.self.now.tables c.args.job c.in_ok-slot.slot _ _ at.0 c.in-Committed.is refl
