use Rattle.std.proofs.Common.{rules, ◌≡◌, ◌<◌, set, refl, ap, arith}
use Rattle.std.proofs.lemmas.Result.{err_from_is_err_and, OkIff-at_ok}
use Rattle.history.specs.declared.refusal.Refusal.TheVariants.{TableFull, NumbersSpent}
use Rattle.scheduler.specs.Slots.{is_free}
use Rattle.scheduler.proofs.JobSlots.{found_at, found_none}
use Rattle.scheduler.proofs.Opens.{settled, opened_sound, open_granted, open_spent, open_full}
use Rattle.scheduler.proofs.hub_core.Core.open.Goals as goal

pub returns-in_err-free-clause-opens : goal.returns-in_err-free-clause-opens
returns-in_err-free-clause-opens c =
    let p = err_from_is_err_and c.from_residual.result c.from_residual.ensures.1 in
    let is : c.in_err-free.field-0.0 ≡ TableFull = grind arith in
    rw (p.1, p.2, is) (open_full c.args.self.now.tables c.args.self.now.sound (found_none is_free c.args.self.now.tables.jobs.slots c.find_free.result c.find_free.ensures (grind arith)))

pub returns-in_err-job-clause-opens : goal.returns-in_err-job-clause-opens
returns-in_err-job-clause-opens c =
    let at = found_at is_free c.args.self.now.tables.jobs.slots c.find_free.result c.in_ok-free.free c.find_free.ensures (grind arith) in
    let p = err_from_is_err_and c.from_residual-in_err-job.result c.from_residual-in_err-job.ensures.1 in
    let is : c.in_err-job.field-0.0 ≡ NumbersSpent = search rules in
    rw (p.1, p.2, is) (λ values room. open_spent c.args.self.now.tables c.args.self.now.sound c.in_ok-free.free at.0 (omega (arith, c.args.self.now.sound.0.0)) values room (grind arith))

-- the slot that was free, and the number that the job gets
pub invariant_of-self : goal.invariant_of-self
invariant_of-self c =
    let at = found_at is_free c.args.self.now.tables.jobs.slots c.find_free.result c.in_ok-free.free c.find_free.ensures (grind arith) in
    let (small, number) = OkIff-at_ok c.try_from.result _ _ c.in_ok-job.job c.try_from.ensures (grind arith) in
    rw (c.settle.ensures, number) (record {
      sound = opened_sound c.args.self.now.tables c.args.self.now.sound c.in_ok-free.free at.0 (omega (arith, c.args.self.now.sound.0.0)) (omega arith);
    })

pub returns : goal.returns
returns c =
    let at = found_at is_free c.args.self.now.tables.jobs.slots c.find_free.result c.in_ok-free.free c.find_free.ensures (grind arith) in
    let low : c.in_ok-free.free < 32 = omega (arith, c.args.self.now.sound.0.0) in
    let (small, number) = OkIff-at_ok c.try_from.result _ _ c.in_ok-job.job c.try_from.ensures (grind arith) in
    rw (c.settle.ensures, number) (record {
      opens = λ values room. open_granted c.args.self.now.tables c.args.self.now.sound c.in_ok-free.free at.0 low values room (omega arith);
      slot = (ap (λ k. set c.args.self.now.tables.jobs.slots k (settled c.args.self.now.tables.next)) at.0, refl, refl, refl);
    })
