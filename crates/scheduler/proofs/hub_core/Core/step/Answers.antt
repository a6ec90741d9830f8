use Rattle.std.proofs.Common.{rules, ◌<◌, min, ap, ◌∙◌, arith}
use Rattle.scheduler.specs.Accesses.{writes}
use Rattle.scheduler.specs.Reading.{row}
use Rattle.scheduler.proofs.Accesses.{noted_state}
use Rattle.scheduler.proofs.Draws.{search_tells}
use Rattle.scheduler.proofs.Permits.{step_barred, step_closes, step_granted}
use Rattle.scheduler.proofs.hub_core.Core.step.Goals as goal

pub returns-in_err-slot-clause-leads : goal.returns-in_err-slot-clause-leads
returns-in_err-slot-clause-leads c = search (rules, step_barred)

pub returns-then-closes_cycle-clause-leads : goal.returns-then-closes_cycle-clause-leads
returns-then-closes_cycle-clause-leads c values room is =
    let t = c.args.self.now.tables in
    let k = c.in_ok-slot.field-0 in
    let may = c.in_ok-slot.ensures in
    let closes = search_tells t c.args.self.now.sound c.args.job k may.0.0 may.0.1 c.args.item c.sources-from.result (writes c.args.access) c.sources-from.ensures values room c.closes_cycle.result c.closes_cycle.ensures in
    step_closes t c.args.job c.args.item (min 64 c.args.items) c.args.access values room (ap (min 64) is) k may _ (closes ∙ c.if-closes_cycle.true) (c.remove.ensures values room)

pub returns-clause-leads : goal.returns-clause-leads
returns-clause-leads c =
    let t = c.args.self.now.tables in
    let k = c.in_ok-slot.field-0 in
    let may = c.in_ok-slot.ensures in
    let from = c.sources-from.result in
    let sources = c.sources-from.ensures in
    let low : c.args.item < 64 = omega (arith, may.1) in
    rw c.draw.ensures.0 (λ values room is. (
      step_granted t c.args.job c.args.item (min 64 c.args.items) c.args.access values room (ap (min 64) is) k may
          (search_tells t c.args.self.now.sound c.args.job k may.0.0 may.0.1 c.args.item from (writes c.args.access) sources values room c.closes_cycle.result c.closes_cycle.ensures ∙ c.if-closes_cycle.false),
      noted_state t c.args.self.now.sound c.args.job k may.0.0 may.0.1 c.args.item from (row c.draw.new.rows k) low c.draw.ensures.1 _ c.args.access sources c.note.ensures values room _,
    ))
