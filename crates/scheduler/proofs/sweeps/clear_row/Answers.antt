use Rattle.std.proofs.Common.{not, ◌&&◌, eqb, sym, ap, ◌∙◌}
use Rattle.std.proofs.lemmas.Bool.{eq-eqb}
use Rattle.graph.specs.Nodes.{has}
use Rattle.graph.proofs.Words.{bit_none}
use Rattle.scheduler.proofs.sweeps.clear_row.Goals as goal

pub returns-then-to-slot : goal.returns-then-to-slot
returns-then-to-slot c a =
    bit_none a ∙ sym (ap (λ b. not b && (not (eqb a c.args.slot) && has c.args.row a)) (eq-eqb c.args.to c.args.slot c.if-to-slot.true))
