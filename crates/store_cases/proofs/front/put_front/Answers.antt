use Rattle.std.proofs.Common.{arith, sym, ◌∙◌}
use Rattle.store_cases.proofs.Fronts.{front_granted}
use Rattle.store_cases.proofs.front.put_front.Goals as goal

pub loop-item-preserved : goal.loop-item-preserved
loop-item-preserved g c = front_granted c.loop-item.invariant (omega arith) c.put.result (sym c.is_err.ensures.value ∙ c.if-is_err.false) c.put.ensures.means
