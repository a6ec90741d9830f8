use Rattle.std.proofs.Common.{arith}
use Rattle.scheduler.proofs.Makes.{fresh_sound}
use Rattle.scheduler.proofs.hub_core.Core.new.Goals as goal

pub invariant_of-result : goal.invariant_of-result
invariant_of-result c = record { sound = fresh_sound _ (omega arith) }
