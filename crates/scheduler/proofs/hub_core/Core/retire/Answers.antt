use Rattle.std.proofs.Common.{◌≡◌, length, arith}
use Rattle.std.proofs.lemmas.List.{set-get_or}
use Rattle.scheduler.proofs.RetireRuns.{none_retired, one_retired, retired_full, retired_rest}
use Rattle.scheduler.proofs.hub_core.Core.retire.Goals as goal

pub loop-count-init : goal.loop-count-init
loop-count-init c = none_retired c.args.self.now.tables c.args.list.now

pub returns-in_default : goal.returns-in_default
returns-in_default c = rw (set-get_or c.loop-count.list c.loop-count.count 0)
    (retired_rest c.args.self.now.tables c.args.list.now c.loop-count.count c.loop-count.self.tables c.loop-count.list c.loop-count.invariant c.in_default.ensures)

pub loop-count-preserved : goal.loop-count-preserved
loop-count-preserved c =
    one_retired c.args.self.now.tables c.args.list.now c.loop-count.count c.loop-count.self.tables c.loop-count.list c.loop-count.invariant _ _ (omega (arith, c.loop-count.invariant.long)) c.in-Some.ensures.2 c.remove.ensures

pub returns : goal.returns
returns c =
    let retired = c.loop-count.invariant in
    let all : length c.loop-count.list ≡ c.loop-count.count = omega (arith, retired.long, retired.within) in
    rw all (retired_full c.args.self.now.tables c.args.list.now c.loop-count.count c.loop-count.self.tables c.loop-count.list retired (omega (arith, retired.long)))
