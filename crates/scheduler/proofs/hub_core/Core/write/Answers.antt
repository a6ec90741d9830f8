use Rattle.scheduler.proofs.Permits.{leads_writes}
use Rattle.scheduler.proofs.hub_core.Core.write.Goals as goal

pub returns : goal.returns
returns c values room is =
    leads_writes c.args.self.now.tables _ c.args.job c.args.item values room c.args.value c.step.result (c.step.ensures.leads values room is)
