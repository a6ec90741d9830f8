use Rattle.std.proofs.Common.{rules, ◌≡◌, take, ◌∙◌, arith}
use Rattle.std.specs.List.{count_by}
use Rattle.history.specs.Machine.{holds}
use Rattle.scheduler.specs.declared.tables.ItemState.{ItemState}
use Rattle.scheduler.proofs.Commits.{count_held}
use Rattle.scheduler.proofs.hub_core.Core.count_below.Goals as goal

pub returns : goal.returns
returns c =
    let counted : c.count.result ≡ count_by (λ (it : ItemState). holds c.args.job it.held) (take c.args.items c.args.self.now.tables.items) = search rules in
    counted ∙ count_held c.args.self.now.tables c.args.job c.args.items (omega (arith, c.args.self.now.sound.0.2))
