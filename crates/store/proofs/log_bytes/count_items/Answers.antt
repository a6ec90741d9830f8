use Rattle.std.proofs.Common.{sym, ◌∙◌}
use Rattle.store.proofs.Records.{length_contents}
use Rattle.store.proofs.log_bytes.count_items.Goals as goal

pub returns : goal.returns
returns c bytes used = c.from.ensures ∙ sym (length_contents bytes c.args.items used)
