use Rattle.std.proofs.Common.{◌≡◌, min, Some, sym, ap, ◌∙◌, subst, arith}
use Rattle.store.specs.Records.{whole, held, Latest}
use Rattle.store.proofs.Records.{at_contents, at_contents_outside, held_latest}
use Rattle.store.proofs.log_bytes.read_item.Goals as goal

pub returns-then-item-from : goal.returns-then-item-from
returns-then-item-from c = record { means = sym (at_contents_outside _ _ _ _ (omega arith)); latest = omega arith }

pub returns : goal.returns
returns c =
    let bytes = c.args.bytes.now in
    let item = c.args.item in
    let used = min c.args.used (whole bytes) in
    let value : c.last_value.result ≡ held bytes item used = c.last_value.ensures ∙ ap (held bytes item) c.min-used.ensures in
    record {
      means = ap Some value ∙ sym (at_contents _ _ _ _ (omega arith));
      latest = subst (Latest bytes item used) (sym value) (held_latest bytes item used);
    }
