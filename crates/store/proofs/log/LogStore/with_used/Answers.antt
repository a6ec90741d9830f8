use Rattle.std.proofs.Common.{◌≡◌, ◌-◌, min, sym, refl, ap, subst, arith}
use Rattle.store.specs.Records.{whole, contents, used_in, UsedFront}
use Rattle.store.proofs.Records.{used_front}
use Rattle.store.proofs.log.LogStore.with_used.Goals as goal

pub returns : goal.returns
returns c =
    let bytes = c.args.bytes.now in
    let front = used_front bytes in
    let clipped : min c.args.used (whole bytes) ≡ used_in bytes = omega (arith, c.requires, front.within) in
    record {
      means = (ap (contents bytes c.args.items) clipped, ap (λ n. whole bytes - n) clipped);
      used = subst (UsedFront bytes) (sym clipped) front;
      bytes = refl;
      lender = refl;
    }
