use Rattle.std.proofs.Common.{refl, arith}
use Rattle.std.proofs.lemmas.Result.{err_from_is_err_and}
use Rattle.store.proofs.Logs.{puts_refused, appended_last, one_more, puts_appended}
use Rattle.store.proofs.log.LogStore.append.Goals as goal

pub returns-in_err-n : goal.returns-in_err-n
returns-in_err-n c =
    let log = c.args.self.now in
    let p = err_from_is_err_and c.from_residual.result c.from_residual.ensures.1 in
    rw (p.1, p.2) (record {
      means = puts_refused log.bytes.now log.items log.used c.args.item c.args.value _ c.in_err-n.ensures;
      turns = refl;
      bytes = (refl, refl, refl);
      lender = refl;
    })

pub returns : goal.returns
returns c =
    let log = c.args.self.now in
    let next = c.in_ok-n.ensures in
    let written = c.write_record.ensures in
    let last = appended_last log.bytes.now _ log.items log.used _ _ _ next written in
    let more = one_more log.bytes.now _ log.items log.used _ _ _ next written in
    record {
      means = puts_appended log.bytes.now _ log.items log.used _ _ _ next written (omega arith);
      turns = ((last, refl, more), refl);
      bytes = (last, refl, more);
      lender = refl;
    }
