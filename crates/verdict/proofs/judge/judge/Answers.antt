use Rattle.std.proofs.Common.{length, Err, sym, refl, ap, ◌∙◌, subst}
use Rattle.std.proofs.lemmas.Result.{err_from_is_err_and}
use Rattle.history.specs.Acts.{not_aborted}
use Rattle.verdict.specs.Turns.{acts}
use Rattle.verdict.specs.Verdicts.{Judges}
use Rattle.verdict.proofs.judge.judge.Goals as goal

pub returns-in_err-ledger : goal.returns-in_err-ledger
returns-in_err-ledger c =
    let p = err_from_is_err_and c.from_residual.result c.from_residual.ensures.1 in
    let numbers = c.args.numbers.now in
    subst (λ r. Judges not_aborted (acts c.args.steps.now) numbers r numbers) (sym (p.1 ∙ ap Err p.2))
    (c.in_err-ledger.ensures (length numbers), refl)
