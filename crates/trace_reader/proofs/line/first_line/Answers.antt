use Rattle.std.proofs.Common.{◌≡◌, ◌==◌, Some, None, Ok, Err, position, sym, ◌∙◌, rules}
use Rattle.std.proofs.lemmas.Result.{err_from_is_err_and}
use Rattle.trace.specs.declared.fault.LineCause.TheVariants.{Unended}
use Rattle.trace.proofs.Readings.{first_unended}
use Rattle.trace_reader.proofs.Cutting.{not_found}
use Rattle.trace_reader.proofs.Progress.{first_told}
use Rattle.trace_reader.proofs.line.first_line.Goals as goal

pub returns-in_err-end : goal.returns-in_err-end
returns-in_err-end c =
    let none : None ≡ position (λ b. b == 10) c.args.bytes.now = search rules in
    let p = err_from_is_err_and c.from_residual.result c.from_residual.ensures.1 in
    let e : Err c.in_err-end.field-0.0 ≡ Err (record { place = c.args.place; what = Unended }) = search rules in
    rw (p.1, p.2) (e ∙ sym (first_unended c.args.place c.args.bytes.now (not_found 10 c.args.bytes.now none)))

pub returns-in_err-act : goal.returns-in_err-act
returns-in_err-act c =
    let at : Some c.in_ok-end.end ≡ position (λ b. b == 10) c.args.bytes.now = search rules in
    let p = err_from_is_err_and c.from_residual-in_err-act.result c.from_residual-in_err-act.ensures.1 in
    rw (p.1, p.2) (first_told c.args.place c.args.bytes.now c.in_ok-end.end (Err c.in_err-act.field-0.0) at c.in_err-act.ensures)

pub returns : goal.returns
returns c =
    let at : Some c.in_ok-end.end ≡ position (λ b. b == 10) c.args.bytes.now = search rules in
    first_told c.args.place c.args.bytes.now c.in_ok-end.end (Ok c.in_ok-act.act) at c.in_ok-act.ensures
