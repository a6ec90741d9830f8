use Rattle.std.proofs.Common.{List, vec_items, codes, refl, ap, ◌∙◌}
use Rattle.std.proofs.lemmas.Result.{IfOk-weaker}
use Rattle.console.specs.Sheets.{sheet_text}
use Rattle.judge.specs.declared.line.Line.{Line}
use Rattle.judge.specs.Texts.{line_text}
use Rattle.judge.proofs.answer.Goals as goal

pub returns : goal.returns
returns c =
    IfOk-weaker c.write_sheet.result _ _
    (λ text told. (
      vec_items c.in_ok-lines.lines,
      c.in_ok-lines.ensures,
      told line_text (λ l. refl) ∙ ap (λ (z : List Line). sheet_text line_text (codes "verdict,count") z) c.deref.ensures.value,
    ))
    c.write_sheet.ensures
