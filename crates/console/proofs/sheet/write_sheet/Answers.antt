use Rattle.std.proofs.Common.{List, ℕ, ◌++◌, Option, string_bytes, ap, ◌∙◌, subst, arith, take}
use Rattle.std.specs.Fmt.{AppendsText, with_newline}
use Rattle.std.proofs.lemmas.List.{append_assoc, take_all}
use Rattle.console.specs.Sheets.{ended, lines_text, sheet_text}
use Rattle.console.proofs.Sheets.{line_added}
use Rattle.console.proofs.sheet.write_sheet.Goals as goal

pub loop-line-preserved : goal.loop-line-preserved
loop-line-preserved g c = λ show shown.
    let header = ended c.args.header.now in
    let before = lines_text show (take c.loop-line.line-index c.args.lines.now) in
    let line = ended (show c.line-item.result) in
    subst (λ (o : Option (List ℕ)). AppendsText (string_bytes c.loop-line.text) (string_bytes c.writeln.new.self) (with_newline o)) (shown c.line-item.result) c.in_ok-writeln.ensures.bytes
    ∙ ap (λ (z : List ℕ). z ++ line) (c.loop-line.invariant show shown)
    ∙ append_assoc header before line
    ∙ ap (λ (z : List ℕ). header ++ z) (line_added show c.args.lines.now c.loop-line.line-index c.line-item.result (omega arith) c.line-item.is)

pub returns : goal.returns
returns g c = λ show shown. c.loop-line.invariant show shown ∙ ap (sheet_text show c.args.header.now) (take_all c.loop-line.line-index c.args.lines.now (omega arith))
