use Rattle.std.proofs.Common.{◌≡◌, ℕ, List, take, string_bytes}
use Rattle.console.specs.Sheets.{sheet_text, Shown}
use Rattle.console.proofs.sheet.write_sheet.Given as goal

-- the header and the lines so far
abbrev pub invariant-loop-line : goal.invariant-loop-line
invariant-loop-line g l =
    (show : g.row.T.Denot → List ℕ) → Shown g.T.Display.output show → string_bytes l.text ≡ sheet_text show l.header (take l.line-index l.lines)
