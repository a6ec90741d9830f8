-- What the program prints. Rests on rehearsals and on the text of a sheet.
use Rattle.std.specs.Prelude.{◌≡◌, ℕ, List, codes}
use Rattle.console.specs.Sheets.{sheet_text}
use Rattle.lines.specs.declared.line.Line.{Line}
use Rattle.lines.specs.Texts.{line_text}
use Rattle.rehearsal.specs.Playing.{RehearsedInput}

-- the header, and below it the lines of the input's rehearsal
abbrev pub Prints : List ℕ → List ℕ → Type 0
Prints bytes text = (lines : List Line) × RehearsedInput bytes lines × (text ≡ sheet_text line_text (codes "line,answer,detail") lines)
