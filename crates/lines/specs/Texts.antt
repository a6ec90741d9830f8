-- The columns of a line and the text of it. Rests on the numbers of refusals.
use Rattle.std.specs.Prelude.{ℕ, List, [], ◌∷◌, ◌++◌, Some, None, codes, decimal, Option}
use Rattle.history.specs.Refusals.{refusal_number, holder}
use Rattle.trace.specs.declared.fault.ReadRefusal.{ReadRefusal}
use Rattle.trace.specs.declared.fault.ReadRefusal.TheVariants.{Line as FaultyLine, Full}
use Rattle.trace.specs.Refusals.{cause_of, read_number}
use Rattle.lines.specs.declared.line.Outcome.{Outcome}
use Rattle.lines.specs.declared.line.Outcome.TheVariants.{Number, Done, Count, Retired, Refused, NotRead}
use Rattle.lines.specs.declared.line.Line.{Line}
use Rattle.lines.specs.declared.line.AnswerColumn.{AnswerColumn}
use Rattle.lines.specs.declared.line.AnswerColumn.TheVariants.{Code, RetiredMark}
use Rattle.lines.specs.declared.line.DetailColumn.{DetailColumn}

-- the number of the line that the reader refused
abbrev pub refused_line : ReadRefusal → ℕ
refused_line (FaultyLine fault) = fault.place.line
refused_line (Full line) = line

-- the line that tells why a trace was not read
abbrev pub refusal_line : ReadRefusal → Line
refusal_line why = record { number = refused_line why; outcome = NotRead why }

-- 0 where the call was granted, else the refusal's number; a retired job has its mark
abbrev pub answer_column : Outcome → AnswerColumn
answer_column (Number n) = Code 0
answer_column Done = Code 0
answer_column (Count n) = Code 0
answer_column (Retired j) = RetiredMark
answer_column (Refused r) = Code (refusal_number r)
answer_column (NotRead r) = Code (read_number r)

-- the reader tells what is wrong with a line, if one is at fault
abbrev pub cause : ReadRefusal → Option ℕ
cause (FaultyLine fault) = Some (cause_of fault.what)
cause (Full line) = None

-- the number given or read, how many retired, the retired job, the holder or the cause, else nothing
abbrev pub detail_number : Outcome → Option ℕ
detail_number (Number n) = Some n
detail_number Done = None
detail_number (Count n) = Some n
detail_number (Retired j) = Some j
detail_number (Refused r) = holder r
detail_number (NotRead r) = cause r

abbrev pub detail_column : Outcome → DetailColumn
detail_column o = record { number = detail_number o }

-- the text of a number, in decimal digits, or no text
abbrev pub number_text : Option ℕ → List ℕ
number_text None = []
number_text (Some n) = decimal n

abbrev pub answer_text : AnswerColumn → List ℕ
answer_text (Code n) = decimal n
answer_text RetiredMark = codes "T"

abbrev pub detail_text : DetailColumn → List ℕ
detail_text d = number_text d.number

abbrev pub comma : ℕ
comma = 44

-- the columns, parted by commas
abbrev pub columns_text : ℕ → AnswerColumn → DetailColumn → List ℕ
columns_text number answer detail = decimal number ++ (comma ∷ (answer_text answer ++ (comma ∷ detail_text detail)))

-- line, answer, detail
abbrev pub line_text : Line → List ℕ
line_text l = columns_text l.number (answer_column l.outcome) (detail_column l.outcome)
