-- What the program prints. Rests on the judge's verdict and on the text of a sheet.
use Rattle.std.specs.Prelude.{◌≡◌, ℕ, List, [], ◌∷◌, map, take, replicate, Some, None, Ok, Err, codes, Option, Result}
use Rattle.trace.specs.declared.act.Step.{Step}
use Rattle.trace.specs.declared.fault.ReadRefusal.{ReadRefusal}
use Rattle.console.specs.Inputs.{read, steps_of}
use Rattle.console.specs.Sheets.{sheet_text}
use Rattle.history.specs.Acts.{not_aborted}
use Rattle.verdict.specs.declared.judge.Verdict.{Verdict}
use Rattle.verdict.specs.declared.judge.Verdict.TheVariants.{Yes, No}
use Rattle.verdict.specs.declared.refusal.JudgeRefusal.{JudgeRefusal}
use Rattle.verdict.specs.Turns.{acts}
use Rattle.verdict.specs.Verdicts.{Judges}
use Rattle.judge.specs.declared.line.Line.{Line}
use Rattle.judge.specs.declared.line.Line.TheVariants.{Decided, Job, NotRead, NotJudged}
use Rattle.judge.specs.Texts.{line_text}

-- how many numbers a verdict comes with
abbrev pub verdict_count : Verdict → ℕ
verdict_count (Yes n) = n
verdict_count (No n) = n

-- a line for each job
abbrev pub job_lines : List ℕ → List Line
job_lines numbers = map Job numbers

-- the verdict, and below it the jobs of its order or its cycle
abbrev pub decided_lines : Verdict → List ℕ → List Line
decided_lines v numbers = Decided v ∷ job_lines (take (verdict_count v) numbers)

-- what is told of the judge's answer
abbrev pub answer_lines : Result Verdict JudgeRefusal → List ℕ → List Line
answer_lines (Ok v) numbers = decided_lines v numbers
answer_lines (Err why) numbers = NotJudged why ∷ []

-- these lines tell what the judge, lent 64 places, answers of the steps
pub record Judged (steps : List Step) (lines : List Line) : Type 0 where
  pub told : Result Verdict JudgeRefusal
  pub numbers : List ℕ
  pub judges : Judges not_aborted (acts steps) (replicate 64 0) told numbers
  pub lines_are : lines ≡ answer_lines told numbers

-- steps that were read to the end are judged; else one line tells the reader's refusal
abbrev pub JudgedUnless : Option ReadRefusal → List Step → List Line → Type 0
JudgedUnless None steps lines = Judged steps lines
JudgedUnless (Some why) steps lines = lines ≡ NotRead why ∷ []

-- these lines tell the judgement of the trace in an input
abbrev pub JudgedInput : List ℕ → List Line → Type 0
JudgedInput bytes lines = JudgedUnless (read bytes).stop (steps_of (read bytes)) lines

-- the header, and below it the lines of the input's judgement
abbrev pub Prints : List ℕ → List ℕ → Type 0
Prints bytes text = (lines : List Line) × JudgedInput bytes lines × (text ≡ sheet_text line_text (codes "verdict,count") lines)
