-- The text of a line. Rests on the numbers of refusals.
use Rattle.std.specs.Prelude.{ℕ, List, ◌++◌, codes, decimal}
use Rattle.trace.specs.Refusals.{read_number}
use Rattle.verdict.specs.Refusals.{refusal_number}
use Rattle.verdict.specs.declared.judge.Verdict.TheVariants.{Yes, No}
use Rattle.judge.specs.declared.line.Line.{Line}
use Rattle.judge.specs.declared.line.Line.TheVariants.{Decided, Job, NotRead, NotJudged}

abbrev pub line_text : Line → List ℕ
line_text (Decided (Yes count)) = codes "yes," ++ decimal count
line_text (Decided (No count)) = codes "no," ++ decimal count
line_text (Job number) = decimal number
line_text (NotRead why) = codes "refused," ++ decimal (read_number why)
line_text (NotJudged why) = codes "refused," ++ decimal (refusal_number why)
