-- What a line tells of a hub's answer. Rests on the answers.
use Rattle.std.specs.Prelude.{Ok, Err, Result}
use Rattle.history.specs.declared.answer.Answer.{Answer}
use Rattle.history.specs.declared.answer.Answer.TheVariants.{Number as GivenNumber, Done as GivenDone, Count as GivenCount}
use Rattle.history.specs.declared.refusal.Refusal.{Refusal}
use Rattle.lines.specs.declared.line.Outcome.{Outcome}
use Rattle.lines.specs.declared.line.Outcome.TheVariants.{Number, Done, Count, Refused}

-- the number given or read, that it was done, how many were retired, or why it was refused
abbrev pub outcome_of : Result Answer Refusal → Outcome
outcome_of (Ok (GivenNumber n)) = Number n
outcome_of (Ok GivenDone) = Done
outcome_of (Ok (GivenCount n)) = Count n
outcome_of (Err r) = Refused r
