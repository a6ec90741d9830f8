-- The numbers of the judge's refusals. Rests on nothing.
use Rattle.std.specs.Prelude.{ℕ}
use Rattle.verdict.specs.declared.refusal.JudgeRefusal.{JudgeRefusal}
use Rattle.verdict.specs.declared.refusal.JudgeRefusal.TheVariants.{OutOfTurn, TooManyJobs, ListTooShort}

-- the number by which a refusal is known
abbrev pub refusal_number : JudgeRefusal → ℕ
refusal_number (OutOfTurn index) = 10
refusal_number TooManyJobs = 11
refusal_number ListTooShort = 12
