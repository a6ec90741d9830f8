-- Requests judged. Rests on Requests and on the judge's verdicts.
use Rattle.std.specs.Prelude.{◌≡◌, ℕ, ◌<◌, ◌≤◌, List, length, take, Ok, Err, Result}
use Rattle.trace.specs.declared.act.Step.{Step}
use Rattle.history.specs.Acts.{not_aborted}
use Rattle.verdict.specs.declared.judge.Verdict.{Verdict}
use Rattle.verdict.specs.declared.judge.Verdict.TheVariants.{Yes, No}
use Rattle.verdict.specs.declared.refusal.JudgeRefusal.{JudgeRefusal}
use Rattle.verdict.specs.declared.refusal.JudgeRefusal.TheVariants.{OutOfTurn, TooManyJobs, ListTooShort}
use Rattle.verdict.specs.Refusals.{refusal_number}
use Rattle.verdict.specs.Turns.{acts}
use Rattle.verdict.specs.Verdicts.{Judges}
use Rattle.entry.specs.declared.request.Request.{Request}
use Rattle.entry.specs.declared.request.Reply.{Reply}
use Rattle.entry.specs.Requests.{known}

-- the index of the step that is out of turn, or 0
abbrev pub step_index : JudgeRefusal → ℕ
step_index (OutOfTurn i) = i
step_index TooManyJobs = 0
step_index ListTooShort = 0

-- what is replied: 0 for yes and 1 for no with the count of numbers put, or the number of the refusal and the index
abbrev pub reply : Result Verdict JudgeRefusal → Reply
reply (Ok (Yes n)) = record { code = 0; number = n }
reply (Ok (No n)) = record { code = 1; number = n }
reply (Err r) = record { code = refusal_number r; number = step_index r }

-- a request of no known kind, at this index; more requests than there is place for
abbrev pub unknown : ℕ → Reply
unknown index = record { code = 9; number = index }

abbrev pub too_many : Reply
too_many = record { code = 13; number = 1024 }

-- the list begins with steps that have the acts of the requests
pub record Decodes (requests : List Request) (count : ℕ) (after : List Step) : Type 0 where
  pub count_is : count ≡ length (known requests)
  pub acts_are : acts (take count after) ≡ known requests

-- the reply is that of the judge to the acts
pub record Judged (requests : List Request) (before : List ℕ) (r : Reply) (after : List ℕ) : Type 0 where
  pub told : Result Verdict JudgeRefusal
  pub judges : Judges not_aborted (known requests) before told after
  pub reply_is : r ≡ reply told

-- at most 1,024 requests of known kinds are judged; else the reply says why not, and the list of numbers stays
pub record JudgesAll (requests : List Request) (before : List ℕ) (r : Reply) (after : List ℕ) : Type 0 where
  pub more : 1024 < length requests → (r ≡ too_many) × (after ≡ before)
  pub other : length requests ≤ 1024 → length (known requests) < length requests → (r ≡ unknown (length (known requests))) × (after ≡ before)
  pub all : length requests ≤ 1024 → length (known requests) ≡ length requests → Judged requests before r after
