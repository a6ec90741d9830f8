-- Requests made on a hub: the run that they make, and the replies. Rests on Requests and on the machine.
use Rattle.std.specs.Prelude.{◌≡◌, ℕ, List, [], ◌∷◌, ◌++◌, length, take, drop, Ok, Err, Result}
use Rattle.history.specs.declared.refusal.Refusal.{Refusal}
use Rattle.std.specs.Option.{unwrap_or}
use Rattle.history.specs.Refusals.{refusal_number, holder}
use Rattle.history.specs.declared.answer.Answer.{Answer as Told}
use Rattle.history.specs.declared.answer.Answer.TheVariants.{Number, Done, Count}
use Rattle.history.specs.Machine.{State, Answer}
use Rattle.history.specs.Runs.{Turn, Runs}
use Rattle.history.specs.Acting.{calls_of, told_of, run_from}
use Rattle.hub.specs.InMemory.{plenty, zeros, start}
use Rattle.entry.specs.declared.request.Request.{Request}
use Rattle.entry.specs.declared.request.Reply.{Reply}
use Rattle.entry.specs.Requests.{known}

-- the number that goes with a refusal: the holder's, or 0
abbrev pub holder_or_0 : Refusal → ℕ
holder_or_0 r = unwrap_or (holder r) 0

-- what is replied: 0 or the number of the refusal, and the number given or read, how many retired, or the holder
abbrev pub reply_of : Result Told Refusal → Reply
reply_of (Ok (Number n)) = record { code = 0; number = n }
reply_of (Ok Done) = record { code = 0; number = 0 }
reply_of (Ok (Count n)) = record { code = 0; number = n }
reply_of (Err r) = record { code = refusal_number r; number = holder_or_0 r }

-- the same of the machine's answer
abbrev pub reply : Answer → Reply
reply a = reply_of (told_of a)

-- the run that the requests make from the state s on: a retire is lent 32 places
abbrev pub run_of : State → List Request → List Turn
run_of s requests = run_from plenty s (calls_of 32 (known requests))

-- the replies of a run
abbrev pub replies_of : List Turn → List Reply
replies_of [] = []
replies_of (u ∷ us) = reply u.answer ∷ replies_of us

-- the requests have made their run from the state s to the state t, so many of them; the list begins with the replies
-- and goes on as it was
pub record Plays (s : State) (requests : List Request) (before : List Reply) (count : ℕ) (t : State) (after : List Reply) : Type 0 where
  pub runs : Runs s (run_of s requests) t
  pub count_is : count ≡ length (run_of s requests)
  pub replies : after ≡ replies_of (run_of s requests) ++ drop count before

-- the same of a hub over 64 items that hold 0, with no jobs, whose first one gets this number; only as many
-- requests count as there are places for replies
abbrev pub PlaysAll : ℕ → List Request → List Reply → ℕ → List Reply → Type 0
PlaysAll first requests before count after =
    (ending : State) × Plays (start first zeros) (take (length before) requests) before count ending after
