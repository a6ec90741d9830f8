-- What the hub finds out before it answers a commit. Rests on the machine.
use Rattle.std.specs.Prelude.{◌≡◌, ℕ, ◌≤◌, length, None, Ok, Err, Result}
use Rattle.history.specs.declared.refusal.Refusal.{Refusal}
use Rattle.history.specs.Machine.{State, commit, done, refused, not_running, holdings, Steps}

-- a commit of job j in the state s may be made, or is refused so and changes nothing
abbrev pub MayCommit : State → ℕ → Result (Unit {0}) Refusal → Type 0
MayCommit s j (Ok _) = (not_running (s.status j) ≡ None) × (length (holdings s j) ≤ s.room)
MayCommit s j (Err r) = Steps s (commit j) (refused r) s

-- a commit of job j in the state s was made and led to the state t
abbrev pub Committed : State → ℕ → State → Type 0
Committed s j t = Steps s (commit j) done t
