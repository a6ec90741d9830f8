-- How a commit ends. Assumes nothing.
use Rattle.std.proofs.Common.{◌≡◌, ℕ, ◌+◌, ◌≤◌, List, length, None, Ok, Err, Result, ap, ◌∙◌, arith}
use Rattle.history.specs.declared.refusal.Refusal.{Refusal}
use Rattle.history.specs.Machine.{State, commit, done, refusal, granted_answer, granted_state, answer, after_call, put_count, not_running, holdings, has_ended, Steps}
use Rattle.scheduler.specs.Cores.{machine, Ends}
use Rattle.scheduler.specs.declared.hub_core.Core.{Core}
use Rattle.scheduler.specs.Reading.{state}
use Rattle.hub.specs.Asking.{MayCommit}
use Rattle.hub.proofs.Puttings.{PutAll}

commit_granted : (s : State) (j : ℕ) (t : State) → not_running (s.status j) ≡ None → length (holdings s j) ≤ s.room → t ≡ has_ended j t.room s
    → s.room ≤ t.room + length (holdings s j) → (length (holdings s j) ≡ 0 → t.room ≡ s.room) → Steps s (commit j) done t
unfolding refusal granted_answer granted_state answer after_call put_count
commit_granted s j t running enough e takes keeps = grind arith

-- what the job held is in the store
pub commit_ends : {A : Type 0} (core core' : Core) (j : ℕ) (values values' : List ℕ) (room room' : ℕ) → MayCommit (machine core values room) j (Ok tt) → PutAll (machine core values room) j values' room' → (r : Result A Refusal) → Ends core j r core' → Steps (machine core values room) (commit j) done (machine core' values' room')
unfolding state
commit_ends core core' j values values' room room' may puts (Ok u) ends =
    commit_granted (machine core values room) j (machine core' values' room') may.0 may.1
    (ap (λ vs. machine core' vs room') puts.0 ∙ (ends values room room').1) puts.1 puts.2
commit_ends core core' j values values' room room' may puts (Err r) ends = let told = ends.1 values room in grind arith
