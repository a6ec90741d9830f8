use Rattle.std.proofs.Common.{arith}
use Rattle.history.specs.Machine.{refusal, granted_answer, granted_state, refused_state, answer, after_call, put_count}
use Rattle.scheduler.specs.Reading.{state}
use Rattle.hub.proofs.hub.Hub.peek.Goals as goal

pub returns-then-item-ge-MOST_SERVED : goal.returns-then-item-ge-MOST_SERVED
unfolding state refusal refused_state answer after_call put_count
returns-then-item-ge-MOST_SERVED g c = grind arith

pub returns : goal.returns
unfolding state refusal granted_answer granted_state refused_state answer after_call put_count
returns g c = grind arith
