use Rattle.std.proofs.Common.{arith}
use Rattle.history.specs.Machine.{refusal, refused_state, answer, after_call, put_count}
use Rattle.scheduler.specs.Reading.{state}
use Rattle.hub.proofs.hub.Hub.may_commit.Goals as goal

pub returns-in_err-held : goal.returns-in_err-held
unfolding state refusal refused_state answer after_call put_count
returns-in_err-held g c =
    let s = g.S.Store in
    let told = c.in_err-held.ensures (s.values c.args.self.now.store) (s.room c.args.self.now.store) c.items.ensures in
    grind arith

pub returns-then-held-room : goal.returns-then-held-room
unfolding state
returns-then-held-room g c =
    let s = g.S.Store in
    let told = c.in_ok-held.ensures (s.values c.args.self.now.store) (s.room c.args.self.now.store) c.items.ensures in
    grind arith

pub returns-else-held-room : goal.returns-else-held-room
unfolding state refusal refused_state answer after_call put_count
returns-else-held-room g c =
    let s = g.S.Store in
    let told = c.in_ok-held.ensures (s.values c.args.self.now.store) (s.room c.args.self.now.store) c.items.ensures in
    grind arith
