use Rattle.std.proofs.Common.{◌≡◌, min, length, sym, refl, ap, ◌∙◌, subst, arith}
use Rattle.scheduler.specs.Cores.{held_in, value_of, Ends}
use Rattle.scheduler.specs.Reading.{state}
use Rattle.hub.specs.Standing.{machine_of}
use Rattle.hub.proofs.Puttings.{put_none, put_past, put_one, put_below_all, put_below_turns, holdings_below}
use Rattle.hub.proofs.Steppings.{commit_ends}
use Rattle.hub.proofs.hub.Hub.finish.Goals.{in-Some, in_default}
use Rattle.hub.proofs.hub.Hub.finish.Goals as goal

pub loop-item-init : goal.loop-item-init
unfolding state
loop-item-init g c =
    let s = g.S.Store in
    let hub = c.args.self.now in
    let served : c.min-served.result ≡ min 64 (length (s.values hub.store)) = omega (arith, c.items.ensures, c.min-served.ensures) in (
      refl,
      put_none s (held_in hub.core) c.args.job c.min-served.result hub.store
          (omega arith) (omega (arith, holdings_below (machine_of s hub) c.args.job c.min-served.result served, c.requires.1)),
    )

pub loop-item-preserved : goal.loop-item-preserved
loop-item-preserved g c =
    let s = g.S.Store in
    let hub = c.args.self.now in
    let same = ap (λ core. value_of c.args.job (held_in core c.loop-item.item)) c.loop-item.invariant.0 in
    let told : c.held_by.result ≡ value_of c.args.job (held_in hub.core c.loop-item.item) = c.held_by.ensures ∙ same in
    elim c.match-held_by.branch [
      | in-Some w ↦ rw w.self-is (
        c.loop-item.invariant.0,
        put_one s (held_in hub.core) c.args.job c.min-served.result hub.store c.loop-item.item c.loop-item.self.store c.loop-item.invariant.1
            w.in-Some.value (sym w.in-Some.is ∙ told) (omega arith) w.put.new.self w.put.result w.put.ensures.means w.put.ensures.turns,
      )
      | in_default w ↦ rw w.self-is (
        c.loop-item.invariant.0,
        put_past s (held_in hub.core) c.args.job c.min-served.result hub.store c.loop-item.item c.loop-item.self.store c.loop-item.invariant.1
            (sym w.in_default.is ∙ told),
      )
    ]

pub returns : goal.returns
unfolding state
returns g c =
    let s = g.S.Store in
    let hub = c.args.self.now in
    let left = c.loop-item.self.store in
    let end : c.loop-item.item ≡ min 64 (length (s.values hub.store)) = omega (arith, c.items.ensures, c.min-served.ensures) in
    let ends = subst (λ core. Ends core c.args.job c.end.result c.end.new.self) c.loop-item.invariant.0 c.end.ensures in
    record {
      commits = commit_ends hub.core c.end.new.self c.args.job (s.values hub.store) _ (s.room hub.store) _
          c.requires (put_below_all s (machine_of s hub) c.args.job c.loop-item.item c.min-served.result hub.store left end refl refl c.loop-item.invariant.1)
          c.end.result ends;
      puts = put_below_turns s (machine_of s hub) c.args.job c.loop-item.item c.min-served.result hub.store left end refl refl c.loop-item.invariant.1;
    }
