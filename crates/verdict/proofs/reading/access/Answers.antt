use Rattle.std.proofs.Common.{Err, length, ap, ◌∙◌, subst}
use Rattle.std.proofs.lemmas.Result.{err_from_is_err_and}
use Rattle.history.specs.Conflicts.{accesses}
use Rattle.verdict.specs.Turns.{acts}
use Rattle.verdict.specs.Users.{act_of}
use Rattle.verdict.proofs.Ledgers.{TellsOpen, tells, out_of_turn, runs_there}
use Rattle.verdict.proofs.Drawing.{act_turn, turn_act, clash, keeps_used}
use Rattle.verdict.proofs.reading.access.Goals as goal
use Rattle.verdict.proofs.reading.access.Goals.{After-ok_or}

told : (c : After-ok_or) → TellsOpen c.args.ledger.now c.args.job (length c.args.before.now) c.ok_or.result
told c = tells c.args.ledger.now c.args.job (length c.args.before.now) c.find_open.result c.ok_or.result c.find_open.ensures c.ok_or.ensures.value

pub returns-in_err-node : goal.returns-in_err-node
returns-in_err-node c value =
    let H = acts c.args.before.now in
    let p = err_from_is_err_and c.from_residual.result c.from_residual.ensures.1 in
    let f = subst (TellsOpen c.args.ledger.now c.args.job (length c.args.before.now)) c.in_err-node.was (told (goal.at.returns-in_err-node c).After-ok_or) in
    out_of_turn H c.args.ledger.now c.requires c.args.job (act_of c.args.access c.args.job c.args.item value) (length c.args.before.now) _ (p.1 ∙ ap Err (p.2 ∙ f.0))
    (act_turn c.args.access H c.args.job c.args.item value) f.1

pub returns : goal.returns
returns c value =
    let H = acts c.args.before.now in
    let l = c.args.ledger.now in
    let f = subst (TellsOpen l c.args.job (length c.args.before.now)) c.in_ok-node.was (told (goal.at.returns c).After-ok_or) in
    let turn = turn_act c.args.access H c.args.job c.args.item value (runs_there H l c.requires c.args.job c.in_ok-node.node f) in (
      turn.0,
      turn.1,
      keeps_used H l c.note.new.self c.requires c.args.access c.in_ok-node.node c.args.job c.args.item value c.conflicting.result f.0 f.1
          (clash c.args.access l.numbers.items c.args.item (accesses H) c.users-users.result c.conflicting.result c.users-users.ensures c.conflicting.ensures)
          c.draw.new.self c.draw.ensures c.note.ensures,
    )
