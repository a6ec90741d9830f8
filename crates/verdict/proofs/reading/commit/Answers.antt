use Rattle.std.proofs.Common.{Err, ap, ◌∙◌, subst}
use Rattle.std.proofs.lemmas.Result.{err_from_is_err_and}
use Rattle.trace.specs.declared.act.Act.TheVariants.{Commit}
use Rattle.verdict.proofs.Ledgers.{TellsOpen, tells, out_of_turn, runs_there, keeps_commit}
use Rattle.verdict.proofs.reading.commit.Goals as goal
use Rattle.verdict.proofs.reading.commit.Goals.{After-ok_or}

told : (c : After-ok_or) → TellsOpen c.args.ledger.now c.args.job c.args.index c.ok_or.result
told c = tells c.args.ledger.now c.args.job c.args.index c.find_open.result c.ok_or.result c.find_open.ensures c.ok_or.ensures.value

pub returns-in_err-node : goal.returns-in_err-node
returns-in_err-node c H k =
    let p = err_from_is_err_and c.from_residual.result c.from_residual.ensures.1 in
    let f = subst (TellsOpen c.args.ledger.now c.args.job c.args.index) c.in_err-node.was (told (goal.at.returns-in_err-node c).After-ok_or) in
    out_of_turn H c.args.ledger.now k c.args.job (Commit c.args.job) c.args.index _ (p.1 ∙ ap Err (p.2 ∙ f.0)) (λ t. t) f.1

pub returns : goal.returns
returns c H k =
    let l = c.args.ledger.now in
    let f = subst (TellsOpen l c.args.job c.args.index) c.in_ok-node.was (told (goal.at.returns c).After-ok_or) in
    let r = runs_there H l k c.args.job c.in_ok-node.node f in
    (r, tt, keeps_commit H l c.end.new.self c.in_ok-node.node c.args.job k f.0 f.1 r c.end.ensures)
