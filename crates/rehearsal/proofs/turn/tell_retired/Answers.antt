use Rattle.std.proofs.Common.{refl, rules}
use Rattle.std.proofs.lemmas.Result.{on_ok_weaker}
use Rattle.std.proofs.lemmas.Iterator.{YieldsList-from_slice, YieldsList-from_map}
use Rattle.std.proofs.lemmas.Iterator.Adapters.{items_from_extend}
use Rattle.lines.specs.declared.line.Outcome.TheVariants.{Retired}
use Rattle.rehearsal.proofs.turn.tell_retired.Goals as goal

pub returns : goal.returns
returns c =
    on_ok_weaker c.extend.result (λ told. told.0)
    (items_from_extend c.extend.result c.extend.ensures.ran
    (YieldsList-from_map _ (λ j. record { number = c.args.number; outcome = Retired j }) (YieldsList-from_slice c.args.jobs.now cc) refl (λ x r q k. search rules)))
