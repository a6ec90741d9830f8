use Rattle.std.proofs.Common.{refl, ◌∙◌}
use Rattle.std.proofs.lemmas.Bool.{lt-ltb}
use Rattle.graph.proofs.Words.{bit_none}
use Rattle.graph.proofs.path.Found.start.Goals as goal

pub returns : goal.returns
returns c = record {
  order = cc;
  seen = λ k. c.with.ensures k ∙ simp (bit_none, lt-ltb c.args.start 64 c.requires);
  reach = refl;
}
