use Rattle.std.proofs.Common.{ap, ◌∙◌}
use Rattle.std.proofs.lemmas.Bool.{false≢true}
use Rattle.graph.specs.Nodes.{has}
use Rattle.graph.proofs.Words.{bit_none, bit_lowest}
use Rattle.graph.proofs.nodes.any_node.Goals as goal

pub returns-else-is_empty : goal.returns-else-is_empty
returns-else-is_empty c =
    bit_lowest 64 c.args.set c.ranges.set.fits
    (λ e. false≢true (c.if-is_empty.ensures.1 (λ k. ap (λ s. has s k) e ∙ bit_none k)))
