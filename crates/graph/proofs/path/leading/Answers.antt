use Rattle.std.proofs.Common.{◌≡◌, ℕ, ltb, ap, ◌∙◌}
use Rattle.graph.specs.Nodes.{has}
use Rattle.graph.proofs.Reach.{set_edge, edge_set}
use Rattle.graph.proofs.path.leading.Goals as goal

pub returns : goal.returns
returns g c =
    let leads = g.G.Graph.leads c.args.graph.now in
    let nodes : (k : ℕ) → has c.below.result k ≡ ltb k (g.G.Graph.size c.args.graph.now) = λ k. c.below.ensures k ∙ ap (ltb k) c.size.ensures in
    record {
      only = set_edge _ leads c.args.node c.sources.result c.below.result _ c.requires c.sources.ensures nodes c.intersection.ensures;
      all = edge_set _ leads c.args.node c.sources.result c.below.result _ c.requires c.sources.ensures nodes c.intersection.ensures;
    }
