use Rattle.std.proofs.Common.{rules}
use Rattle.graph.specs.Outcomes.{Finds}
use Rattle.graph.proofs.Parts.{PartEdges, part_finds}
use Rattle.graph.proofs.Ranges.{found_below}
use Rattle.graph.proofs.cycle.find_cycle.Goals as goal

pub returns : goal.returns
returns g c =
    let size = g.G.Graph.size c.args.graph.now in
    let leads = g.G.Graph.leads c.args.graph.now in
    let runs = c.find_map.ensures.runs in
    part_finds size c.args.set leads c.find_map.result
    (found_below _ size _ (cc) (λ k r. Finds (PartEdges size c.args.set leads) k k r) (search rules) (λ x a q k. search rules) c.find_map.result runs)
