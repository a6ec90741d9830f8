use Rattle.graph.proofs.Reach.{begins_inside, reaching_first, reaching_more, reaching_less}
use Rattle.graph.proofs.path.reaches.Goals as goal

pub loop-at-init : goal.loop-at-init
loop-at-init g c = (
  c.leading-seen.type_inv,
  c.leading-seen.type_inv,
  reaching_first _ c.args.goal c.leading-seen.result c.leading-seen.ensures.only c.leading-seen.ensures.all,
)

pub leading-requires : goal.leading-requires
leading-requires g c =
    let r = c.loop-at.invariant.2 in
    begins_inside _ (g.G.Graph.leads c.args.graph.now) (r.leads_on c.in-Some.at (r.among c.in-Some.at c.in-Some.ensures.1))

pub loop-at-smaller : goal.loop-at-smaller
loop-at-smaller g c =
    reaching_less _ c.args.goal _ _ c.in-Some.at c.leading.result c.minus-fresh.result c.union-seen.result c.without.result c.union-left.result c.loop-at.invariant.2 c.in-Some.ensures.1
    c.leading.ensures.only c.leading.ensures.all c.minus-fresh.ensures c.union-seen.ensures c.without.ensures c.union-left.ensures
    64 c.in-Some.ensures.0 c.loop-at.invariant.0 c.loop-at.invariant.1 c.minus-fresh.type_inv c.union-seen.type_inv c.without.type_inv c.union-left.type_inv

pub loop-at-preserved : goal.loop-at-preserved
loop-at-preserved g c = (
  c.union-seen.type_inv,
  c.union-left.type_inv,
  reaching_more _ c.args.goal _ _ c.in-Some.at c.leading.result c.minus-fresh.result c.union-seen.result c.without.result c.union-left.result c.loop-at.invariant.2 c.in-Some.ensures.1
      c.leading.ensures.only c.leading.ensures.all c.minus-fresh.ensures c.union-seen.ensures c.without.ensures c.union-left.ensures,
)
