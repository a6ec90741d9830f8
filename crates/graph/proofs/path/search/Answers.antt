use Rattle.std.proofs.Common.{◌<◌, T, sym, refl, ◌∙◌, subst, arith}
use Rattle.graph.specs.Graphs.{edges_of}
use Rattle.graph.proofs.Search.{Ended, at_found, counted, room, searched_none, searching_skip, searching_noted, ended_all, ended_found, ended_at, ended_none, way_shown, shows_finds}
use Rattle.graph.proofs.path.search.Goals as goal
use Rattle.graph.proofs.path.search.Goals.{After-branch-at, then-leads+else-to-goal, else-leads, else-search-test, then-search-test+then-loop-to-test+then-leads+then-to-goal}

pub search-init : goal.search-init
search-init g c =
    (searched_none _ _ c.args.start c.args.goal (g.G.Graph.few c.args.graph.now) c.start-found.result c.requires c.start-found.ensures, refl)

pub note-requires : goal.note-requires
note-requires g c =
    let few = g.G.Graph.few c.args.graph.now in
    let s = c.loop-to.invariant.0 in
    let i = at_found _ _ _ _ few _ _ _ _ s in
    let below : c.loop-to.to < g.G.Graph.size c.args.graph.now = omega arith in
    record {
      from = omega (arith, s.reached.inside _ i);
      to = omega arith;
      room = room _ _ _ _ few _ _ s.reached below;
      near = omega (arith, s.reached.shallow _ i, counted _ _ _ _ few _ s.reached);
    }

pub loop-to-preserved : goal.loop-to-preserved
loop-to-preserved g c =
    let few = g.G.Graph.few c.args.graph.now in
    let s = c.loop-to.invariant.0 in
    let inside = s.reached.inside _ (at_found _ _ _ _ few _ _ _ _ s) in
    let below : c.loop-to.to < g.G.Graph.size c.args.graph.now = omega arith in (
      elim c.if-leads.branch [
        | then-leads+else-to-goal w ↦
            rw w.found-is (searching_noted _ _ _ _ few _ _ _ _ s _ (inside, below, subst T w.if-leads.ensures tt) below w.if-to-goal.false
            w.note.ensures.found w.note.ensures.fresh)
        | else-leads w ↦
            rw w.found-is (searching_skip _ _ _ _ few _ _ _ _ s (λ e. subst T (sym w.if-leads.ensures) e.2))
      ],
      c.loop-to.invariant.1,
    )

-- how the search ends, whether by its last node or by an edge to the goal
ended : (g : _) (c : After-branch-at g) → Ended (edges_of g.G.Graph c.args.graph.now) (g.G.Graph.size c.args.graph.now) c.args.start c.args.goal c.search-test.found c.search-test.last
ended g c =
    let few = g.G.Graph.few c.args.graph.now in
    elim c.search-test.branch [
      | else-search-test w ↦ rw w.found-is (ended_all _ _ _ _ few _ _ _ c.search.invariant.0 (omega arith) (w.last-is ∙ c.search.invariant.1))
      | then-search-test+then-loop-to-test+then-leads+then-to-goal w ↦
          let s = w.loop-to.invariant.0 in
          let inside = s.reached.inside _ (at_found _ _ _ _ few _ _ _ _ s) in
          let below : w.loop-to.to < g.G.Graph.size c.args.graph.now = omega arith in
          rw w.found-is (ended_found _ _ _ _ few _ _ _ _ _ s (inside, below, subst T w.if-leads.ensures tt) w.if-to-goal.true w.last-is)
    ]

pub way_to-requires : goal.way_to-requires
way_to-requires g c =
    let few = g.G.Graph.few c.args.graph.now in
    let r = ended_at _ _ _ _ _ _ _ (ended g (goal.at.way_to-requires g c).After-branch-at) c.in_ok-at.was in
    record {
      inside = omega (arith, r.0.inside _ r.1);
      near = omega (arith, r.0.shallow _ r.1, counted _ _ _ _ few _ r.0);
      low = r.0.low;
    }

pub returns : goal.returns
returns g c =
    let r = ended_at _ _ _ _ _ _ _ (ended g (goal.at.returns g c).After-branch-at) c.in_ok-at.was in
    let shown = way_shown _ _ _ _ (g.G.Graph.few c.args.graph.now) _ r.0 _ r.1 r.2 in
    (shows_finds _ _ _ _ shown, rw (c.of.ensures.nodes, c.way_to.ensures) shown, c.of.ensures.count, c.of.ensures.places)

pub returns-in_err-at : goal.returns-in_err-at
returns-in_err-at g c =
    rw c.from_residual.ensures (ended_none _ _ _ _ _ _ (ended g (goal.at.returns-in_err-at g c).After-branch-at) c.in_err-at.was)
