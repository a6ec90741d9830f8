-- The part of a graph between the nodes of a set: its edges are those within the set.
use Rattle.std.proofs.Common.{ℕ, ◌<◌, ◌≤◌, Bool, true, false, ◌&&◌, T, List, [], ◌∷◌, ◌++◌, Option, Some, None, MatchOption, sym, subst, arith}
use Rattle.graph.specs.Edges.{Edges, Within}
use Rattle.graph.specs.Lists.{listed}
use Rattle.graph.specs.Nodes.{has}
use Rattle.graph.specs.Outcomes.{Finds, FindsCycle}
use Rattle.graph.specs.declared.list.NodeList.{NodeList}
use Rattle.graph.specs.Paths.{Relation, Path, edge, ◌then◌, Cycle, Linked, ShowsPath, ShowsCycle}
use Rattle.graph.proofs.Paths.{path_map, linked_map}

pub T-both : (a b : Bool) → T a → T b → T (a && b)
T-both true b s t = t
T-both false b s t = s

pub T-parts : (a b : Bool) → T (a && b) → T a × T b
T-parts true b t = (tt, t)
T-parts false b t = absurd t

module _ (size set : ℕ) (leads : ℕ → ℕ → Bool) where
  -- the edges of the part, as it answers them
  abbrev pub PartEdges : Relation
  PartEdges = Edges size (λ i j. has set j && (has set i && leads i j))

  part_within : (i j : ℕ) → PartEdges i j → Within set (Edges size leads) i j
  part_within i j e =
      let p = T-parts (has set j) (has set i && leads i j) e.2 in
      let q = T-parts (has set i) (leads i j) p.1 in
      (q.0, p.0, (e.0, e.1, q.1))

  within_part : (i j : ℕ) → Within set (Edges size leads) i j → PartEdges i j
  within_part i j e =
      (e.2.0, e.2.1, T-both (has set j) (has set i && leads i j) e.1 (T-both (has set i) (leads i j) e.0 e.2.2))

  -- a path of the part from a node to itself shows a cycle within the set
  pub part_cycle : (n : ℕ) (ns : List ℕ) → Path PartEdges n n → ShowsPath PartEdges n n ns
      → Cycle (Within set (Edges size leads)) × ShowsCycle (Within set (Edges size leads)) ns
  part_cycle n [] p s = absurd s
  part_cycle n (m ∷ ns) p s = (
    (n, path_map part_within p),
    (linked_map part_within (m ∷ ns ++ m ∷ []) (subst (λ k. Linked PartEdges (m ∷ ns ++ k ∷ [])) (sym s.0) s.1), s.2),
  )

  starts_inside : {i j : ℕ} → Path (Within set (Edges size leads)) i j → i < size
  starts_inside (edge e) = e.2.0
  starts_inside (e then p) = e.2.0

  -- where no node of the graph has a path of the part to itself, there is no cycle within the set
  pub part_no_cycle : (n : ℕ) → size ≤ n → ((k : ℕ) → k < n → Path PartEdges k k → ⊥) → Cycle (Within set (Edges size leads)) → ⊥
  part_no_cycle n l none c = none c.0 (omega (arith, starts_inside c.1)) (path_map within_part c.1)

  -- the search for a path of the part from each node to itself finds a cycle within the set, if there is one
  pub part_finds : (r : Option NodeList) → MatchOption r ((k : ℕ) → k < size → Finds PartEdges k k None) (λ l. (k : ℕ) × Finds PartEdges k k (Some l))
      → FindsCycle (Within set (Edges size leads)) r
  part_finds None h = part_no_cycle size (omega arith) h
  part_finds (Some l) h = let c = part_cycle h.0 (listed l) h.1.0 h.1.1 in (c.0, c.1, h.1.2, h.1.3)
