-- From the nodes of a ledger to the jobs of the acts: cycles and orders.
use Rattle.std.proofs.Common.{◌≡◌, ℕ, ◌<◌, ◌≤◌, T, ltb, List, [], ◌∷◌, ◌++◌, length, get_or, take, drop, Some, None, sym, refl, ap, ◌∙◌, subst, inl, inr, ⊎_elim, arith, lt→ltb}
use Rattle.std.proofs.lemmas.List.{length-take-le}
use Rattle.graph.specs.Edges.{Within}
use Rattle.graph.specs.Lists.{listed}
use Rattle.graph.specs.Nodes.{has}
use Rattle.graph.specs.Orders.{Test, Free, but, Ordered, Orders}
use Rattle.graph.specs.Paths.{Relation, Path, edge, ◌then◌, Cycle, ◌∈◌, Distinct, Linked, Forward, ShowsCycle}
use Rattle.graph.specs.declared.list.NodeList.{NodeList}
use Rattle.graph.proofs.Lists.{distinct_few, in_at}
use Rattle.graph.proofs.Orders.{but_parts, but_both}
use Rattle.graph.proofs.Parts.{T-both, T-parts}
use Rattle.graph.proofs.Paths.{path_map}
use Rattle.trace.specs.declared.act.Act.{Act}
use Rattle.history.specs.Acts.{Kept, not_aborted}
use Rattle.history.specs.Conflicts.{Edge, SerialOrder}
use Rattle.history.specs.Arrangements.{ConflictSerializable}
use Rattle.history.proofs.Arrangements.{arrangement_has_no_cycle}
use Rattle.history.proofs.Blocks.{order_gives_arrangement}
use Rattle.history.proofs.Lists.{∈-dec, T_true, true_T}
use Rattle.verdict.specs.declared.ledger.Ledger.{Ledger}
use Rattle.verdict.specs.Turns.{opened}
use Rattle.verdict.specs.Ledgers.{number_at, count, Keeps}
use Rattle.verdict.specs.Verdicts.{Unled, SmallestFirst, Decides}
use Rattle.verdict.specs.Shown.{numbered, NodeEdges, Ready, NodeCycle, NodeOrder}
use Rattle.verdict.specs.declared.judge.Verdict.TheVariants.{Yes, No}
use Rattle.verdict.proofs.Ledgers.{apart, node_of}

-- a member of a list of numbers is the number of a node in the list of places
in_numbered : (l : Ledger) (j : ℕ) (ns : List ℕ) → j ∈ numbered l ns → (p : ℕ) × (p ∈ ns) × (number_at l p ≡ j)
in_numbered l j [] h = absurd h
in_numbered l j (n ∷ ns) (inl e) = (n, inl refl, sym e)
in_numbered l j (n ∷ ns) (inr h) = let q = in_numbered l j ns h in (q.0, inr q.1, q.2)

numbered_in : (l : Ledger) (p : ℕ) (ns : List ℕ) → p ∈ ns → number_at l p ∈ numbered l ns
numbered_in l p [] h = absurd h
numbered_in l p (n ∷ ns) (inl e) = inl (ap (number_at l) e)
numbered_in l p (n ∷ ns) (inr h) = inr (numbered_in l p ns h)

module _ (H : List Act) (l : Ledger) (k : Keeps H l) where
  -- the nodes of the jobs that count
  kept_node : (p : ℕ) → T (has l.kept p) → (p < count l) × Kept not_aborted H (number_at l p)
  kept_node p t = k.kept.only p (T_true (has l.kept p) t)

  node_kept : (p : ℕ) → p < count l → Kept not_aborted H (number_at l p) → T (has l.kept p)
  node_kept p b q = true_T (has l.kept p) (k.kept.all p b q)

  node_of_kept : (j : ℕ) → Kept not_aborted H j → (p : ℕ) × (p < count l) × (number_at l p ≡ j)
  node_of_kept j q = elim (∈-dec j (opened H)) [
    | inl i ↦ node_of H l k j i
    | inr n ↦ absurd (subst (λ f. T (not_aborted f)) (k.unopened j n) q)
  ]

  same_node : (p q : ℕ) → T (has l.kept p) → T (has l.kept q) → number_at l p ≡ number_at l q → p ≡ q
  same_node p q s t = apart H l k p q (kept_node p s).0 (kept_node q t).0

  -- an edge between two nodes of jobs that count is one between the jobs, and the other way round
  node_edge : (p q : ℕ) → T (has l.kept p) → T (has l.kept q) → NodeEdges l p q → Edge not_aborted H (number_at l p) (number_at l q)
  node_edge p q s t e =
      let a = kept_node p s in
      let b = kept_node q t in
      (a.1, b.1, ((k.edges q b.0).only p (T_true (has (get_or l.into q 0) p) (T-parts (ltb q 64) (has (get_or l.into q 0) p) e.2).1)).1)

  edge_node : (p q : ℕ) → p < count l → q < count l → Edge not_aborted H (number_at l p) (number_at l q) → NodeEdges l p q
  edge_node p q a b e =
      let c : p < 64 = omega (arith, k.few) in
      let d : q < 64 = omega (arith, k.few) in
      (c, d, T-both (ltb q 64) (has (get_or l.into q 0) p) (lt→ltb q 64 d) (true_T (has (get_or l.into q 0) p) ((k.edges q b).all p a e.2)))

  -- CYCLES

  within_edge : (p q : ℕ) → Within l.kept (NodeEdges l) p q → Edge not_aborted H (number_at l p) (number_at l q)
  within_edge p q e = node_edge p q e.0 e.1 e.2

  path_numbers : {p q : ℕ} → Path (Within l.kept (NodeEdges l)) p q → Path (Edge not_aborted H) (number_at l p) (number_at l q)
  path_numbers (edge e) = edge (within_edge _ _ e)
  path_numbers (e then r) = within_edge _ _ e then path_numbers r

  pub cycle_refutes : Cycle (Within l.kept (NodeEdges l)) → ConflictSerializable not_aborted H → ⊥
  cycle_refutes c s = arrangement_has_no_cycle not_aborted H s.0 s.1 s.2 (number_at l c.0, path_numbers c.1)

  linked_numbers : (p : ℕ) (ns : List ℕ) → Linked (Within l.kept (NodeEdges l)) (p ∷ ns) → Linked (Edge not_aborted H) (numbered l (p ∷ ns))
  linked_numbers p [] h = tt
  linked_numbers p (q ∷ ns) h = (within_edge p q h.0, linked_numbers q ns h.1)

  distinct_numbers : (ns : List ℕ) → ((p : ℕ) → p ∈ ns → T (has l.kept p)) → Distinct ns → Distinct (numbered l ns)
  distinct_numbers [] inside d = tt
  distinct_numbers (n ∷ ns) inside d = (
    (λ h. let q = in_numbered l (number_at l n) ns h in
        d.0 (subst (λ m. m ∈ ns) (same_node q.0 n (inside q.0 (inr q.1)) (inside n (inl refl)) q.2) q.1)),
    distinct_numbers ns (λ p i. inside p (inr i)) d.1,
  )

  linked_inside : (p m : ℕ) (ns : List ℕ) → Linked (Within l.kept (NodeEdges l)) (p ∷ ns ++ m ∷ []) → (q : ℕ) → q ∈ (p ∷ ns) → T (has l.kept q)
  linked_inside p m [] h q (inl e) = subst (λ x. T (has l.kept x)) (sym e) h.0.0
  linked_inside p m [] h q (inr b) = absurd b
  linked_inside p m (x ∷ ns) h q (inl e) = subst (λ y. T (has l.kept y)) (sym e) h.0.0
  linked_inside p m (x ∷ ns) h q (inr i) = linked_inside x m ns h.1 q i

  map_end : (ns : List ℕ) (m : ℕ) → numbered l (ns ++ m ∷ []) ≡ numbered l ns ++ number_at l m ∷ []
  map_end [] m = refl
  map_end (n ∷ ns) m = ap (λ js. number_at l n ∷ js) (map_end ns m)

  pub cycle_shown : (ns : List ℕ) → ShowsCycle (Within l.kept (NodeEdges l)) ns → ShowsCycle (Edge not_aborted H) (numbered l ns)
  cycle_shown [] h = absurd h
  cycle_shown (n ∷ ns) h = (
    subst (λ js. Linked (Edge not_aborted H) (number_at l n ∷ js)) (map_end ns n) (linked_numbers n (ns ++ n ∷ []) h.0),
    distinct_numbers (n ∷ ns) (linked_inside n n ns h.0) h.1,
  )

  -- the nodes of a cycle are those of jobs that were opened, and not more of them
  pub cycle_inside : (ns : List ℕ) → ShowsCycle (Within l.kept (NodeEdges l)) ns → (q : ℕ) → q ∈ ns → q < count l
  cycle_inside [] h q i = absurd h
  cycle_inside (n ∷ ns) h q i = (kept_node q (linked_inside n n ns h.0 q i)).0

  -- ORDERS

  -- the nodes that pass a test are those of the jobs of which P holds, and they count
  record Mirrors (left : Test) (P : ℕ → Type 0) : Type 0 where
    inside : (p : ℕ) → T (left p) → T (has l.kept p)
    to : (p : ℕ) → T (left p) → P (number_at l p)
    back : (j : ℕ) → P j → (p : ℕ) × T (left p) × (number_at l p ≡ j)

  mirrors_but : (left : Test) (P : ℕ → Type 0) (n : ℕ) → T (left n) → Mirrors left P → Mirrors (but left n) (λ i. P i × (i ≡ number_at l n → ⊥))
  mirrors_but left P n t m = record {
    inside = λ p s. m.inside p (but_parts left n p s).0;
    to = λ p s. let b = but_parts left n p s in
        (m.to p b.0, λ e. b.1 (same_node p n (m.inside p b.0) (m.inside n t) e));
    back = λ j q. let b = m.back j q.0 in
        (b.0, but_both left n b.0 b.1 (λ e. q.1 (sym b.2 ∙ ap (number_at l) e)), b.2);
  }

  -- between places that mirror jobs, no edge leads into a node exactly when none leads into its job
  free_unled : (left : Test) (P : ℕ → Type 0) → Mirrors left P → (n : ℕ) → T (left n) → Free (NodeEdges l) left n → Unled (Edge not_aborted H) P (number_at l n)
  free_unled left P m n t free i q e =
      let b = m.back i q in
      free b.0 b.1 (edge_node b.0 n (kept_node b.0 (m.inside b.0 b.1)).0 (kept_node n (m.inside n t)).0
      (subst (λ x. Edge not_aborted H x (number_at l n)) (sym b.2) e))

  unled_free : (left : Test) (P : ℕ → Type 0) → Mirrors left P → (n : ℕ) → T (left n) → Unled (Edge not_aborted H) P (number_at l n) → Free (NodeEdges l) left n
  unled_free left P m n t unled p s e = unled (number_at l p) (m.to p s) (node_edge p n (m.inside p s) (m.inside n t) e)

  smallest : (left : Test) (P : ℕ → Type 0) → Mirrors left P → (ns : List ℕ) → Ordered (NodeEdges l) 64 l.numbers.items left ns
      → ((p : ℕ) → T (left p) → p ∈ ns) → SmallestFirst (Edge not_aborted H) P (numbered l ns)
  smallest left P m [] o all = λ j q. let b = m.back j q in all b.0 b.1
  smallest left P m (n ∷ ns) o all =
      let f = o.0 in (
        m.to n f.among,
        free_unled left P m n f.among f.free,
        (λ i q u.
            let b = m.back i q in
            let few : b.0 < 64 = omega (arith, (kept_node b.0 (m.inside b.0 b.1)).0, k.few) in
            let free = unled_free left P m b.0 b.1 (subst (Unled (Edge not_aborted H) P) (sym b.2) u) in
            subst (λ x. number_at l n ≤ x) b.2 (⊎_elim (λ h. omega arith) (λ h. omega arith) (f.first b.0 few b.1 free))),
        smallest (but left n) (λ i. P i × (i ≡ number_at l n → ⊥)) (mirrors_but left P n f.among m) ns o.1
            (λ p t. let b = but_parts left n p t in ⊎_elim (λ e. absurd (b.1 e)) (λ i. i) (all p b.0)),
      )

  kept_mirrors : Mirrors (has l.kept) (Kept not_aborted H)
  kept_mirrors = record {
    inside = λ p t. t;
    to = λ p t. (kept_node p t).1;
    back = λ j q. let b = node_of_kept j q in (b.0, node_kept b.0 b.1 (subst (Kept not_aborted H) (sym b.2) q), b.2);
  }

  module _ (ns : List ℕ) (o : Orders (NodeEdges l) 64 l.numbers.items l.kept ns) (none : Cycle (Within l.kept (NodeEdges l)) → ⊥) where
    all_placed : (p : ℕ) → T (has l.kept p) → p ∈ ns
    all_placed p t = elim (∈-dec p ns) [
      | inl i ↦ i
      | inr n ↦ let c = o.short p (omega (arith, (kept_node p t).0, k.few)) t n in
          absurd (none (c.0, path_map (λ i j e. e.2) c.1))
    ]

    forward_numbers : (ms : List ℕ) → ((p : ℕ) → p ∈ ms → T (has l.kept p)) → Forward (NodeEdges l) ms → Forward (Edge not_aborted H) (numbered l ms)
    forward_numbers [] inside f = tt
    forward_numbers (n ∷ ms) inside f = (
      (λ y h e.
          let q = in_numbered l y ms h in
          f.0 q.0 q.1 (edge_node q.0 n (kept_node q.0 (inside q.0 (inr q.1))).0 (kept_node n (inside n (inl refl))).0
          (subst (λ x. Edge not_aborted H x (number_at l n)) (sym q.2) e))),
      forward_numbers ms (λ p i. inside p (inr i)) f.1,
    )

    pub order_serial : SerialOrder not_aborted H (numbered l ns)
    order_serial = record {
      distinct = distinct_numbers ns (λ p i. (o.only p i).1) o.distinct;
      all = λ j q. let b = kept_mirrors.back j q in
          subst (λ x. x ∈ numbered l ns) b.2 (numbered_in l b.0 ns (all_placed b.0 b.1));
      only = λ j i. let q = in_numbered l j ns i in
          subst (Kept not_aborted H) q.2 (kept_node q.0 (o.only q.0 q.1).1).1;
      forward = forward_numbers ns (λ p i. (o.only p i).1) o.forward;
    }

    pub order_smallest : SmallestFirst (Edge not_aborted H) (Kept not_aborted H) (numbered l ns)
    order_smallest = smallest (has l.kept) (Kept not_aborted H) kept_mirrors ns o.each all_placed

    pub order_serializable : ConflictSerializable not_aborted H
    order_serializable = order_gives_arrangement not_aborted H (numbered l ns) order_serial

    pub order_inside : (q : ℕ) → q ∈ ns → q < count l
    order_inside q i = (kept_node q (o.only q i).1).0

-- distinct nodes of jobs fit the list, if it has a place for each job
pub places_fit : (l : Ledger) (ns : List ℕ) (places : ℕ) → count l ≤ places → Distinct ns → ((q : ℕ) → q ∈ ns → q < count l) → length ns ≤ places
places_fit l ns places room d inside = omega (arith, distinct_few (count l) ns d inside)

shows_distinct : (E : Relation) (ns : List ℕ) → ShowsCycle E ns → Distinct ns
shows_distinct E [] h = absurd h
shows_distinct E (n ∷ ns) h = h.1

-- the nodes that are shown are those of jobs, and the list has places for them
module _ (l : Ledger) (n : NodeList) (places : ℕ) (r : Ready l places) where
  pub cycle_jobs : NodeCycle l (Some n) → (k : ℕ) → k < length (listed n) → get_or (listed n) k 0 < count l
  cycle_jobs c k b = cycle_inside r.0.0 l r.0.1 (listed n) c.1 (get_or (listed n) k 0) (in_at (listed n) k b)

  pub cycle_fits : NodeCycle l (Some n) → length (listed n) ≤ places
  cycle_fits c = places_fit l (listed n) places r.1 (shows_distinct _ (listed n) c.1) (cycle_inside r.0.0 l r.0.1 (listed n) c.1)

  pub order_jobs : NodeOrder l n → NodeCycle l None → (k : ℕ) → k < length (listed n) → get_or (listed n) k 0 < count l
  order_jobs o none k b = order_inside r.0.0 l r.0.1 (listed n) o.0 none (get_or (listed n) k 0) (in_at (listed n) k b)

  pub order_fits : NodeOrder l n → NodeCycle l None → length (listed n) ≤ places
  order_fits o none = places_fit l (listed n) places r.1 o.0.distinct (order_inside r.0.0 l r.0.1 (listed n) o.0 none)

-- the count of a list of nodes is how many it has
whole : (n : NodeList) → n.count ≤ 64 → length n.nodes ≡ 64 → length (listed n) ≡ n.count
whole n few places = length-take-le n.count n.nodes (omega arith)

-- the list after the numbers are put
module _ (H : List Act) (l : Ledger) (k : Keeps H l) (n : NodeList) (before after : List ℕ) (b : length (listed n) ≤ length after)
    (front : take (length (listed n)) after ≡ numbered l (listed n)) (rest : drop (length (listed n)) after ≡ drop (length (listed n)) before) where
  pub cycle_decides : NodeCycle l (Some n) → Decides not_aborted H before (No n.count) after
  cycle_decides c = subst (λ m. Decides not_aborted H before (No m) after) (whole n c.2 c.3) (
    cycle_refutes H l k c.0,
    record { count = length-take-le (length (listed n)) after b; cycle = subst (ShowsCycle (Edge not_aborted H)) (sym front) (cycle_shown H l k (listed n) c.1); rest = rest },
  )

  pub order_decides : NodeOrder l n → NodeCycle l None → Decides not_aborted H before (Yes n.count) after
  order_decides o none = subst (λ m. Decides not_aborted H before (Yes m) after) (whole n o.1 o.2) (
    order_serializable H l k (listed n) o.0 none,
    record {
      count = length-take-le (length (listed n)) after b;
      serial = subst (SerialOrder not_aborted H) (sym front) (order_serial H l k (listed n) o.0 none);
      smallest = subst (SmallestFirst (Edge not_aborted H) (Kept not_aborted H)) (sym front) (order_smallest H l k (listed n) o.0 none);
      rest = rest;
    },
  )
