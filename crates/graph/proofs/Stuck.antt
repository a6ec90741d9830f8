-- Where every node left has an edge from one left, there is a cycle among them.
use Rattle.std.proofs.Common.{ℕ, zero, suc, ◌<◌, Bool, ◌&&◌, T, ◌⊎◌, List, None, sym, subst, inl, inr, arith}
use Rattle.std.proofs.lemmas.Bool.{cases_eq, cases_Bool}
use Rattle.graph.specs.Edges.{Edges}
use Rattle.graph.specs.Nodes.{has}
use Rattle.graph.specs.Orders.{Test, Picks, Ordered, AmongRest, Orders}
use Rattle.graph.specs.Paths.{Relation, Path, edge, ◌then◌, Cycle, ◌∈◌}
use Rattle.graph.proofs.Orders.{Passing, minus, minus_parts, minus_both, ordered_end, ordered_only, ordered_distinct, ordered_forward, ordered_whole}
use Rattle.graph.proofs.Parts.{T-both, T-parts}
use Rattle.graph.proofs.Paths.{path_join, path_map}

-- a path for each edge makes a path
path_bind : {E F : Relation} → ((i j : ℕ) → E i j → Path F i j) → {i j : ℕ} → Path E i j → Path F i j
path_bind f (edge e) = f _ _ e
path_bind f (e then p) = path_join (f _ _ e) (path_bind f p)

-- some number below the bound passes the test, or none does
find_below : (k : ℕ) (f : Test) → ((m : ℕ) × (m < k) × T (f m)) ⊎ ((m : ℕ) → m < k → T (f m) → ⊥)
find_below zero f = inr (λ m l t. omega arith)
find_below (suc k) f = elim (find_below k f) [
  | inl p ↦ inl (p.0, omega (arith, p.1), p.2)
  | inr none ↦ elim (cases_Bool (f k)) [
    | inl t ↦ inl (k, omega arith, subst T (sym t) tt)
    | inr t ↦ inr (λ m l s. elim (cases_eq m k) [
      | inl e ↦ subst T t (subst (λ n. T (f n)) e s)
      | inr d ↦ none m (omega arith) s
    ])
  ]
]

-- each number below the bound that passes has an edge from one that passes
abbrev Led : ℕ → Test → Relation → Type 0
Led k q R = (n : ℕ) → n < k → T (q n) → (m : ℕ) × (m < k) × T (q m) × R m n

-- an edge, or two of them by way of a node
abbrev Bypass : ℕ → Relation → Relation
Bypass k R i j = R i j ⊎ (R i k × R k j)

-- the node k is struck out: its edges are joined
struck_out : (k : ℕ) (q : Test) (R : Relation) → Led (suc k) q R → (p : ℕ) → p < k → T (q p) → R p k → Led k q (Bypass k R)
struck_out k q R led p l t e n b s =
    let h = led n (omega arith) s in
    elim (cases_eq h.0 k) [
      | inl o ↦ (p, l, t, inr (e, subst (λ m. R m n) o h.3))
      | inr d ↦ (h.0, omega (arith, h.1), h.2, inl h.3)
    ]

passed_by : (k : ℕ) (q : Test) (R : Relation) → T (q k) → (i j : ℕ) → Passing q (Bypass k R) i j → Path (Passing q R) i j
passed_by k q R t i j e = elim e.2 [
  | inl r ↦ edge (e.0, e.1, r)
  | inr r ↦ (e.0, t, r.0) then edge (t, e.1, r.1)
]

pub led_cycle : (k : ℕ) (q : Test) (R : Relation) → Led k q R → (n : ℕ) → n < k → T (q n) → Cycle (Passing q R)
led_cycle zero q R led n l t = absurd (omega arith)
led_cycle (suc k) q R led n l t = elim (cases_Bool (q k)) [
  | inl y ↦
      let here = subst T (sym y) tt in
      let h = led k (omega arith) here in
      elim (cases_eq h.0 k) [
        | inl e ↦ (k, edge (here, here, subst (λ m. R m k) e h.3))
        | inr d ↦
            let below : h.0 < k = omega (arith, h.1) in
            let c = led_cycle k q (Bypass k R) (struck_out k q R led h.0 below h.2 h.3) h.0 below h.2 in
            (c.0, path_bind (passed_by k q R here) c.1)
      ]
  | inr o ↦
      let lower : (m : ℕ) → m < suc k → T (q m) → m < k = λ m b s. elim (cases_eq m k) [
        | inl e ↦ absurd (subst T o (subst (λ x. T (q x)) e s))
        | inr d ↦ omega arith
      ] in
      led_cycle k q R (λ m b s. let h = led m (omega arith) s in (h.0, lower h.0 h.1 h.2, h.2, h.3)) n (lower n l t) t
]

module _ (size : ℕ) (leads : ℕ → ℕ → Bool) (keys : List ℕ) where
  -- where no node left is free, each has an edge from one left
  none_free_led : (q : Test) → Picks (Edges size leads) size keys q q None → Led size q (Edges size leads)
  none_free_led q stuck n l t = elim (find_below size (λ m. q m && leads m n)) [
    | inl p ↦ let b = T-parts (q p.0) (leads p.0 n) p.2 in (p.0, p.1, b.0, (p.1, l, b.1))
    | inr none ↦ absurd (stuck n l t (λ m s e. none m e.0 (T-both (q m) (leads m n) s e.2)))
  ]

  -- an order that stops short leaves a cycle among the nodes that it has not
  ordered_short : (set : ℕ) (ns : List ℕ) → Ordered (Edges size leads) size keys (has set) ns
      → (n : ℕ) → n < size → T (has set n) → (n ∈ ns → ⊥) → Cycle (AmongRest (Edges size leads) set ns)
  ordered_short set ns o n l t d =
      let q = minus (has set) ns in
      let c = led_cycle size q (Edges size leads) (none_free_led q (ordered_end (Edges size leads) size keys (has set) ns o)) n l
      (minus_both (has set) ns n t d) in (
        c.0,
        path_map (λ i j e.
            let a = minus_parts (has set) ns i e.0 in
            let b = minus_parts (has set) ns j e.1 in
            (a.1, b.1, (a.0, b.0, e.2))) c.1,
      )

  -- what the definition of an order comes to
  pub ordered_orders : (set : ℕ) (ns : List ℕ) → Ordered (Edges size leads) size keys (has set) ns → Orders (Edges size leads) size keys set ns
  ordered_orders set ns o = record {
    each = o;
    distinct = ordered_distinct (Edges size leads) size keys (has set) ns o;
    only = ordered_only (Edges size leads) size keys (has set) ns o;
    forward = ordered_forward (Edges size leads) size keys (has set) ns o;
    whole = ordered_whole (Edges size leads) size keys (λ i j e. e.0) (has set) ns o;
    short = ordered_short set ns o;
  }
