-- Orders: the search for the first free node, and what holds of an order that is made of such nodes.
use Rattle.std.proofs.Common.{◌≡◌, ℕ, ◌+◌, ◌<◌, ◌≤◌, true, false, not, T, eqb, ◌⊎◌, List, [], ◌∷◌, ◌++◌, length, Some, None, Option, sym, refl, ap, subst, inl, inr, ⊎_elim, arith, T_not}
use mathlib.Core.Path.{fun_ext}
use Rattle.std.proofs.lemmas.List.{length_push}
use Rattle.graph.proofs.Lists.{distinct_few}
use Rattle.std.proofs.lemmas.Bool.{cases_eq, eq-eqb, ne_eqb, ltb-true, ltb-false, true≢false}
use Rattle.graph.proofs.Parts.{T-both, T-parts}
use Rattle.graph.specs.Orders.{Test, Free, key_of, Before, First, Picks, but, Ordered, goes_first}
use Rattle.graph.specs.Paths.{Relation, Path, edge, ◌then◌, Cycle, ◌∈◌, Distinct, Forward}

module _ (E : Relation) (keys : List ℕ) (left eligible : Test) where
  pub picks_none : Picks E 0 keys left eligible None
  picks_none n l = absurd (omega arith)

  below_or_last : (m k : ℕ) → m < k + 1 → (m ≡ k) ⊎ (m < k)
  below_or_last m k l = elim (cases_eq m k) [ inl e ↦ inl e | inr d ↦ inr (omega arith) ]

  -- one more node, that is not eligible or not free
  pub picks_skip : (k : ℕ) (best : Option ℕ) → Picks E k keys left eligible best → (T (eligible k) → Free E left k → ⊥)
      → Picks E (k + 1) keys left eligible best
  picks_skip k None p h = λ n l a f. ⊎_elim (λ e. h (rw e at a) (subst (Free E left) e f)) (λ b. p n b a f) (below_or_last n k l)
  picks_skip k (Some b) p h = record {
    inside = omega (arith, p.inside);
    among = p.among;
    free = p.free;
    first = λ m l a f. ⊎_elim (λ e. absurd (h (rw e at a) (subst (Free E left) e f))) (λ c. p.first m c a f) (below_or_last m k l);
  }

  -- one more node, that does not go before the best one
  pub picks_keep : (k : ℕ) (best : Option ℕ) → Picks E k keys left eligible best → goes_first keys k best ≡ false
      → Picks E (k + 1) keys left eligible best
  picks_keep k None p t = absurd (true≢false t)
  picks_keep k (Some b) p t =
      let above : key_of keys b ≤ key_of keys k = ltb-false (key_of keys k) (key_of keys b) t in
      let last : Before keys b k = elim (cases_eq (key_of keys b) (key_of keys k)) [
        | inl e ↦ inr (e, omega (arith, p.inside))
        | inr d ↦ inl (omega arith)
      ] in
      record {
        inside = omega (arith, p.inside);
        among = p.among;
        free = p.free;
        first = λ m l a f. ⊎_elim (λ e. subst (Before keys b) (sym e) last) (λ c. p.first m c a f) (below_or_last m k l);
      }

  -- one more node, that goes before the best one
  pub picks_take : (k : ℕ) (best : Option ℕ) → Picks E k keys left eligible best → T (eligible k) → Free E left k
      → goes_first keys k best ≡ true → Picks E (k + 1) keys left eligible (Some k)
  picks_take k best p a f t = record {
    inside = omega arith;
    among = a;
    free = f;
    first = λ m l b g. ⊎_elim (λ e. inr (ap (key_of keys) (sym e), omega arith)) (λ c. inl (smaller best p t m c b g)) (below_or_last m k l);
  }
    where
      smaller : (best : Option ℕ) → Picks E k keys left eligible best → goes_first keys k best ≡ true
          → (m : ℕ) → m < k → T (eligible m) → Free E left m → key_of keys k < key_of keys m
      smaller None p t m l b g = absurd (p m l b g)
      smaller (Some o) p t m l b g =
          let h = ltb-true (key_of keys k) (key_of keys o) t in
          ⊎_elim (λ q. omega arith) (λ q. omega arith) (p.first m l b g)

-- a node that is left when n is taken was left before, and is not n
pub but_parts : (left : Test) (n m : ℕ) → T (but left n m) → T (left m) × (m ≡ n → ⊥)
but_parts left n m t =
    let p = T-parts (left m) (not (eqb m n)) t in
    (p.0, λ e. T_not (eqb m n) p.1 (subst T (sym (eq-eqb m n e)) tt))

pub but_both : (left : Test) (n m : ℕ) → T (left m) → (m ≡ n → ⊥) → T (but left n m)
but_both left n m t d = T-both (left m) (not (eqb m n)) t (subst (λ b. T (not b)) (sym (ne_eqb m n d)) tt)

-- what is left when the nodes of a list are taken
pub minus : Test → List ℕ → Test
minus left [] = left
minus left (n ∷ ns) = minus (but left n) ns

pub minus_parts : (left : Test) (ns : List ℕ) (m : ℕ) → T (minus left ns m) → T (left m) × (m ∈ ns → ⊥)
unfolding minus
minus_parts left [] m t = (t, λ i. i)
minus_parts left (n ∷ ns) m t =
    let p = minus_parts (but left n) ns m t in
    let q = but_parts left n m p.0 in
    (q.0, ⊎_elim q.1 p.1)

pub minus_both : (left : Test) (ns : List ℕ) (m : ℕ) → T (left m) → (m ∈ ns → ⊥) → T (minus left ns m)
unfolding minus
minus_both left [] m t d = t
minus_both left (n ∷ ns) m t d = minus_both (but left n) ns m (but_both left n m t (λ e. d (inl e))) (λ i. d (inr i))

-- the edges between nodes that pass a test
abbrev pub Passing : Test → Relation → Relation
Passing left R i j = T (left i) × T (left j) × R i j

module _ (E : Relation) (size : ℕ) (keys : List ℕ) where
  -- nodes placed one after another, each the first free one of those left, and what is left after them
  abbrev pub Placed : Test → List ℕ → Test → Type 0
  Placed left [] rest = left ≡ rest
  Placed left (n ∷ ns) rest = First E size keys left left n × Placed (but left n) ns rest

  pub placed_more : (left : Test) (ns : List ℕ) (rest : Test) (n : ℕ) → Placed left ns rest → First E size keys rest rest n
      → Placed left (ns ++ n ∷ []) (but rest n)
  placed_more left [] rest n p f = (subst (λ t. First E size keys t t n) (sym p) f, ap (λ t. but t n) p)
  placed_more left (x ∷ ns) rest n p f = (p.0, placed_more (but left x) ns rest n p.1 f)

  pub placed_all : (left : Test) (ns : List ℕ) (rest : Test) → Placed left ns rest → Picks E size keys rest rest None
      → Ordered E size keys left ns
  placed_all left [] rest p stuck = subst (λ t. Picks E size keys t t None) (sym p) stuck
  placed_all left (x ∷ ns) rest p stuck = (p.0, placed_all (but left x) ns rest p.1 stuck)

  placed_only : (left : Test) (ns : List ℕ) (rest : Test) → Placed left ns rest → (n : ℕ) → n ∈ ns → (n < size) × T (left n)
  placed_only left [] rest p n i = absurd i
  placed_only left (x ∷ ns) rest p n (inl e) = rw e (p.0.inside, p.0.among)
  placed_only left (x ∷ ns) rest p n (inr i) =
      let q = placed_only (but left x) ns rest p.1 n i in (q.0, (but_parts left x n q.1).0)

  placed_distinct : (left : Test) (ns : List ℕ) (rest : Test) → Placed left ns rest → Distinct ns
  placed_distinct left [] rest p = tt
  placed_distinct left (x ∷ ns) rest p =
      ((λ i. (but_parts left x x (placed_only (but left x) ns rest p.1 x i).1).1 refl), placed_distinct (but left x) ns rest p.1)

  -- where one more node can be placed, fewer are placed than the graph has
  pub placed_room : (left : Test) (ns : List ℕ) (rest : Test) (n : ℕ) → Placed left ns rest → First E size keys rest rest n
      → length ns < size
  placed_room left ns rest n p f =
      let q = placed_more left ns rest n p f in
      omega (
        arith,
        length_push ns n,
        distinct_few size (ns ++ n ∷ []) (placed_distinct left (ns ++ n ∷ []) (but rest n) q) (λ m i. (placed_only left (ns ++ n ∷ []) (but rest n) q m i).0),
      )

  -- the step of a loop that places one more node
  pub placed_next : (left : Test) (ns : List ℕ) (rest rest' : Test) (n : ℕ) → Placed left ns rest
      → First E size keys rest rest n → ((k : ℕ) → rest' k ≡ but rest n k) → Placed left (ns ++ n ∷ []) rest'
  placed_next left ns rest rest' n p f same =
      subst (Placed left (ns ++ n ∷ [])) (sym (fun_ext same)) (placed_more left ns rest n p f)

  pub ordered_only : (left : Test) (ns : List ℕ) → Ordered E size keys left ns → (n : ℕ) → n ∈ ns → (n < size) × T (left n)
  ordered_only left [] o n i = absurd i
  ordered_only left (x ∷ ns) o n (inl e) = rw e (o.0.inside, o.0.among)
  ordered_only left (x ∷ ns) o n (inr i) =
      let p = ordered_only (but left x) ns o.1 n i in (p.0, (but_parts left x n p.1).0)

  pub ordered_distinct : (left : Test) (ns : List ℕ) → Ordered E size keys left ns → Distinct ns
  ordered_distinct left [] o = tt
  ordered_distinct left (x ∷ ns) o =
      ((λ i. (but_parts left x x (ordered_only (but left x) ns o.1 x i).1).1 refl), ordered_distinct (but left x) ns o.1)

  pub ordered_forward : (left : Test) (ns : List ℕ) → Ordered E size keys left ns → Forward E ns
  ordered_forward left [] o = tt
  ordered_forward left (x ∷ ns) o =
      ((λ y i. o.0.free y (but_parts left x y (ordered_only (but left x) ns o.1 y i).1).0), ordered_forward (but left x) ns o.1)

  -- a path among the nodes left does not come to one that is free, so it stays among the others
  avoids : (left : Test) (x : ℕ) → Free E left x → {i j : ℕ} → (i ≡ x → ⊥) → Path (Passing left E) i j → Path (Passing (but left x) E) i j
  avoids left x f d (edge e) =
      edge (but_both left x _ e.0 d, but_both left x _ e.1 (λ p. f _ e.0 (subst (E _) p e.2)), e.2)
  avoids left x f d (e then p) =
      let o = λ (q : _ ≡ x). f _ e.0 (subst (E _) q e.2) in
      (but_both left x _ e.0 d, but_both left x _ e.1 o, e.2) then avoids left x f o p

  -- the last edge of a path
  last_edge : {R : Relation} {i j : ℕ} → Path R i j → (m : ℕ) × R m j
  last_edge (edge e) = (_, e)
  last_edge (e then p) = last_edge p

  -- an order that has all nodes left leaves no cycle among them
  pub ordered_whole : ((i j : ℕ) → E i j → i < size) → (left : Test) (ns : List ℕ) → Ordered E size keys left ns
      → ((n : ℕ) → n < size → T (left n) → n ∈ ns) → Cycle (Passing left E) → ⊥
  ordered_whole inside left [] o all c =
      let e = (last_edge c.1).1 in all _ (inside _ _ e.2) e.0
  ordered_whole inside left (x ∷ ns) o all c =
      let e = (last_edge c.1).1 in
      let other : c.0 ≡ x → ⊥ = λ p. o.0.free _ e.0 (subst (E _) p e.2) in
      ordered_whole inside (but left x) ns o.1
      (λ n l t. let b = but_parts left x n t in ⊎_elim (λ p. absurd (b.1 p)) (λ i. i) (all n l b.0))
      (c.0, avoids left x o.0.free other c.1)

  -- at the end of an order no node is free
  pub ordered_end : (left : Test) (ns : List ℕ) → Ordered E size keys left ns → Picks E size keys (minus left ns) (minus left ns) None
  unfolding minus
  ordered_end left [] o = o
  ordered_end left (x ∷ ns) o = ordered_end (but left x) ns o.1
