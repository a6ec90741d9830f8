-- Paths of a graph whose edges are a test: the search over listed nodes is exact, an order exists where
-- there is no cycle, and a cycle that new edges close runs through the node that they lead into.
use Rattle.std.proofs.Common.{◌≡◌, ℕ, Bool, true, not, ◌&&◌, ◌⊎◌, List, [], ◌∷◌, ◌++◌, subst, inl, inr}
use Rattle.std.proofs.lemmas.Bool.{cases_Bool, or_cases, or_left, or_right, and_parts, and_from, not_from_true, not_from_false}
use Rattle.graph.specs.Paths.{Relation, Path, edge, ◌then◌, Cycle, ◌∈◌, Distinct, Forward}
use Rattle.graph.proofs.Paths.{path_join}
use Rattle.history.specs.Machine.{those, path}
use Rattle.history.proofs.Lists.{true_not_false, ∈-split, ∈-left, ∈-right, ∈-those, those-∈, forward_join, forward_those, distinct_those, distinct_join}

-- a test between nodes as a relation
abbrev pub Drawn : (ℕ → ℕ → Bool) → Relation
Drawn e i j = e i j ≡ true

-- paths whose inner nodes are all listed
data Via (ks : List ℕ) (E : Relation) : ℕ → ℕ → Type 0 where
  one : {i j : ℕ} → E i j → Via ks E i j
  more : {i m j : ℕ} → E i m → m ∈ ks → Via ks E m j → Via ks E i j

module _ (E : Relation) where
  via_split : (k : ℕ) (ks : List ℕ) {i j : ℕ} → Via (k ∷ ks) E i j
      → Via ks E i j ⊎ (Via ks E i k × Via ks E k j)
  via_split k ks (one e) = inl (one e)
  via_split k ks {i} {j} (more {m = m} e h p) =
      elim (via_split k ks p) [ inl q ↦ left h q | inr q ↦ right h q.0 q.1 ]
    where
      left : (m ∈ (k ∷ ks)) → Via ks E m j → Via ks E i j ⊎ (Via ks E i k × Via ks E k j)
      left (inl w) q = inr (one (subst (λ (z : ℕ). E i z) w e), subst (λ (z : ℕ). Via ks E z j) w q)
      left (inr w) q = inl (more e w q)

      right : (m ∈ (k ∷ ks)) → Via ks E m k → Via ks E k j → Via ks E i j ⊎ (Via ks E i k × Via ks E k j)
      right (inl w) q r = inr (one (subst (λ (z : ℕ). E i z) w e), r)
      right (inr w) q r = inr (more e w q, r)

  via_all : (ks : List ℕ) → ((a b : ℕ) → E a b → a ∈ ks) → {i j : ℕ} → Path E i j → Via ks E i j
  via_all ks all (edge e) = one e
  via_all ks all (◌then◌ {j = m} e (edge {j = j} f)) = more e (all m j f) (one f)
  via_all ks all (◌then◌ {j = m} e (◌then◌ {j = j} f p)) = more e (all m j f) (via_all ks all (◌then◌ f p))

module _ (e : ℕ → ℕ → Bool) where
  pub path_sound : (ks : List ℕ) (i j : ℕ) → path ks e i j ≡ true → Path (Drawn e) i j
  unfolding path
  path_sound [] i j p = edge p
  path_sound (k ∷ ks) i j p =
      elim (or_cases (path ks e i j) (path ks e i k && path ks e k j) p) [
        | inl q ↦ path_sound ks i j q
        | inr q ↦
            let r = and_parts (path ks e i k) (path ks e k j) q in
            path_join (path_sound ks i k r.0) (path_sound ks k j r.1)
      ]

  via_found : (ks : List ℕ) (i j : ℕ) → Via ks (Drawn e) i j → path ks e i j ≡ true
  unfolding path
  via_found [] i j (one p) = p
  via_found [] i j (more p h q) = absurd h
  via_found (k ∷ ks) i j p =
      elim (via_split (Drawn e) k ks p) [
        | inl q ↦ or_left (path ks e i j) _ (via_found ks i j q)
        | inr q ↦
            or_right (path ks e i j) _
            (and_from (path ks e i k) (path ks e k j) (via_found ks i k q.0) (via_found ks k j q.1))
      ]

  -- the search finds every path, if each edge starts at a listed node
  pub path_found : (ks : List ℕ) (i j : ℕ) → ((a b : ℕ) → Drawn e a b → a ∈ ks) → Path (Drawn e) i j
      → path ks e i j ≡ true
  path_found ks i j all p = via_found ks i j (via_all (Drawn e) ks all p)

-- an order of listed nodes in which no path leads back, from an exact test of paths and no cycle
module _ (E : Relation) (r : ℕ → ℕ → Bool) (sound : (i j : ℕ) → r i j ≡ true → Path E i j)
    (found : (i j : ℕ) → Path E i j → r i j ≡ true) (acyclic : Cycle E → ⊥) where
  -- each node goes between those to which no path leads from it and those to which one does
  pub ordered : List ℕ → List ℕ
  ordered [] = []
  ordered (k ∷ ks) = those (λ i. not (r k i)) (ordered ks) ++ k ∷ those (r k) (ordered ks)

  pub ordered_only : (a : ℕ) (ks : List ℕ) → a ∈ ordered ks → a ∈ ks
  unfolding ordered
  ordered_only a [] h = h
  ordered_only a (k ∷ ks) h =
      elim (∈-split a (those (λ i. not (r k i)) (ordered ks)) (k ∷ those (r k) (ordered ks)) h) [
        | inl q ↦ inr (ordered_only a ks (those-∈ (λ i. not (r k i)) a (ordered ks) q).0)
        | inr (inl q) ↦ inl q
        | inr (inr q) ↦ inr (ordered_only a ks (those-∈ (r k) a (ordered ks) q).0)
      ]

  pub ordered_all : (a : ℕ) (ks : List ℕ) → a ∈ ks → a ∈ ordered ks
  unfolding ordered
  ordered_all a [] h = h
  ordered_all a (k ∷ ks) (inl q) =
      ∈-right a (those (λ i. not (r k i)) (ordered ks)) (k ∷ those (r k) (ordered ks)) (inl q)
  ordered_all a (k ∷ ks) (inr q) =
      let h = ordered_all a ks q in
      elim (cases_Bool (r k a)) [
        | inl e ↦
            ∈-right a (those (λ i. not (r k i)) (ordered ks)) (k ∷ those (r k) (ordered ks))
            (inr (∈-those (r k) a (ordered ks) h e))
        | inr e ↦
            ∈-left a (those (λ i. not (r k i)) (ordered ks)) (k ∷ those (r k) (ordered ks))
            (∈-those (λ i. not (r k i)) a (ordered ks) h (not_from_false (r k a) e))
      ]

  pub ordered_distinct : (ks : List ℕ) → Distinct ks → Distinct (ordered ks)
  unfolding ordered
  ordered_distinct [] d = tt
  ordered_distinct (k ∷ ks) d =
      distinct_join (those (λ i. not (r k i)) (ordered ks)) (k ∷ those (r k) (ordered ks))
      (distinct_those (λ i. not (r k i)) (ordered ks) (ordered_distinct ks d.1)) (
        (λ h. d.0 (ordered_only k ks (those-∈ (r k) k (ordered ks) h).0)),
        distinct_those (r k) (ordered ks) (ordered_distinct ks d.1),
      )
      apart
    where
      apart : (x : ℕ) → x ∈ those (λ i. not (r k i)) (ordered ks) → x ∈ (k ∷ those (r k) (ordered ks)) → ⊥
      apart x h (inl e) =
          d.0 (ordered_only k ks (subst (λ (z : ℕ). z ∈ ordered ks) e (those-∈ (λ i. not (r k i)) x (ordered ks) h).0))
      apart x h (inr g) =
          true_not_false (not (r k x)) (those-∈ (λ i. not (r k i)) x (ordered ks) h).1
          (not_from_true (r k x) (those-∈ (r k) x (ordered ks) g).1)

  pub ordered_forward : (ks : List ℕ) → Forward (Path E) (ordered ks)
  unfolding ordered
  ordered_forward [] = tt
  ordered_forward (k ∷ ks) =
      forward_join (Path E) (those (λ i. not (r k i)) (ordered ks)) (k ∷ those (r k) (ordered ks))
      (forward_those (Path E) (λ i. not (r k i)) (ordered ks) (ordered_forward ks)) (
        (λ y h p. acyclic (k, path_join (sound k y (those-∈ (r k) y (ordered ks) h).1) p)),
        forward_those (Path E) (r k) (ordered ks) (ordered_forward ks),
      )
      back
    where
      unreached : (x : ℕ) → x ∈ those (λ i. not (r k i)) (ordered ks) → Path E k x → ⊥
      unreached x h p =
          true_not_false (not (r k x)) (those-∈ (λ i. not (r k i)) x (ordered ks) h).1
          (not_from_true (r k x) (found k x p))

      back : (x y : ℕ) → x ∈ those (λ i. not (r k i)) (ordered ks) → y ∈ (k ∷ those (r k) (ordered ks)) → Path E y x → ⊥
      back x y h (inl e) p = unreached x h (subst (λ (z : ℕ). Path E z x) e p)
      back x y h (inr g) p = unreached x h (path_join (sound k y (those-∈ (r k) y (ordered ks) g).1) p)

-- where a graph D has, beside the edges of E, only edges into j, each of its cycles that is none of E
-- comes by j
module _ (E D : Relation) (j : ℕ) (new : (a b : ℕ) → D a b → E a b ⊎ (b ≡ j)) where
  by_new : {a b : ℕ} → Path D a b → Path E a b ⊎ (Path D a j × ((b ≡ j) ⊎ Path D j b))
  by_new {a} {b} (edge e) =
      elim (new a b e) [ inl k ↦ inl (edge k) | inr k ↦ inr (edge (subst (λ (z : ℕ). D a z) k e), inl k) ]
  by_new {a} {b} (◌then◌ {j = m} e p) =
      elim (new a m e) [
        | inl k ↦ elim (by_new p) [ inl q ↦ inl (◌then◌ k q) | inr q ↦ inr (◌then◌ e q.0, q.1) ]
        | inr k ↦ inr (edge (subst (λ (z : ℕ). D a z) k e), inr (subst (λ (z : ℕ). Path D z b) k p))
      ]

  pub cycle_by_new : (Cycle E → ⊥) → Cycle D → Path D j j
  cycle_by_new acyclic (a, p) =
      elim (by_new p) [
        | inl q ↦ absurd (acyclic (a, q))
        | inr (q, inl e) ↦ subst (λ (z : ℕ). Path D z j) e q
        | inr (q, inr r) ↦ path_join r q
      ]

-- a path that starts outside a set into which no edge leads from outside stays outside
module _ (E D : Relation) (Out : ℕ → Type 0) (stays : (a b : ℕ) → E a b → Out a → Out b × D a b) where
  pub path_stays : {a b : ℕ} → Out a → Path E a b → Path D a b
  path_stays {a} {b} o (edge e) = edge (stays a b e o).1
  path_stays {a} o (◌then◌ {j = m} e p) = ◌then◌ (stays a m e o).1 (path_stays (stays a m e o).0 p)
