-- Which nodes have a path to a goal, by sets: those seen so far, and those of them whose sources are left to be added.
use Rattle.std.proofs.Common.{◌≡◌, ℕ, ◌+◌, ◌-◌, ◌*◌, ◌^◌, ◌<◌, Bool, true, false, not, ◌&&◌, ◌||◌, T, eqb, ltb, ◌⊎◌, sym, refl, ◌∙◌, subst, inl, inr, ⊎_elim, arith, pow_pos}
use Rattle.std.proofs.lemmas.Nat.{pow_below}
use Rattle.std.proofs.lemmas.Bool.{both_ways, cases_Bool, cases_eq, lt-ltb, ltb-true, or_left, or_right, or_cases, and_parts, and_from, and_left, and_right, not_from_true, not_from_false, eq-eqb, ne_eqb}
use Rattle.graph.specs.Edges.{Edges}
use Rattle.graph.specs.Nodes.{has}
use Rattle.graph.specs.Paths.{Relation, Path, edge, ◌then◌}
use Rattle.graph.proofs.Words.{bit_one, bit_sum}

-- a node is seen only if it has a path to the goal; those with an edge to the goal are seen; and so are those with an
-- edge to a node that is seen and not left
pub record Reaching (E : Relation) (goal seen left : ℕ) : Type 0 where
  pub among : (k : ℕ) → has left k ≡ true → has seen k ≡ true
  pub leads_on : (k : ℕ) → has seen k ≡ true → Path E k goal
  pub last : (k : ℕ) → E k goal → has seen k ≡ true
  pub closed : (k m : ℕ) → has seen k ≡ true → E m k → (has seen m ≡ true) ⊎ (has left k ≡ true)

T_true : (b : Bool) → b ≡ true → T b
T_true b e = subst T (sym e) tt

true_T : (b : Bool) → T b → b ≡ true
true_T true t = refl
true_T false t = absurd t

alike : (b : Bool) → b ≡ ((b && true) || false)
alike true = refl
alike false = refl

-- the nodes of a graph that lead into one of them, as its sources tell
module _ (size : ℕ) (leads : ℕ → ℕ → Bool) (at sources nodes set : ℕ) (inside : at < size) (told : (k : ℕ) → k < size → has sources k ≡ leads k at)
    (below : (k : ℕ) → has nodes k ≡ ltb k size) (both : (k : ℕ) → has set k ≡ (has sources k && has nodes k)) where
  pub set_edge : (k : ℕ) → has set k ≡ true → Edges size leads k at
  set_edge k e =
      let p = and_parts (has sources k) (has nodes k) (sym (both k) ∙ e) in
      let l = ltb-true k size (sym (below k) ∙ p.1) in
      (l, inside, T_true _ (sym (told k l) ∙ p.0))

  pub edge_set : (k : ℕ) → Edges size leads k at → has set k ≡ true
  edge_set k e = both k ∙ and_from _ _ (told k e.0 ∙ true_T _ e.2) (below k ∙ lt-ltb k size e.0)

-- a path begins and ends at nodes of the graph
pub begins_inside : (size : ℕ) (leads : ℕ → ℕ → Bool) {i j : ℕ} → Path (Edges size leads) i j → i < size
begins_inside size leads (edge e) = e.0
begins_inside size leads (e then p) = e.0

pub ends_inside : (size : ℕ) (leads : ℕ → ℕ → Bool) {i j : ℕ} → Path (Edges size leads) i j → j < size
ends_inside size leads (edge e) = e.1
ends_inside size leads (e then p) = ends_inside size leads p

module _ (E : Relation) (goal : ℕ) where
  -- at first those with an edge to the goal are seen, and all of them are left
  pub reaching_first : (seen : ℕ) → ((k : ℕ) → has seen k ≡ true → E k goal) → ((k : ℕ) → E k goal → has seen k ≡ true) → Reaching E goal seen seen
  reaching_first seen only all = record {
    among = λ k e. e;
    leads_on = λ k e. edge (only k e);
    last = all;
    closed = λ k m e _. inr e;
  }

  -- where none is left, those seen are all
  pub reaching_all : (seen left : ℕ) → Reaching E goal seen left → ((k : ℕ) → has left k ≡ false) → (k : ℕ) → Path E k goal → has seen k ≡ true
  reaching_all seen left r none k (edge e) = r.last k e
  reaching_all seen left r none k (e then p) =
      ⊎_elim (λ s. s) (λ l. absurd (both_ways _ (none _) l)) (r.closed _ k (reaching_all seen left r none _ p) e)

  -- the sources of one more node are added
  module _ (seen left at set fresh more rest next : ℕ) (r : Reaching E goal seen left) (here : has left at ≡ true)
      (only : (k : ℕ) → has set k ≡ true → E k at) (all : (k : ℕ) → E k at → has set k ≡ true)
      (new : (k : ℕ) → has fresh k ≡ (has set k && not (has seen k))) (grown : (k : ℕ) → has more k ≡ (has seen k || has fresh k))
      (fewer : (k : ℕ) → has rest k ≡ (has left k && not (eqb k at))) (joined : (k : ℕ) → has next k ≡ (has rest k || has fresh k)) where
    kept : (k : ℕ) → has seen k ≡ true → has more k ≡ true
    kept k e = grown k ∙ or_left _ _ e

    added : (k : ℕ) → has fresh k ≡ true → has more k ≡ true
    added k e = grown k ∙ or_right _ _ e

    source : (k : ℕ) → E k at → has more k ≡ true
    source k e = elim (cases_Bool (has seen k)) [
      | inl t ↦ kept k t
      | inr u ↦ added k (new k ∙ and_from _ _ (all k e) (not_from_false _ u))
    ]

    pub reaching_more : Reaching E goal more next
    reaching_more = record {
      among = λ k e. ⊎_elim (λ t. kept k (r.among k (and_parts (has left k) _ (sym (fewer k) ∙ t)).0)) (added k) (or_cases _ _ (sym (joined k) ∙ e));
      leads_on = λ k e. ⊎_elim (r.leads_on k) (λ t. only k (and_parts (has set k) _ (sym (new k) ∙ t)).0 then r.leads_on at (r.among at here)) (or_cases _ _ (sym (grown k) ∙ e));
      last = λ k e. kept k (r.last k e);
      closed = λ k m e d. elim (cases_eq k at) [
        | inl p ↦ inl (source m (subst (E m) p d))
        | inr ne ↦ ⊎_elim
            (λ s. ⊎_elim (λ t. inl (kept m t)) (λ l. inr (joined k ∙ or_left _ _ (fewer k ∙ and_from _ _ l (not_from_false _ (ne_eqb k at ne))))) (r.closed k m s d))
            (λ f. inr (joined k ∙ or_right _ _ f)) (or_cases _ _ (sym (grown k) ∙ e))
      ];
    }

    -- each turn adds to those seen what it adds to those left, and takes one from these
    pub reaching_less : (w : ℕ) → at < w → seen < 2 ^ w → left < 2 ^ w → fresh < 2 ^ w → more < 2 ^ w → rest < 2 ^ w → next < 2 ^ w
        → 2 * (2 ^ w - more) + next < 2 * (2 ^ w - seen) + left
    reaching_less w l s t u v x y =
        let apart : (k : ℕ) → (has seen k && has fresh k) ≡ false = λ k.
        elim (cases_Bool (has seen k)) [
          | inl e ↦ and_right _ _ (new k ∙ and_right _ _ (not_from_true _ e))
          | inr e ↦ and_left _ _ e
        ] in
        let off : (k : ℕ) → (has rest k && has fresh k) ≡ false = λ k.
        elim (cases_Bool (has rest k)) [
          | inl e ↦ and_right _ _ (new k ∙ and_right _ _ (not_from_true _ (r.among k (and_parts (has left k) _ (sym (fewer k) ∙ e)).0)))
          | inr e ↦ and_left _ _ e
        ] in
        let one : (k : ℕ) → has left k ≡ (has rest k || has (2 ^ at) k) = λ k.
        elim (cases_eq k at) [
          | inl p ↦ rw p here ∙ sym (or_right _ _ (bit_one at k ∙ eq-eqb k at p))
          | inr ne ↦ rw (fewer k, bit_one at k, ne_eqb k at ne) (alike (has left k))
        ] in
        let alone : (k : ℕ) → (has rest k && has (2 ^ at) k) ≡ false = λ k.
        elim (cases_eq k at) [
          | inl p ↦ and_left _ _ (fewer k ∙ and_right _ _ (not_from_true _ (eq-eqb k at p)))
          | inr ne ↦ and_right _ _ (bit_one at k ∙ ne_eqb k at ne)
        ] in
        omega (
          arith,
          bit_sum w seen fresh more s u v grown apart,
          bit_sum w rest fresh next x u y joined off,
          bit_sum w rest (2 ^ at) left x (pow_below at w l) t one alone,
          pow_pos at,
        )
