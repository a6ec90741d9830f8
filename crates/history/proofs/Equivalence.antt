-- A serial order exists exactly where the conflict graph has no cycle, and so does a serial arrangement
-- that is conflict equivalent. Assumes nothing.
use Rattle.std.proofs.Common.{◌≡◌, ℕ, suc, ◌<◌, ◌≤◌, max, Bool, true, false, cond, not, ◌&&◌, ◌||◌, T, eqb, List, [], ◌∷◌, refl, ap, ◌∙◌, subst, inl, inr, arith}
use Rattle.std.proofs.lemmas.Bool.{cases_lt, eqb-true, eq-eqb, eqb-false, ne_eqb, and_parts, and_from, or_cases, or_left, or_right, not-true, not_from_false}
use Rattle.trace.specs.declared.act.Act.{Act}
use Rattle.trace.specs.declared.act.Act.TheVariants.{Open, Read, Write, Commit, Abort, Peek, Retire}
use Rattle.graph.proofs.Paths.{path_map}
use Rattle.graph.specs.Paths.{Path, edge, Cycle, ◌∈◌}
use Rattle.history.specs.Acts.{Fate, unopened, fate_from, fate, Keep, Kept}
use Rattle.history.specs.Arrangements.{SerializableExactlyWithoutCycle}
use Rattle.history.specs.Conflicts.{Access, accesses, Conflict, Meets, Leads, Edge, SerialOrder}
use Rattle.history.specs.Machine.{rising, those, path}
use Rattle.history.proofs.Arrangements.{arrangement_has_no_cycle}
use Rattle.history.proofs.Blocks.{order_gives_arrangement}
use Rattle.history.proofs.Lists.{T_true, true_T, ∈-those, those-∈, ∈-rising, distinct_rising, distinct_those, forward_weaken}
use Rattle.history.proofs.Paths.{Drawn, path_sound, path_found, ordered, ordered_only, ordered_all, ordered_distinct, ordered_forward}

-- the conflict graph as a test

conflicts : Access → Access → Bool
conflicts a b = not (eqb a.job b.job) && (eqb a.item b.item && (a.writes || b.writes))

conflict_tested : (a b : Access) → Conflict a b → conflicts a b ≡ true
unfolding conflicts
conflict_tested a b (apart, same, w) = and_from _ _ (not_from_false _ (ne_eqb a.job b.job apart)) (and_from _ _ (eq-eqb a.item b.item same) (T_true _ w))

tested_conflict : (a b : Access) → conflicts a b ≡ true → Conflict a b
unfolding conflicts
tested_conflict a b e =
    let p = and_parts (not (eqb a.job b.job)) _ e in
    let q = and_parts (eqb a.item b.item) _ p.1 in
    (eqb-false a.job b.job (not-true _ p.0), eqb-true a.item b.item q.0, true_T _ q.1)

meets : Access → ℕ → List Access → Bool
meets a j [] = false
meets a j (b ∷ s) = (eqb b.job j && conflicts a b) || meets a j s

meets_tested : (a : Access) (j : ℕ) (s : List Access) → Meets a j s → meets a j s ≡ true
unfolding meets
meets_tested a j [] h = absurd h
meets_tested a j (b ∷ s) (inl h) = or_left _ _ (and_from _ _ (eq-eqb b.job j h.0) (conflict_tested a b h.1))
meets_tested a j (b ∷ s) (inr h) = or_right (eqb b.job j && conflicts a b) _ (meets_tested a j s h)

tested_meets : (a : Access) (j : ℕ) (s : List Access) → meets a j s ≡ true → Meets a j s
unfolding meets
tested_meets a j [] e = true_T false e
tested_meets a j (b ∷ s) e = elim (or_cases (eqb b.job j && conflicts a b) (meets a j s) e) [
  | inl f ↦ (let p = and_parts (eqb b.job j) _ f in inl (eqb-true b.job j p.0, tested_conflict a b p.1))
  | inr f ↦ inr (tested_meets a j s f)
]

leads : List Access → ℕ → ℕ → Bool
leads [] i j = false
leads (a ∷ s) i j = (eqb a.job i && meets a j s) || leads s i j

leads_tested : (s : List Access) (i j : ℕ) → Leads s i j → leads s i j ≡ true
unfolding leads
leads_tested [] i j h = absurd h
leads_tested (a ∷ s) i j (inl h) = or_left _ _ (and_from _ _ (eq-eqb a.job i h.0) (meets_tested a j s h.1))
leads_tested (a ∷ s) i j (inr h) = or_right (eqb a.job i && meets a j s) _ (leads_tested s i j h)

tested_leads : (s : List Access) (i j : ℕ) → leads s i j ≡ true → Leads s i j
unfolding leads
tested_leads [] i j e = true_T false e
tested_leads (a ∷ s) i j e = elim (or_cases (eqb a.job i && meets a j s) (leads s i j) e) [
  | inl f ↦ (let p = and_parts (eqb a.job i) _ f in inl (eqb-true a.job i p.0, tested_meets a j s p.1))
  | inr f ↦ inr (tested_leads s i j f)
]

-- a number above those of all jobs that are opened or ended

above : List Act → ℕ
above [] = 0
above (Open j ∷ H) = max (suc j) (above H)
above (Read j x v ∷ H) = above H
above (Write j x v ∷ H) = above H
above (Commit j ∷ H) = max (suc j) (above H)
above (Abort j ∷ H) = max (suc j) (above H)
above (Peek x v ∷ H) = above H
above (Retire ∷ H) = above H

-- an act does not change the fate of a job that it does not name
not_named : {X : Type 0} (i j : ℕ) (a f : X) → (i ≡ j → ⊥) → cond (eqb i j) a f ≡ f
not_named i j a f d = ap (λ b. cond b a f) (ne_eqb i j d)

fate_above : (j : ℕ) (H : List Act) (f : Fate) → above H ≤ j → fate_from f j H ≡ f
unfolding above
fate_above j [] f h = refl
fate_above j (Open i ∷ H) f h = fate_above j H _ (omega arith) ∙ not_named i j _ f (λ e. absurd (omega arith))
fate_above j (Read i x v ∷ H) f h = fate_above j H f h
fate_above j (Write i x v ∷ H) f h = fate_above j H f h
fate_above j (Commit i ∷ H) f h = fate_above j H _ (omega arith) ∙ not_named i j _ f (λ e. absurd (omega arith))
fate_above j (Abort i ∷ H) f h = fate_above j H _ (omega arith) ∙ not_named i j _ f (λ e. absurd (omega arith))
fate_above j (Peek x v ∷ H) f h = fate_above j H f h
fate_above j (Retire ∷ H) f h = fate_above j H f h

module _ (keep : Keep) (H : List Act) (opened : keep unopened ≡ false) where
  -- the jobs that count, rising
  counted : List ℕ
  counted = those (λ j. keep (fate j H)) (rising 0 (above H))

  kept_below : (j : ℕ) → Kept keep H j → j < above H
  kept_below j h = elim (cases_lt j (above H)) [
    | inl l ↦ l
    | inr l ↦ absurd (subst T (ap keep (fate_above j H unopened l) ∙ opened) h)
  ]

  kept_counted : (j : ℕ) → Kept keep H j → j ∈ counted
  unfolding counted
  kept_counted j h = ∈-those (λ i. keep (fate i H)) j (rising 0 (above H)) (∈-rising 0 (above H) j (omega arith) (let l = kept_below j h in omega arith)) (T_true _ h)

  counted_kept : (j : ℕ) → j ∈ counted → Kept keep H j
  unfolding counted
  counted_kept j h = true_T _ (those-∈ (λ i. keep (fate i H)) j (rising 0 (above H)) h).1

  edge_test : ℕ → ℕ → Bool
  edge_test i j = keep (fate i H) && (keep (fate j H) && leads (accesses H) i j)

  edge_tested : (i j : ℕ) → Edge keep H i j → Drawn edge_test i j
  unfolding edge_test
  edge_tested i j (a, b, l) = and_from _ _ (T_true _ a) (and_from _ _ (T_true _ b) (leads_tested (accesses H) i j l))

  tested_edge : (i j : ℕ) → Drawn edge_test i j → Edge keep H i j
  unfolding edge_test
  tested_edge i j e =
      let p = and_parts (keep (fate i H)) _ e in
      let q = and_parts (keep (fate j H)) _ p.1 in
      (true_T _ p.0, true_T _ q.0, tested_leads (accesses H) i j q.1)

  module _ (acyclic : Cycle (Edge keep H) → ⊥) where
    sound : (i j : ℕ) → path counted edge_test i j ≡ true → Path (Edge keep H) i j
    sound i j e = path_map tested_edge (path_sound edge_test counted i j e)

    found : (i j : ℕ) → Path (Edge keep H) i j → path counted edge_test i j ≡ true
    found i j p = path_found edge_test counted i j (λ a b e. kept_counted a (tested_edge a b e).0) (path_map edge_tested p)

    pub order : List ℕ
    order = ordered (Edge keep H) (path counted edge_test) sound found acyclic counted

    pub order_without_cycle : SerialOrder keep H order
    unfolding order counted
    order_without_cycle = record {
      distinct = ordered_distinct (Edge keep H) (path counted edge_test) sound found acyclic counted (distinct_those (λ j. keep (fate j H)) (rising 0 (above H)) (distinct_rising 0 (above H)));
      all = λ j h. ordered_all (Edge keep H) (path counted edge_test) sound found acyclic j counted (kept_counted j h);
      only = λ j h. counted_kept j (ordered_only (Edge keep H) (path counted edge_test) sound found acyclic j counted h);
      forward = forward_weaken (Path (Edge keep H)) (Edge keep H) _ (λ x y _ _ e. edge e) (ordered_forward (Edge keep H) (path counted edge_test) sound found acyclic counted);
    }

pub serializable_exactly_without_cycle : SerializableExactlyWithoutCycle
serializable_exactly_without_cycle keep H opened = (
  (λ s. arrangement_has_no_cycle keep H s.0 s.1 s.2),
  (λ acyclic. order_gives_arrangement keep H _ (order_without_cycle keep H opened acyclic)),
)
