-- The conflict graph of a record, by what became of its jobs: every edge into a retired job comes from
-- a retired one, so a path from a job that lives stays among those that live; hence the machine's test
-- is exact and no granted step closes a cycle.
use Rattle.std.proofs.Common.{◌≡◌, ℕ, Bool, T, ◌⊎◌, List, [], ◌∷◌, ◌++◌, sym, refl, ap, ◌∙◌, subst, inl, inr, arith}
use Rattle.graph.proofs.Paths.{path_map}
use Rattle.graph.specs.Paths.{Relation, Path, Cycle, ◌∈◌, Distinct, Forward}
use Rattle.history.specs.Acts.{Fate, not_aborted}
use Rattle.history.specs.Conflicts.{Access, Leads}
use Rattle.history.proofs.Lists.{∈-split, ∈-left, forward_weaken, forward_join, distinct_join}
use Rattle.history.proofs.Paths.{Drawn, cycle_by_new, path_stays}
use Rattle.history.proofs.Records.{leads_more}
use Rattle.history.proofs.Marks.{Edged}

-- the conflict graph, by what became of each job
abbrev pub Among : (ℕ → Fate) → List Access → Relation
Among F s i j = T (not_aborted (F i)) × T (not_aborted (F j)) × Leads s i j

-- a job that is neither aborted nor retired
abbrev pub Live : (ℕ → Fate) → List ℕ → ℕ → Type 0
Live F R i = T (not_aborted (F i)) × (i ∈ R → ⊥)

pub record Retired (F : ℕ → Fate) (s : List Access) (R : List ℕ) : Type 0 where
  pub committed : (j : ℕ) → j ∈ R → F j ≡ Fate.committed
  pub distinct : Distinct R
  pub closed : (i j : ℕ) → Among F s i j → j ∈ R → i ∈ R
  pub forward : Forward (Among F s) R
  pub acyclic : Cycle (Among F s) → ⊥

pub running_kept : (f : Fate) → f ≡ Fate.running → T (not_aborted f)
running_kept f e = rw e tt

pub committed_kept : (f : Fate) → f ≡ Fate.committed → T (not_aborted f)
committed_kept f e = rw e tt

pub running_not_committed : {X : Type 0} (f : Fate) → f ≡ Fate.running → f ≡ Fate.committed → X
running_not_committed f p q = let z : ◌≡◌ {A = ℕ} 0 1 = cc in absurd (omega arith)

-- a job that runs lives
pub running_lives : (F : ℕ → Fate) (s : List Access) (R : List ℕ) (j : ℕ) → Retired F s R → F j ≡ Fate.running → Live F R j
running_lives F s R j r e =
    (running_kept (F j) e, (λ h. running_not_committed (F j) e (r.committed j h)))

-- fewer edges, and committed jobs stay so
pub retired_weaken : (F G : ℕ → Fate) (s t : List Access) (R : List ℕ) → Retired F s R
    → ((j : ℕ) → F j ≡ Fate.committed → G j ≡ Fate.committed)
    → ((i j : ℕ) → Among G t i j → Among F s i j) → Retired G t R
retired_weaken F G s t R r stay fewer =
    record {
      committed = λ j h. stay j (r.committed j h);
      distinct = r.distinct;
      closed = λ i j e h. r.closed i j (fewer i j e) h;
      forward = forward_weaken (Among F s) (Among G t) R (λ x y h k. fewer y x) r.forward;
      acyclic = λ c. r.acyclic (c.0, path_map fewer c.1);
    }

-- a job that is committed and that no living job leads into retires
pub retired_more : (F : ℕ → Fate) (s : List Access) (R : List ℕ) (j : ℕ) → Retired F s R
    → F j ≡ Fate.committed → (j ∈ R → ⊥) → ((i : ℕ) → Among F s i j → i ∈ R) → Retired F s (R ++ j ∷ [])
retired_more F s R j r c out free =
    record {
      committed = λ i h. elim (∈-split i R (j ∷ []) h)
          [ inl k ↦ r.committed i k | inr (inl e) ↦ ap F e ∙ c | inr (inr k) ↦ absurd k ];
      distinct = distinct_join R (j ∷ []) r.distinct ((λ h. h), tt) (λ x h k. apart x h k);
      closed = λ a b e h. ∈-left a R (j ∷ []) (elim (∈-split b R (j ∷ []) h) [
        | inl k ↦ r.closed a b e k
        | inr (inl q) ↦ free a (subst (λ (z : ℕ). Among F s a z) q e)
        | inr (inr k) ↦ absurd k
      ]);
      forward = forward_join (Among F s) R (j ∷ []) r.forward ((λ y h. absurd h), tt) back;
      acyclic = r.acyclic;
    }
  where
    apart : (x : ℕ) → x ∈ R → x ∈ (j ∷ []) → ⊥
    apart x h (inl e) = out (subst (λ (z : ℕ). z ∈ R) e h)
    apart x h (inr k) = k

    back : (x y : ℕ) → x ∈ R → y ∈ (j ∷ []) → Among F s y x → ⊥
    back x y h (inl e) a = out (subst (λ (z : ℕ). z ∈ R) e (r.closed y x a h))
    back x y h (inr k) a = k

-- one step more, of a job that runs
module _ (F : ℕ → Fate) (s : List Access) (R : List ℕ) (a : Access) (r : Retired F s R)
    (runs : F a.job ≡ Fate.running) where
  -- its edges lead into that job
  new_edges : (i j : ℕ) → Among F (s ++ a ∷ []) i j → Among F s i j ⊎ (j ≡ a.job)
  new_edges i j e =
      elim (leads_more a s i j e.2) [ inl k ↦ inl (e.0, e.1, k) | inr k ↦ inr (sym k.0) ]

  not_retired : (j : ℕ) → j ≡ a.job → j ∈ R → ⊥
  not_retired j e h = running_not_committed (F a.job) runs (ap F (sym e) ∙ r.committed j h)

  old_into_retired : (i j : ℕ) → Among F (s ++ a ∷ []) i j → j ∈ R → Among F s i j
  old_into_retired i j e h = elim (new_edges i j e) [ inl k ↦ k | inr k ↦ absurd (not_retired j k h) ]

  module _ (e : ℕ → ℕ → Bool) (ed : Edged (Live F R) (s ++ a ∷ []) e) where
    -- the whole record would have a cycle exactly when the machine's edges have a path round the job
    pub path_from_cycle : Cycle (Among F (s ++ a ∷ [])) → Path (Drawn e) a.job a.job
    path_from_cycle c =
        path_stays (Among F (s ++ a ∷ [])) (Drawn e) (λ i. i ∈ R → ⊥)
        (λ i j k o.
        let out : j ∈ R → ⊥ = λ h. o (r.closed i j (old_into_retired i j k h) h) in
        (out, ed.all i j (k.0, o) (k.1, out) k.2))
        (not_retired a.job refl)
        (cycle_by_new (Among F s) (Among F (s ++ a ∷ [])) a.job new_edges r.acyclic c)

    pub cycle_from_path : Path (Drawn e) a.job a.job → Cycle (Among F (s ++ a ∷ []))
    cycle_from_path p =
        (a.job, path_map (λ i j k. let q = ed.only i j k in (q.0.0, q.1.0, q.2)) p)

    -- so where there is none, nothing is lost
    pub retired_step : (Path (Drawn e) a.job a.job → ⊥) → Retired F (s ++ a ∷ []) R
    retired_step no-path =
        record {
          committed = r.committed;
          distinct = r.distinct;
          closed = λ i j k h. r.closed i j (old_into_retired i j k h) h;
          forward =
              forward_weaken (Among F s) (Among F (s ++ a ∷ [])) R (λ x y h k. λ q. old_into_retired y x q h)
              r.forward;
          acyclic = λ c. no-path (path_from_cycle c);
        }
