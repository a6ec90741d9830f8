-- The machine's sets and edges are the record's, among the jobs that live: they stay so when the jobs
-- that live change, when a job is removed, and when a step is granted. And the graph of the record.
use Rattle.std.proofs.Common.{◌≡◌, ℕ, Bool, true, false, not, ◌&&◌, ◌||◌, eqb, List, [], ◌∷◌, ◌++◌, sym, refl, ap, subst, inl, inr}
use Rattle.std.proofs.lemmas.Bool.{cases_eq, eqb-true, eq-eqb, ne_eqb, or_cases, or_left, or_right, and_parts, and_from}
use Rattle.history.specs.Conflicts.{Access, Leads}
use Rattle.history.specs.Machine.{put_at, with_one, without}
use Rattle.history.proofs.Lists.{true_not_false}
use Rattle.history.proofs.Records.{Occurs, Did, did_occurs, leads_occurs, Met, leads_more, leads_old, leads_new, met_did, did_met_write, did_met_read, did_more, did_old, did_new}

-- a set of jobs by item has the jobs that live and accessed the item so
pub record Marked (L : ℕ → Type 0) (w : Bool) (s : List Access) (m : ℕ → ℕ → Bool) : Type 0 where
  pub only : (x i : ℕ) → m x i ≡ true → L i × Did w x i s
  pub all : (x i : ℕ) → L i → Did w x i s → m x i ≡ true

-- the edges are those between jobs that live
pub record Edged (L : ℕ → Type 0) (s : List Access) (e : ℕ → ℕ → Bool) : Type 0 where
  pub only : (i j : ℕ) → e i j ≡ true → L i × L j × Leads s i j
  pub all : (i j : ℕ) → L i → L j → Leads s i j → e i j ≡ true

-- another set of jobs lives, but among those that accessed something the same
module _ (L K : ℕ → Type 0) (s : List Access) (to : (i : ℕ) → Occurs i s → L i → K i)
    (from : (i : ℕ) → Occurs i s → K i → L i) where
  pub marked_same : (w : Bool) (m : ℕ → ℕ → Bool) → Marked L w s m → Marked K w s m
  marked_same w m r =
      record {
        only = λ x i e. let q = r.only x i e in (to i (did_occurs w x i s q.1) q.0, q.1);
        all = λ x i k d. r.all x i (from i (did_occurs w x i s d) k) d;
      }

  pub edged_same : (e : ℕ → ℕ → Bool) → Edged L s e → Edged K s e
  edged_same e r =
      record {
        only = λ i j h.
            let q = r.only i j h in
            let o = leads_occurs s i j q.2 in
            (to i o.0 q.0, to j o.1 q.1, q.2);
        all = λ i j k l h.
            let o = leads_occurs s i j h in
            r.all i j (from i o.0 k) (from j o.1 l) h;
      }

-- a job is removed
module _ (L K : ℕ → Type 0) (j : ℕ) (s : List Access) (to : (i : ℕ) → L i → (i ≡ j → ⊥) → K i)
    (from : (i : ℕ) → K i → L i × (i ≡ j → ⊥)) where
  pub without_yes : (set : ℕ → Bool) (i : ℕ) → (i ≡ j → ⊥) → set i ≡ true → without j set i ≡ true
  without_yes set i n e = and_from (not (eqb i j)) (set i) (ap not (ne_eqb i j n)) e

  pub without_only : (set : ℕ → Bool) (i : ℕ) → without j set i ≡ true → (i ≡ j → ⊥) × (set i ≡ true)
  without_only set i e =
      let q = and_parts (not (eqb i j)) (set i) e in
      ((λ k. true_not_false (not (eqb i j)) q.0 (ap not (eq-eqb i j k))), q.1)

  pub marked_removed : (w : Bool) (m : ℕ → ℕ → Bool) → Marked L w s m → Marked K w s (λ x. without j (m x))
  marked_removed w m r =
      record {
        only = λ x i e.
            let q = without_only (m x) i e in
            let p = r.only x i q.1 in
            (to i p.0 q.0, p.1);
        all = λ x i k d. let q = from i k in without_yes (m x) i q.1 (r.all x i q.0 d);
      }

  pub edged_removed : (e : ℕ → ℕ → Bool) → Edged L s e
      → Edged K s (λ a b. not (eqb b j) && without j (λ i. e i b) a)
  edged_removed e r =
      record {
        only = λ a b h.
            let q = without_only (λ i. without j (λ z. e z i) a) b h in
            let p = without_only (λ z. e z b) a q.1 in
            let o = r.only a b p.1 in
            (to a o.0 p.0, to b o.1 q.0, o.2);
        all = λ a b k l h.
            let p = from a k in
            let q = from b l in
            without_yes (λ i. without j (λ z. e z i) a) b q.1
            (without_yes (λ z. e z b) a p.1 (r.all a b p.0 q.0 h));
      }

-- a step of a job that lives is granted
module _ (L : ℕ → Type 0) (s : List Access) (a : Access) where
  pub marked_step : (m : ℕ → ℕ → Bool) → L a.job → Marked L a.writes s m
      → Marked L a.writes (s ++ a ∷ []) (put_at a.item (with_one a.job (m a.item)) m)
  marked_step m live r = record { only = only; all = all }
    where
      only : (x i : ℕ) → put_at a.item (with_one a.job (m a.item)) m x i ≡ true
          → L i × Did a.writes x i (s ++ a ∷ [])
      only x i e =
          elim (cases_eq x a.item) [
            | inl q ↦
                let h : (eqb i a.job || m a.item i) ≡ true = rw (eq-eqb x a.item q) at e in
                elim (or_cases (eqb i a.job) (m a.item i) h) [
                  | inl k ↦
                      let f = eqb-true i a.job k in
                      (subst L (sym f) live, did_new a a.writes x i s (sym f) (sym q) refl)
                  | inr k ↦
                      let p = r.only a.item i k in
                      (p.0, subst (λ (z : ℕ). Did a.writes z i (s ++ a ∷ [])) (sym q) (did_old a a.writes a.item i s p.1))
                ]
            | inr n ↦
                let h : m x i ≡ true = rw (ne_eqb x a.item n) at e in
                let p = r.only x i h in
                (p.0, did_old a a.writes x i s p.1)
          ]

      all : (x i : ℕ) → L i → Did a.writes x i (s ++ a ∷ [])
          → put_at a.item (with_one a.job (m a.item)) m x i ≡ true
      all x i l d =
          elim (cases_eq x a.item) [
            | inl q ↦
                rw (eq-eqb x a.item q)
                (elim (did_more a a.writes x i s d) [
                  | inl k ↦
                      or_right (eqb i a.job) (m a.item i)
                      (r.all a.item i l (subst (λ (z : ℕ). Did a.writes z i s) q k))
                  | inr k ↦ or_left (eqb i a.job) (m a.item i) (eq-eqb i a.job (sym k.0))
                ])
            | inr n ↦
                rw (ne_eqb x a.item n)
                (elim (did_more a a.writes x i s d)
                [ inl k ↦ r.all x i l k | inr k ↦ absurd (n (sym k.1)) ])
          ]

  pub marked_other : (w : Bool) (m : ℕ → ℕ → Bool) → (a.writes ≡ w → ⊥) → Marked L w s m
      → Marked L w (s ++ a ∷ []) m
  marked_other w m n r =
      record {
        only = λ x i e. let p = r.only x i e in (p.0, did_old a w x i s p.1);
        all = λ x i l d. elim (did_more a w x i s d) [ inl k ↦ r.all x i l k | inr k ↦ absurd (n k.2) ];
      }

  -- the edges with those of the step drawn
  pub edged_step : (e rd wr : ℕ → ℕ → Bool) → L a.job → Edged L s e → Marked L false s rd → Marked L true s wr
      → Edged L (s ++ a ∷ [])
      (λ p q. e p q || eqb q a.job && (not (eqb p a.job) && (wr a.item p || a.writes && rd a.item p)))
  edged_step e rd wr live ed mr mw = record { only = only; all = all }
    where
      from : ℕ → Bool
      from p = wr a.item p || a.writes && rd a.item p

      draws : ℕ → ℕ → Bool
      draws p q = eqb q a.job && (not (eqb p a.job) && from p)

      from_lives : (p : ℕ) → from p ≡ true → (p ≡ a.job → ⊥) → L p × Met s p a
      from_lives p h n =
          elim (or_cases (wr a.item p) (a.writes && rd a.item p) h) [
            | inl k ↦ let r = mw.only a.item p k in (r.0, did_met_write a s p n r.1)
            | inr k ↦
                let u = and_parts a.writes (rd a.item p) k in
                let r = mr.only a.item p u.1 in
                (r.0, did_met_read a s p n u.0 r.1)
          ]

      only : (p q : ℕ) → (e p q || draws p q) ≡ true → L p × L q × Leads (s ++ a ∷ []) p q
      only p q h =
          elim (or_cases (e p q) (draws p q) h) [
            | inl k ↦ let r = ed.only p q k in (r.0, r.1, leads_old a s p q r.2)
            | inr k ↦
                let u = and_parts (eqb q a.job) (not (eqb p a.job) && from p) k in
                let f = eqb-true q a.job u.0 in
                let v = and_parts (not (eqb p a.job)) (from p) u.1 in
                let r = from_lives p v.1 (λ z. true_not_false (not (eqb p a.job)) v.0 (ap not (eq-eqb p a.job z))) in
                (r.0, subst L (sym f) live, leads_new a s p q (sym f) r.1)
          ]

      all : (p q : ℕ) → L p → L q → Leads (s ++ a ∷ []) p q → (e p q || draws p q) ≡ true
      all p q l k h =
          elim (leads_more a s p q h) [
            | inl o ↦ or_left (e p q) (draws p q) (ed.all p q l k o)
            | inr o ↦
                let d = met_did a s p o.1 in
                or_right (e p q) (draws p q)
                (and_from (eqb q a.job) (not (eqb p a.job) && from p) (eq-eqb q a.job (sym o.0))
                (and_from (not (eqb p a.job)) (from p) (ap not (ne_eqb p a.job d.0))
                (elim d.1 [
                  | inl y ↦ or_left (wr a.item p) (a.writes && rd a.item p) (mw.all a.item p l y)
                  | inr y ↦
                      or_right (wr a.item p) (a.writes && rd a.item p)
                      (and_from a.writes (rd a.item p) y.0 (mr.all a.item p l y.1))
                ])))
          ]
