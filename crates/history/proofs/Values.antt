-- The values: whichever of the running jobs are counted in, the accesses of the jobs that count replay,
-- in the order of time, from the opening contents to the store's values with those held by jobs that
-- count laid over.
use Rattle.std.proofs.Common.{◌≡◌, ℕ, ◌<◌, min, Bool, true, false, cond, eqb, List, [], ◌∷◌, ◌++◌, length, get_or, set, Some, None, Option, sym, refl, ap, ◌∙◌, subst, inl, inr, arith}
use Rattle.std.proofs.lemmas.Bool.{cases_Bool, cases_eq, eqb-true, eqb-false, eq-eqb, ne_eqb}
use Rattle.std.proofs.lemmas.List.{get_or-set_same, get_or-set_other, length-set}
use Rattle.graph.specs.Paths.{◌∈◌}
use Rattle.history.specs.declared.holding.Holding.{Holding}
use Rattle.history.specs.Acts.{Fate}
use Rattle.history.specs.Conflicts.{Access}
use Rattle.history.specs.Machine.{holds, held_value, let_go, put_at, put_all, those, rising}
use Rattle.history.proofs.Lists.{true_not_false, ∈-those, those-∈, ∈-dec, ∈-rising}
use Rattle.history.proofs.Replay.{Replay, kept, replay_join}
use Rattle.history.proofs.Records.{kept_more_yes, kept_more_no}

-- the value of an item as those who count see it
abbrev pub laid : (ℕ → Bool) → Option Holding → ℕ → ℕ
laid k None v = v
laid k (Some h) v = cond (k h.job) h.value v

-- committed jobs count, aborted ones do not, the others as may be
pub record Counts (k : ℕ → Bool) (F : ℕ → Fate) : Type 0 where
  pub counted : (j : ℕ) → F j ≡ Fate.committed → k j ≡ true
  pub left_out : (j : ℕ) → F j ≡ Fate.aborted → k j ≡ false

pub record Looks (c : List ℕ) (k : ℕ → Bool) (held : ℕ → Option Holding) (values : List ℕ) : Type 0 where
  pub long : length c ≡ length values
  pub shows : (x : ℕ) → get_or c x 0 ≡ laid k (held x) (get_or values x 0)

abbrev pub Plays : List ℕ → (ℕ → Fate) → List Access → (ℕ → Option Holding) → List ℕ → Type 0
Plays opening F s held values =
    (k : ℕ → Bool) → Counts k F → (c : List ℕ) × Replay opening (kept k s) c × Looks c k held values

-- the item is free, or this job holds it
pub data FreeOr (j : ℕ) : Option Holding → Type 0 where
  free : FreeOr j None
  own : (h : Holding) → h.job ≡ j → FreeOr j (Some h)

-- who counts among those who see an item that job j may access
laid_own : (k : ℕ → Bool) (j : ℕ) (o : Option Holding) (v : ℕ) → FreeOr j o → k j ≡ true
    → laid k o v ≡ cond (holds j o) (held_value o 0) v
laid_own k j _ v free e = refl
laid_own k j _ v (own h q) e = rw (ap k q ∙ e, eq-eqb h.job j q)

laid_left_out : (k : ℕ → Bool) (j : ℕ) (o : Option Holding) (v : ℕ) → FreeOr j o → k j ≡ false → laid k o v ≡ v
laid_left_out k j _ v free e = refl
laid_left_out k j _ v (own h q) e = rw (ap k q ∙ e)

module _ (opening : List ℕ) (F : ℕ → Fate) (s : List Access) (held : ℕ → Option Holding) (values : List ℕ)
    (p : Plays opening F s held values) where
  -- fewer ways to count
  pub plays_weaken : (G : ℕ → Fate) → ((k : ℕ → Bool) → Counts k G → Counts k F) → Plays opening G s held values
  plays_weaken G f k c = p k (f k c)

  pub plays_read : (a : Access) → a.writes ≡ false → FreeOr a.job (held a.item)
      → a.value ≡ cond (holds a.job (held a.item)) (held_value (held a.item) 0) (get_or values a.item 0)
      → Plays opening F (s ++ a ∷ []) held values
  plays_read a w f v k c =
      let r = p k c in
      elim (cases_Bool (k a.job)) [
        | inl e ↦ (
          r.0,
          subst (λ (t : List Access). Replay opening t r.0) (sym (kept_more_yes a k s e))
              (replay_join (kept k s) (a ∷ []) opening r.0 r.0 r.1 (
                (λ _. v ∙ sym (laid_own k a.job (held a.item) (get_or values a.item 0) f e)
                    ∙ sym (r.2.shows a.item)),
                rw w,
              )),
          r.2,
        )
        | inr e ↦
            (r.0, subst (λ (t : List Access). Replay opening t r.0) (sym (kept_more_no a k s e)) r.1, r.2)
      ]

  pub plays_write : (a : Access) → a.writes ≡ true → a.item < length values → FreeOr a.job (held a.item)
      → Plays opening F (s ++ a ∷ []) (put_at a.item (Some (record { job = a.job; value = a.value })) held) values
  plays_write a w inside f k c =
      let r = p k c in
      elim (cases_Bool (k a.job)) [
        | inl e ↦ (
          set r.0 a.item a.value,
          subst (λ (t : List Access). Replay opening t (set r.0 a.item a.value)) (sym (kept_more_yes a k s e))
              (replay_join (kept k s) (a ∷ []) opening r.0 (set r.0 a.item a.value) r.1
              ((λ q. true_not_false a.writes w q), rw w)),
          record { long = length-set r.0 a.item a.value ∙ r.2.long; shows = on r.0 r.2 e },
        )
        | inr e ↦ (
          r.0,
          subst (λ (t : List Access). Replay opening t r.0) (sym (kept_more_no a k s e)) r.1,
          record { long = r.2.long; shows = off r.0 r.2 e },
        )
      ]
    where
      held' : ℕ → Option Holding
      held' = put_at a.item (Some (record { job = a.job; value = a.value })) held

      on : (d : List ℕ) → Looks d k held values → k a.job ≡ true → (x : ℕ)
          → get_or (set d a.item a.value) x 0 ≡ laid k (held' x) (get_or values x 0)
      on d l e x =
          elim (cases_eq x a.item) [
            | inl q ↦
                rw (eq-eqb x a.item q, e)
                (ap (λ (z : ℕ). get_or (set d a.item a.value) z 0) q
                ∙ get_or-set_same d a.item a.value 0 (subst (λ (z : ℕ). a.item < z) (sym l.long) inside))
            | inr n ↦
                rw (ne_eqb x a.item n) (get_or-set_other d a.item x a.value 0 n ∙ l.shows x)
          ]

      off : (d : List ℕ) → Looks d k held values → k a.job ≡ false → (x : ℕ)
          → get_or d x 0 ≡ laid k (held' x) (get_or values x 0)
      off d l e x =
          elim (cases_eq x a.item) [
            | inl q ↦
                rw (eq-eqb x a.item q, e)
                (l.shows x
                ∙ laid_left_out k a.job (held x) (get_or values x 0)
                (subst (λ (z : ℕ). FreeOr a.job (held z)) (sym q) f) e)
            | inr n ↦ rw (ne_eqb x a.item n) (l.shows x)
          ]

-- what is put into the store
module _ (held : ℕ → Option Holding) where
  pub put_all_long : (xs values : List ℕ) → length (put_all held xs values) ≡ length values
  unfolding put_all
  put_all_long [] values = refl
  put_all_long (x ∷ xs) values =
      put_all_long xs (set values x (held_value (held x) 0)) ∙ length-set values x (held_value (held x) 0)

  pub put_all_out : (xs values : List ℕ) (x : ℕ) → (x ∈ xs → ⊥) → get_or (put_all held xs values) x 0 ≡ get_or values x 0
  unfolding put_all
  put_all_out [] values x n = refl
  put_all_out (y ∷ xs) values x n =
      put_all_out xs (set values y (held_value (held y) 0)) x (λ h. n (inr h))
      ∙ get_or-set_other values y x (held_value (held y) 0) 0 (λ e. n (inl e))

  pub put_all_in : (xs values : List ℕ) (x : ℕ) → x ∈ xs → x < length values
      → get_or (put_all held xs values) x 0 ≡ held_value (held x) 0
  unfolding put_all
  put_all_in [] values x h l = absurd h
  put_all_in (y ∷ xs) values x h l =
      elim (∈-dec x xs) [
        | inl k ↦
            put_all_in xs (set values y (held_value (held y) 0)) x k
            (subst (λ (z : ℕ). x < z) (sym (length-set values y (held_value (held y) 0))) l)
        | inr n ↦
            put_all_out xs (set values y (held_value (held y) 0)) x n ∙ here h n
      ]
    where
      here : x ∈ (y ∷ xs) → (x ∈ xs → ⊥) → get_or (set values y (held_value (held y) 0)) x 0 ≡ held_value (held x) 0
      here (inl e) n =
          subst (λ (z : ℕ). get_or (set values z (held_value (held z) 0)) x 0 ≡ held_value (held x) 0) e
          (get_or-set_same values x (held_value (held x) 0) 0 l)
      here (inr k) n = absurd (n k)

pub let_go_free : (j : ℕ) (o : Option Holding) → holds j o ≡ false → let_go j o ≡ o
let_go_free j o e = rw e

pub let_go_own : (j : ℕ) (o : Option Holding) → holds j o ≡ true → let_go j o ≡ None
let_go_own j o e = rw e

-- whoever holds an item that was let go held it before, and is another
pub let_go_some : (j : ℕ) (o : Option Holding) (h : Holding) → let_go j o ≡ Some h → (o ≡ Some h) × (h.job ≡ j → ⊥)
let_go_some j None h e = (e, absurd (none_some e))
  where
    none_some : None ≡ Some h → ⊥
    none_some q = let z : ◌≡◌ {A = ℕ} 0 1 = cc in omega arith
let_go_some j (Some g) h e =
    elim (cases_Bool (eqb g.job j)) [
      | inl q ↦
          let f : None ≡ Some h = rw q at e in
          let z : ◌≡◌ {A = ℕ} 0 1 = cc in
          absurd (omega arith)
      | inr q ↦
          let f : Some g ≡ Some h = rw q at e in
          (f, λ k. eqb-false g.job j q ((let u : g ≡ h = cc in ap (λ (z : Holding). z.job) u) ∙ k))
    ]

laid_held : (k : ℕ → Bool) (j : ℕ) (o : Option Holding) (v : ℕ) → holds j o ≡ true → k j ≡ true → laid k o v ≡ held_value o 0
laid_held k j None v h e = true_not_false false h refl
laid_held k j (Some g) v h e = rw (ap k (eqb-true g.job j h) ∙ e)

laid_let_go : (k : ℕ → Bool) (j : ℕ) (o : Option Holding) (v : ℕ) → k j ≡ false → laid k o v ≡ laid k (let_go j o) v
laid_let_go k j None v e = refl
laid_let_go k j (Some g) v e =
    elim (cases_Bool (eqb g.job j))
    [ inl q ↦ rw (q, ap k (eqb-true g.job j q) ∙ e) | inr q ↦ rw q ]

module _ (opening : List ℕ) (F G : ℕ → Fate) (s : List Access) (held : ℕ → Option Holding) (values : List ℕ) (j : ℕ)
    (p : Plays opening F s held values) (before : (k : ℕ → Bool) → Counts k G → Counts k F) where
  -- a commit puts what the job held into the store
  pub plays_commit : G j ≡ Fate.committed → ((x : ℕ) → holds j (held x) ≡ true → x < min 64 (length values))
      → Plays opening G s (λ x. let_go j (held x))
      (put_all held (those (λ x. holds j (held x)) (rising 0 (min 64 (length values)))) values)
  plays_commit g inside k c =
      let r = p k (before k c) in
      (r.0, r.1, record { long = r.2.long ∙ sym (put_all_long held own values); shows = λ x. r.2.shows x ∙ same x })
    where
      own : List ℕ
      own = those (λ x. holds j (held x)) (rising 0 (min 64 (length values)))

      same : (x : ℕ) → laid k (held x) (get_or values x 0) ≡ laid k (let_go j (held x)) (get_or (put_all held own values) x 0)
      same x =
          elim (cases_Bool (holds j (held x))) [
            | inl e ↦
                let i = inside x e in
                laid_held k j (held x) (get_or values x 0) e (c.counted j g)
                ∙ sym (put_all_in held own values x
                (∈-those (λ y. holds j (held y)) x (rising 0 (min 64 (length values)))
                (∈-rising 0 (min 64 (length values)) x (omega arith) (omega arith)) e)
                (omega arith))
                ∙ ap (λ (o : Option Holding). laid k o (get_or (put_all held own values) x 0)) (sym (let_go_own j (held x) e))
            | inr e ↦
                ap (λ (v : ℕ). laid k (held x) v)
                (sym (put_all_out held own values x
                (λ h. true_not_false (holds j (held x)) (those-∈ (λ y. holds j (held y)) x (rising 0 (min 64 (length values))) h).1 e)))
                ∙ ap (λ (o : Option Holding). laid k o (get_or (put_all held own values) x 0)) (sym (let_go_free j (held x) e))
          ]

  -- an abort drops what the job held
  pub plays_abort : G j ≡ Fate.aborted → Plays opening G s (λ x. let_go j (held x)) values
  plays_abort g k c =
      let r = p k (before k c) in (
        r.0,
        r.1,
        record {
          long = r.2.long;
          shows = λ x. r.2.shows x ∙ laid_let_go k j (held x) (get_or values x 0) (c.left_out j g);
        },
      )

  -- a job that holds nothing goes
  pub plays_retire : ((x : ℕ) → holds j (held x) ≡ false) → Plays opening G s (λ x. let_go j (held x)) values
  plays_retire none k c =
      let r = p k (before k c) in (
        r.0,
        r.1,
        record {
          long = r.2.long;
          shows = λ x. r.2.shows x ∙ ap (λ (o : Option Holding). laid k o (get_or values x 0)) (sym (let_go_free j (held x) (none x)));
        },
      )
