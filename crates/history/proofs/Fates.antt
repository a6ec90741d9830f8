-- What became of a job, the status that the machine shows of it, and a record in which the fate of one
-- job changes.
use Rattle.std.proofs.Common.{◌≡◌, ℕ, ◌<◌, Bool, true, false, cond, T, eqb, List, [], ◌∷◌, ◌++◌, sym, refl, ap, ◌∙◌, subst, inl, inr, arith}
use Rattle.std.proofs.lemmas.Bool.{cases_Bool, cases_eq, eq-eqb, ne_eqb}
use Rattle.graph.specs.Paths.{◌∈◌}
use Rattle.history.specs.Acts.{Fate, not_aborted}
use Rattle.history.specs.Conflicts.{Access}
use Rattle.history.specs.Machine.{Status, present, put_at}
use Rattle.history.proofs.Lists.{true_not_false, mem, mem-∈, ∈-mem}
use Rattle.history.proofs.Records.{Occurs, Did}
use Rattle.history.proofs.Values.{Counts}

-- the status that the machine shows of a job, by what became of it and whether it is retired
unfoldable pub shown : Fate → Bool → Status
shown Fate.unopened r = Status.absent
shown Fate.running r = Status.running
shown Fate.committed r = cond r Status.absent Status.committed
shown Fate.aborted r = Status.absent

-- STATUS AND FATE

pub shown_running : (f : Fate) (r : Bool) → shown f r ≡ Status.running → f ≡ Fate.running
unfolding shown
shown_running Fate.unopened r e = let z : ◌≡◌ {A = ℕ} 0 1 = cc in absurd (omega arith)
shown_running Fate.running r e = refl
shown_running Fate.committed true e = let z : ◌≡◌ {A = ℕ} 0 1 = cc in absurd (omega arith)
shown_running Fate.committed false e = let z : ◌≡◌ {A = ℕ} 0 1 = cc in absurd (omega arith)
shown_running Fate.aborted r e = let z : ◌≡◌ {A = ℕ} 0 1 = cc in absurd (omega arith)

pub shown_committed : (f : Fate) (r : Bool) → shown f r ≡ Status.committed → (f ≡ Fate.committed) × (r ≡ false)
unfolding shown
shown_committed Fate.unopened r e = let z : ◌≡◌ {A = ℕ} 0 1 = cc in absurd (omega arith)
shown_committed Fate.running r e = let z : ◌≡◌ {A = ℕ} 0 1 = cc in absurd (omega arith)
shown_committed Fate.committed true e = let z : ◌≡◌ {A = ℕ} 0 1 = cc in absurd (omega arith)
shown_committed Fate.committed false e = (refl, refl)
shown_committed Fate.aborted r e = let z : ◌≡◌ {A = ℕ} 0 1 = cc in absurd (omega arith)

pub shown_present : (f : Fate) (r : Bool) → T (not_aborted f) → r ≡ false → present (shown f r) ≡ true
unfolding shown
shown_present Fate.unopened r t e = absurd t
shown_present Fate.running r t e = refl
shown_present Fate.committed r t e = rw e
shown_present Fate.aborted r t e = absurd t

pub kept_opened : {X : Type 0} (f : Fate) → T (not_aborted f) → f ≡ Fate.unopened → X
kept_opened f t e = let u : T (not_aborted Fate.unopened) = rw e at t in absurd u

pub not_mem : (j : ℕ) (R : List ℕ) → (j ∈ R → ⊥) → mem j R ≡ false
not_mem j R n = elim (cases_Bool (mem j R)) [ inl e ↦ absurd (n (mem-∈ j R e)) | inr e ↦ e ]

pub mem_not : (j : ℕ) (R : List ℕ) → mem j R ≡ false → j ∈ R → ⊥
mem_not j R e h = true_not_false (mem j R) (∈-mem j R h) e

-- KNOWN ACCESSES

-- each access is of a job that was opened, and of an item that is served
abbrev pub Known : (ℕ → Fate) → ℕ → List Access → Type 0
Known F n [] = Unit {0}
Known F n (a ∷ s) = ((F a.job ≡ Fate.unopened → ⊥) × (a.item < n)) × Known F n s

pub known_occurs : (F : ℕ → Fate) (n i : ℕ) (s : List Access) → Known F n s → Occurs i s → F i ≡ Fate.unopened → ⊥
known_occurs F n i [] k h e = h
known_occurs F n i (a ∷ s) k (inl q) e = k.0.0 (ap F q ∙ e)
known_occurs F n i (a ∷ s) k (inr q) e = known_occurs F n i s k.1 q e

pub known_did : (F : ℕ → Fate) (n : ℕ) (w : Bool) (x i : ℕ) (s : List Access) → Known F n s → Did w x i s → x < n
known_did F n w x i [] k h = absurd h
known_did F n w x i (a ∷ s) k (inl q) = subst (λ (z : ℕ). z < n) q.1 k.0.1
known_did F n w x i (a ∷ s) k (inr q) = known_did F n w x i s k.1 q

known_map : (F G : ℕ → Fate) (n : ℕ) (s : List Access) → ((i : ℕ) → (F i ≡ Fate.unopened → ⊥) → G i ≡ Fate.unopened → ⊥)
    → Known F n s → Known G n s
known_map F G n [] f k = tt
known_map F G n (a ∷ s) f k = ((f a.job k.0.0, k.0.1), known_map F G n s f k.1)

pub known_more : (F : ℕ → Fate) (n : ℕ) (s : List Access) (a : Access) → (F a.job ≡ Fate.unopened → ⊥) → a.item < n
    → Known F n s → Known F n (s ++ a ∷ [])
known_more F n [] a o l k = ((o, l), tt)
known_more F n (b ∷ s) a o l k = (k.0, known_more F n s a o l k.1)

-- TWO FATES

pub unopened_running : Fate.unopened ≡ Fate.running → ⊥
unopened_running e = let z : ◌≡◌ {A = ℕ} 0 1 = cc in omega arith

pub unopened_committed : Fate.unopened ≡ Fate.committed → ⊥
unopened_committed e = let z : ◌≡◌ {A = ℕ} 0 1 = cc in omega arith

pub unopened_aborted : Fate.unopened ≡ Fate.aborted → ⊥
unopened_aborted e = let z : ◌≡◌ {A = ℕ} 0 1 = cc in omega arith

pub running_committed : Fate.running ≡ Fate.committed → ⊥
running_committed e = let z : ◌≡◌ {A = ℕ} 0 1 = cc in omega arith

pub running_aborted : Fate.running ≡ Fate.aborted → ⊥
running_aborted e = let z : ◌≡◌ {A = ℕ} 0 1 = cc in omega arith

-- WHAT BECAME OF ONE JOB CHANGES

pub put_at_same : {A : Type 0} (n : ℕ) (a : A) (f : ℕ → A) (m : ℕ) → m ≡ n → put_at n a f m ≡ a
put_at_same n a f m e = rw (eq-eqb m n e)

pub put_at_other : {A : Type 0} (n : ℕ) (a : A) (f : ℕ → A) (m : ℕ) → (m ≡ n → ⊥) → put_at n a f m ≡ f m
put_at_other n a f m d = rw (ne_eqb m n d)

abbrev pub becomes : (ℕ → Fate) → ℕ → Fate → ℕ → Fate
becomes F n f j = cond (eqb n j) f (F j)

module _ (F : ℕ → Fate) (n : ℕ) (f : Fate) where
  pub becomes_new : (j : ℕ) → j ≡ n → becomes F n f j ≡ f
  becomes_new j e = rw (eq-eqb n j (sym e))

  pub becomes_old : (j : ℕ) → (j ≡ n → ⊥) → becomes F n f j ≡ F j
  becomes_old j d = rw (ne_eqb n j (λ e. d (sym e)))

  -- a job of another fate keeps it
  pub becomes_keeps : (g h : Fate) → F n ≡ g → (g ≡ h → ⊥) → (j : ℕ) → F j ≡ h → becomes F n f j ≡ h
  becomes_keeps g h p d j q = becomes_old j (λ e. d (sym p ∙ ap F (sym e) ∙ q)) ∙ q

  -- who counts now counted before, if the fate was open
  pub counts_before : (g : Fate) → F n ≡ g → (g ≡ Fate.committed → ⊥) → (g ≡ Fate.aborted → ⊥)
      → (k : ℕ → Bool) → Counts k (becomes F n f) → Counts k F
  counts_before g p c a k r =
      record {
        counted = λ j q. r.counted j (becomes_keeps g Fate.committed p c j q);
        left_out = λ j q. r.left_out j (becomes_keeps g Fate.aborted p a j q);
      }

  pub known_becomes : (f ≡ Fate.unopened → ⊥) → (m : ℕ) (s : List Access) → Known F m s → Known (becomes F n f) m s
  known_becomes d m s k = known_map F (becomes F n f) m s opened_still k
    where
      opened_still : (i : ℕ) → (F i ≡ Fate.unopened → ⊥) → becomes F n f i ≡ Fate.unopened → ⊥
      opened_still i o q =
          elim (cases_eq i n)
          [ inl e ↦ d (sym (becomes_new i e) ∙ q) | inr e ↦ o (sym (becomes_old i e) ∙ q) ]

  -- the status changes with the fate
  pub statuses_become : (R : List ℕ) (status : ℕ → Status) (σ : Status) → ((j : ℕ) → status j ≡ shown (F j) (mem j R))
      → σ ≡ shown f (mem n R) → (j : ℕ) → put_at n σ status j ≡ shown (becomes F n f j) (mem j R)
  statuses_become R status σ before now j =
      elim (cases_eq j n) [
        | inl e ↦
            put_at_same n σ status j e ∙ now
            ∙ sym (ap (λ (i : ℕ). shown f (mem i R)) e)
            ∙ sym (ap (λ (g : Fate). shown g (mem j R)) (becomes_new j e))
        | inr d ↦
            put_at_other n σ status j d ∙ before j
            ∙ sym (ap (λ (g : Fate). shown g (mem j R)) (becomes_old j d))
      ]
