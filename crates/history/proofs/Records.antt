-- A record with one act more: what becomes of a job, the accesses, and the conflicts that the last
-- access draws.
use Rattle.std.proofs.Common.{◌≡◌, ℕ, Bool, true, false, ◌||◌, T, ◌⊎◌, List, [], ◌∷◌, ◌++◌, sym, refl, ap, ◌∙◌, inl, inr}
use Rattle.std.proofs.lemmas.Bool.{cases_Bool}
use Rattle.trace.specs.declared.act.Act.{Act}
use Rattle.trace.specs.declared.act.Act.TheVariants.{Open, Read, Write, Commit, Abort, Peek, Retire}
use Rattle.history.specs.Acts.{Fate, after, fate_from, fate}
use Rattle.history.specs.Conflicts.{Access, accesses, Conflict, Meets, Leads}
use Rattle.history.specs.Promises.{Wrote}
use Rattle.history.proofs.Lists.{T_true, true_T}
use Rattle.history.proofs.Replay.{kept, kept_yes, kept_no}

fate_from_more : (f : Fate) (j : ℕ) (H : List Act) (a : Act)
    → fate_from f j (H ++ a ∷ []) ≡ after a j (fate_from f j H)
fate_from_more f j [] a = refl
fate_from_more f j (b ∷ H) a = fate_from_more (after b j f) j H a

pub fate_more : (j : ℕ) (H : List Act) (a : Act) → fate j (H ++ a ∷ []) ≡ after a j (fate j H)
fate_more j H a = fate_from_more Fate.unopened j H a

pub accesses_join : (H K : List Act) → accesses (H ++ K) ≡ accesses H ++ accesses K
accesses_join [] K = refl
accesses_join (Open j ∷ H) K = accesses_join H K
accesses_join (Read j x v ∷ H) K =
    ap (λ (s : List Access). record { job = j; item = x; writes = false; value = v } ∷ s) (accesses_join H K)
accesses_join (Write j x v ∷ H) K =
    ap (λ (s : List Access). record { job = j; item = x; writes = true; value = v } ∷ s) (accesses_join H K)
accesses_join (Commit j ∷ H) K = accesses_join H K
accesses_join (Abort j ∷ H) K = accesses_join H K
accesses_join (Peek x v ∷ H) K = accesses_join H K
accesses_join (Retire ∷ H) K = accesses_join H K

-- job i accessed something
abbrev pub Occurs : ℕ → List Access → Type 0
Occurs i [] = ⊥
Occurs i (a ∷ s) = (a.job ≡ i) ⊎ Occurs i s

-- job i accessed item x, by a write or by a read
abbrev pub Did : Bool → ℕ → ℕ → List Access → Type 0
Did w x i [] = ⊥
Did w x i (a ∷ s) = ((a.job ≡ i) × (a.item ≡ x) × (a.writes ≡ w)) ⊎ Did w x i s

pub did_occurs : (w : Bool) (x i : ℕ) (s : List Access) → Did w x i s → Occurs i s
did_occurs w x i [] h = h
did_occurs w x i (a ∷ s) (inl q) = inl q.0
did_occurs w x i (a ∷ s) (inr q) = inr (did_occurs w x i s q)

pub did_wrote : (x i : ℕ) (s : List Access) → Did true x i s → Wrote s i x
did_wrote x i [] h = h
did_wrote x i (a ∷ s) (inl q) = inl (q.0, q.1, true_T a.writes q.2)
did_wrote x i (a ∷ s) (inr q) = inr (did_wrote x i s q)

meets_occurs : (a : Access) (j : ℕ) (s : List Access) → Meets a j s → Occurs j s
meets_occurs a j [] h = h
meets_occurs a j (b ∷ s) (inl q) = inl q.0
meets_occurs a j (b ∷ s) (inr q) = inr (meets_occurs a j s q)

pub leads_occurs : (s : List Access) (i j : ℕ) → Leads s i j → Occurs i s × Occurs j s
leads_occurs [] i j h = absurd h
leads_occurs (a ∷ s) i j (inl q) = (inl q.0, inr (meets_occurs a j s q.1))
leads_occurs (a ∷ s) i j (inr q) = let r = leads_occurs s i j q in (inr r.0, inr r.1)

-- some access of job i conflicts with a later one
abbrev pub Met : List Access → ℕ → Access → Type 0
Met [] i a = ⊥
Met (b ∷ s) i a = ((b.job ≡ i) × Conflict b a) ⊎ Met s i a

-- one access more
module _ (a : Access) where
  meets_more : (b : Access) (j : ℕ) (s : List Access) → Meets b j (s ++ a ∷ [])
      → Meets b j s ⊎ ((a.job ≡ j) × Conflict b a)
  meets_more b j [] (inl q) = inr q
  meets_more b j [] (inr q) = absurd q
  meets_more b j (e ∷ s) (inl q) = inl (inl q)
  meets_more b j (e ∷ s) (inr q) = elim (meets_more b j s q) [ inl k ↦ inl (inr k) | inr k ↦ inr k ]

  meets_old : (b : Access) (j : ℕ) (s : List Access) → Meets b j s → Meets b j (s ++ a ∷ [])
  meets_old b j [] h = absurd h
  meets_old b j (e ∷ s) (inl q) = inl q
  meets_old b j (e ∷ s) (inr q) = inr (meets_old b j s q)

  meets_new : (b : Access) (j : ℕ) (s : List Access) → a.job ≡ j → Conflict b a → Meets b j (s ++ a ∷ [])
  meets_new b j [] e c = inl (e, c)
  meets_new b j (f ∷ s) e c = inr (meets_new b j s e c)

  pub leads_more : (s : List Access) (i j : ℕ) → Leads (s ++ a ∷ []) i j
      → Leads s i j ⊎ ((a.job ≡ j) × Met s i a)
  leads_more [] i j (inl q) = absurd q.1
  leads_more [] i j (inr q) = absurd q
  leads_more (b ∷ s) i j (inl q) =
      elim (meets_more b j s q.1) [ inl k ↦ inl (inl (q.0, k)) | inr k ↦ inr (k.0, inl (q.0, k.1)) ]
  leads_more (b ∷ s) i j (inr q) =
      elim (leads_more s i j q) [ inl k ↦ inl (inr k) | inr k ↦ inr (k.0, inr k.1) ]

  pub leads_old : (s : List Access) (i j : ℕ) → Leads s i j → Leads (s ++ a ∷ []) i j
  leads_old [] i j h = absurd h
  leads_old (b ∷ s) i j (inl q) = inl (q.0, meets_old b j s q.1)
  leads_old (b ∷ s) i j (inr q) = inr (leads_old s i j q)

  pub leads_new : (s : List Access) (i j : ℕ) → a.job ≡ j → Met s i a → Leads (s ++ a ∷ []) i j
  leads_new [] i j e h = absurd h
  leads_new (b ∷ s) i j e (inl q) = inl (q.0, meets_new b j s e q.1)
  leads_new (b ∷ s) i j e (inr q) = inr (leads_new s i j e q)

  -- the last access conflicts with the writes of other jobs to its item, and if it writes, with reads
  pub met_did : (s : List Access) (i : ℕ) → Met s i a
      → (i ≡ a.job → ⊥) × (Did true a.item i s ⊎ ((a.writes ≡ true) × Did false a.item i s))
  met_did [] i h = absurd h
  met_did (b ∷ s) i (inl (e, (n, x, t))) =
      ((λ k. n (e ∙ k)), elim (cases_Bool b.writes) [ inl w ↦ inl (inl (e, x, w)) | inr w ↦ inr (T_true a.writes (other w), inl (e, x, w)) ])
    where
      other : b.writes ≡ false → T a.writes
      other w = let u : T (false || a.writes) = rw w at t in u
  met_did (b ∷ s) i (inr q) =
      let r = met_did s i q in
      (r.0, elim r.1 [ inl k ↦ inl (inr k) | inr k ↦ inr (k.0, inr k.1) ])

  pub did_met_write : (s : List Access) (i : ℕ) → (i ≡ a.job → ⊥) → Did true a.item i s → Met s i a
  did_met_write [] i n h = h
  did_met_write (b ∷ s) i n (inl (e, x, w)) = inl (e, ((λ k. n (sym e ∙ k)), x, rw w tt))
  did_met_write (b ∷ s) i n (inr q) = inr (did_met_write s i n q)

  pub did_met_read : (s : List Access) (i : ℕ) → (i ≡ a.job → ⊥) → a.writes ≡ true → Did false a.item i s → Met s i a
  did_met_read [] i n t h = h
  did_met_read (b ∷ s) i n t (inl (e, x, w)) = inl (e, ((λ k. n (sym e ∙ k)), x, rw (w, t) tt))
  did_met_read (b ∷ s) i n t (inr q) = inr (did_met_read s i n t q)

  pub did_more : (w : Bool) (x i : ℕ) (s : List Access) → Did w x i (s ++ a ∷ [])
      → Did w x i s ⊎ ((a.job ≡ i) × (a.item ≡ x) × (a.writes ≡ w))
  did_more w x i [] (inl q) = inr q
  did_more w x i [] (inr q) = absurd q
  did_more w x i (b ∷ s) (inl q) = inl (inl q)
  did_more w x i (b ∷ s) (inr q) = elim (did_more w x i s q) [ inl k ↦ inl (inr k) | inr k ↦ inr k ]

  pub did_old : (w : Bool) (x i : ℕ) (s : List Access) → Did w x i s → Did w x i (s ++ a ∷ [])
  did_old w x i [] h = absurd h
  did_old w x i (b ∷ s) (inl q) = inl q
  did_old w x i (b ∷ s) (inr q) = inr (did_old w x i s q)

  pub did_new : (w : Bool) (x i : ℕ) (s : List Access) → a.job ≡ i → a.item ≡ x → a.writes ≡ w
      → Did w x i (s ++ a ∷ [])
  did_new w x i [] e f g = inl (e, f, g)
  did_new w x i (b ∷ s) e f g = inr (did_new w x i s e f g)

  pub kept_more_yes : (k : ℕ → Bool) (s : List Access) → k a.job ≡ true → kept k (s ++ a ∷ []) ≡ kept k s ++ a ∷ []
  unfolding kept
  kept_more_yes k [] e = rw e
  kept_more_yes k (b ∷ s) e =
      elim (cases_Bool (k b.job)) [
        | inl q ↦ rw (kept_yes k b (s ++ a ∷ []) q, kept_yes k b s q) (ap (λ (t : List Access). b ∷ t) (kept_more_yes k s e))
        | inr q ↦ rw (kept_no k b (s ++ a ∷ []) q, kept_no k b s q) (kept_more_yes k s e)
      ]

  pub kept_more_no : (k : ℕ → Bool) (s : List Access) → k a.job ≡ false → kept k (s ++ a ∷ []) ≡ kept k s
  unfolding kept
  kept_more_no k [] e = rw e
  kept_more_no k (b ∷ s) e =
      elim (cases_Bool (k b.job)) [
        | inl q ↦ rw (kept_yes k b (s ++ a ∷ []) q, kept_yes k b s q) (ap (λ (t : List Access). b ∷ t) (kept_more_no k s e))
        | inr q ↦ rw (kept_no k b (s ++ a ∷ []) q, kept_no k b s q) (kept_more_no k s e)
      ]
