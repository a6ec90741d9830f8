-- Replaying reads and writes with the answers that they had: what does not conflict changes places, so
-- every serial order replays if the order of time does.
use Rattle.std.proofs.Common.{◌≡◌, ℕ, Bool, true, false, cond, not, ◌||◌, T, eqb, List, [], ◌∷◌, ◌++◌, map, get_or, set, sym, refl, ap, ◌∙◌, subst, ap₂, inl, inr}
use Rattle.std.proofs.lemmas.Bool.{cases_Bool, cases_eq, eq-eqb, ne_eqb}
use Rattle.std.proofs.lemmas.List.{get_or-set_other, set_comm}
use Rattle.graph.specs.Paths.{◌∈◌, Distinct, Forward}
use Rattle.history.specs.Conflicts.{Access, Conflict, Meets, Leads}
use Rattle.history.specs.Serial.{request, serial, of_job, in_order, values_read}
use Rattle.history.proofs.Lists.{forward_weaken}

-- what an access does to the contents
abbrev pub does : Access → List ℕ → List ℕ
does a c = cond a.writes (set c a.item a.value) c

-- a read had the value that it would have here
abbrev pub Fits : Access → List ℕ → Type 0
Fits a c = a.writes ≡ false → a.value ≡ get_or c a.item 0

-- the accesses, done one after another with the answers that they had, lead from contents to contents
abbrev pub Replay : List ℕ → List Access → List ℕ → Type 0
Replay c [] d = c ≡ d
Replay c (a ∷ s) d = Fits a c × Replay (does a c) s d

pub replay_split : (s t : List Access) (c d : List ℕ) → Replay c (s ++ t) d
    → (m : List ℕ) × Replay c s m × Replay m t d
replay_split [] t c d r = (c, refl, r)
replay_split (a ∷ s) t c d r =
    let k = replay_split s t (does a c) d r.1 in
    (k.0, (r.0, k.1), k.2)

pub replay_join : (s t : List Access) (c m d : List ℕ) → Replay c s m → Replay m t d → Replay c (s ++ t) d
replay_join [] t c m d p q = subst (λ (z : List ℕ). Replay z t d) (sym p) q
replay_join (a ∷ s) t c m d p q = (p.0, replay_join s t (does a c) m d p.1 q)

-- two neighbours that do not conflict
module _ (x y v w : ℕ) (c : List ℕ) where
  swap_writes : (wa wb : Bool) → (x ≡ y → T (wa || wb) → ⊥)
      → cond wb (set (cond wa (set c x v) c) y w) (cond wa (set c x v) c)
      ≡ cond wa (set (cond wb (set c y w) c) x v) (cond wb (set c y w) c)
  swap_writes true true n = set_comm c x y v w (λ e. n e tt)
  swap_writes true false n = refl
  swap_writes false true n = refl
  swap_writes false false n = refl

  -- a read of y after the other access reads the same before it
  swap_read : (wa wb : Bool) → (x ≡ y → T (wa || wb) → ⊥) → wb ≡ false
      → get_or (cond wa (set c x v) c) y 0 ≡ get_or c y 0
  swap_read true wb n e = get_or-set_other c x y v 0 (λ k. n (sym k) tt)
  swap_read false wb n e = refl

  swap_read_back : (wa wb : Bool) → (x ≡ y → T (wa || wb) → ⊥) → wa ≡ false
      → get_or (cond wb (set c y w) c) x 0 ≡ get_or c x 0
  swap_read_back wa true n e = get_or-set_other c y x w 0 (λ k. n k (or_right_T wa))
    where
      or_right_T : (b : Bool) → T (b || true)
      or_right_T true = tt
      or_right_T false = tt
  swap_read_back wa false n e = refl

pub replay_swap : (a b : Access) (s : List Access) (c d : List ℕ)
    → (a.job ≡ b.job → ⊥) → (Conflict a b → ⊥) → Replay c (a ∷ b ∷ s) d → Replay c (b ∷ a ∷ s) d
replay_swap a b s c d apart calm (fa, (fb, r)) = (
  (λ e. fb e ∙ swap_read a.item b.item a.value b.value c a.writes b.writes free e),
  (
    (λ e. fa e ∙ sym (swap_read_back a.item b.item a.value b.value c a.writes b.writes free e)),
    subst (λ (z : List ℕ). Replay z s d)
        (swap_writes a.item b.item a.value b.value c a.writes b.writes free) r,
  ),
)
  where
    free : a.item ≡ b.item → T (a.writes || b.writes) → ⊥
    free e t = calm (apart, e, t)

-- the accesses of one job, and those of the others
pub of_job_yes : (j : ℕ) (a : Access) (s : List Access) → a.job ≡ j → of_job j (a ∷ s) ≡ a ∷ of_job j s
of_job_yes j a s e = rw (eq-eqb a.job j e)

pub of_job_no : (j : ℕ) (a : Access) (s : List Access) → (a.job ≡ j → ⊥) → of_job j (a ∷ s) ≡ of_job j s
of_job_no j a s n = rw (ne_eqb a.job j n)

-- the accesses of the jobs that pass a test
unfoldable pub kept : (ℕ → Bool) → List Access → List Access
kept k [] = []
kept k (a ∷ s) = cond (k a.job) (a ∷ kept k s) (kept k s)

pub kept_yes : (k : ℕ → Bool) (a : Access) (s : List Access) → k a.job ≡ true → kept k (a ∷ s) ≡ a ∷ kept k s
unfolding kept
kept_yes k a s e = rw e

pub kept_no : (k : ℕ → Bool) (a : Access) (s : List Access) → k a.job ≡ false → kept k (a ∷ s) ≡ kept k s
unfolding kept
kept_no k a s e = rw e

abbrev others : ℕ → List Access → List Access
others j s = kept (λ i. not (eqb i j)) s

others_yes : (j : ℕ) (a : Access) (s : List Access) → (a.job ≡ j → ⊥) → others j (a ∷ s) ≡ a ∷ others j s
others_yes j a s n = kept_yes (λ i. not (eqb i j)) a s (ap not (ne_eqb a.job j n))

others_no : (j : ℕ) (a : Access) (s : List Access) → a.job ≡ j → others j (a ∷ s) ≡ others j s
others_no j a s e = kept_no (λ i. not (eqb i j)) a s (ap not (eq-eqb a.job j e))

-- an access goes behind those of one other job, none of which it conflicts with
pub replay_past : (a : Access) (j : ℕ) (t u : List Access) (c d : List ℕ)
    → (a.job ≡ j → ⊥) → (Meets a j t → ⊥)
    → Replay c (a ∷ of_job j t ++ u) d → Replay c (of_job j t ++ a ∷ u) d
replay_past a j [] u c d apart calm r = r
replay_past a j (b ∷ t) u c d apart calm r =
    elim (cases_eq b.job j) [
      | inl e ↦
          rw (of_job_yes j b t e)
          (let q : Replay c (a ∷ b ∷ of_job j t ++ u) d = rw (of_job_yes j b t e) at r in
          let w = replay_swap a b (of_job j t ++ u) c d (λ k. apart (k ∙ e)) (λ k. calm (inl (e, k))) q in
          (w.0, replay_past a j t u (does b c) d apart (λ k. calm (inr k)) w.1))
      | inr n ↦
          rw (of_job_no j b t n)
          (let q : Replay c (a ∷ of_job j t ++ u) d = rw (of_job_no j b t n) at r in
          replay_past a j t u c d apart (λ k. calm (inr k)) q)
    ]

-- where no edge leads into a job, all its accesses go to the front
pub replay_front : (j : ℕ) (s : List Access) (c d : List ℕ) → ((i : ℕ) → Leads s i j → ⊥)
    → Replay c s d → Replay c (of_job j s ++ others j s) d
unfolding kept
replay_front j [] c d first r = r
replay_front j (a ∷ s) c d first r =
    let k = replay_front j s (does a c) d (λ i h. first i (inr h)) r.1 in
    elim (cases_eq a.job j) [
      | inl e ↦ rw (of_job_yes j a s e, others_no j a s e) (r.0, k)
      | inr n ↦
          rw (of_job_no j a s n, others_yes j a s n)
          (replay_past a j s (others j s) c d n (λ h. first a.job (inl (refl, h))) (r.0, k))
    ]

-- the job of each access stands in the list
abbrev pub ByJobs : List ℕ → List Access → Type 0
ByJobs js [] = Unit {0}
ByJobs js (a ∷ s) = (a.job ∈ js) × ByJobs js s

-- what is kept leads nowhere new
pub meets_kept : (k : ℕ → Bool) (a : Access) (j : ℕ) (s : List Access) → Meets a j (kept k s) → Meets a j s
unfolding kept
meets_kept k a j [] h = h
meets_kept k a j (b ∷ s) h =
    elim (cases_Bool (k b.job)) [
      | inl e ↦
          let g : Meets a j (b ∷ kept k s) = rw (kept_yes k b s e) at h in
          elim g [ inl q ↦ inl q | inr q ↦ inr (meets_kept k a j s q) ]
      | inr e ↦ let g : Meets a j (kept k s) = rw (kept_no k b s e) at h in inr (meets_kept k a j s g)
    ]

pub leads_kept : (k : ℕ → Bool) (s : List Access) (i j : ℕ) → Leads (kept k s) i j → Leads s i j
unfolding kept
leads_kept k [] i j h = h
leads_kept k (b ∷ s) i j h =
    elim (cases_Bool (k b.job)) [
      | inl e ↦
          let g : Leads (b ∷ kept k s) i j = rw (kept_yes k b s e) at h in
          elim g [ inl q ↦ inl (q.0, meets_kept k b j s q.1) | inr q ↦ inr (leads_kept k s i j q) ]
      | inr e ↦ let g : Leads (kept k s) i j = rw (kept_no k b s e) at h in inr (leads_kept k s i j g)
    ]

-- an edge leads from a job that accessed something
pub leads_from : (js : List ℕ) (s : List Access) (i j : ℕ) → ByJobs js s → Leads s i j → i ∈ js
leads_from js [] i j b h = absurd h
leads_from js (a ∷ s) i j b (inl q) = subst (λ (z : ℕ). z ∈ js) q.0 b.0
leads_from js (a ∷ s) i j b (inr q) = leads_from js s i j b.1 q

-- no edge leads from a job to itself
pub meets_apart : (a : Access) (j : ℕ) (s : List Access) → Meets a j s → a.job ≡ j → ⊥
meets_apart a j [] h e = h
meets_apart a j (b ∷ s) (inl q) e = q.1.0 (e ∙ sym q.0)
meets_apart a j (b ∷ s) (inr q) e = meets_apart a j s q e

pub leads_apart : (s : List Access) (i j : ℕ) → Leads s i j → i ≡ j → ⊥
leads_apart [] i j h e = h
leads_apart (a ∷ s) i j (inl q) e = meets_apart a j s q.1 (q.0 ∙ e)
leads_apart (a ∷ s) i j (inr q) e = leads_apart s i j q e

by_others : (j : ℕ) (js : List ℕ) (s : List Access) → ByJobs (j ∷ js) s → ByJobs js (others j s)
unfolding kept
by_others j js [] b = tt
by_others j js (a ∷ s) (b, bs) =
    elim (cases_eq a.job j) [
      | inl e ↦ rw (others_no j a s e) (by_others j js s bs)
      | inr n ↦ rw (others_yes j a s n) (there n b, by_others j js s bs)
    ]
  where
    there : (a.job ≡ j → ⊥) → a.job ∈ (j ∷ js) → a.job ∈ js
    there n (inl e) = absurd (n e)
    there n (inr h) = h

-- the accesses of a job are not touched by leaving others out
of_kept : (k : ℕ → Bool) (j : ℕ) (s : List Access) → k j ≡ true → of_job j (kept k s) ≡ of_job j s
unfolding kept
of_kept k j [] e = refl
of_kept k j (a ∷ s) e =
    elim (cases_eq a.job j) [
      | inl q ↦
          rw (kept_yes k a s (ap k q ∙ e), of_job_yes j a (kept k s) q, of_job_yes j a s q)
          (ap (λ (t : List Access). a ∷ t) (of_kept k j s e))
      | inr n ↦
          elim (cases_Bool (k a.job)) [
            | inl q ↦ rw (kept_yes k a s q, of_job_no j a (kept k s) n, of_job_no j a s n) (of_kept k j s e)
            | inr q ↦ rw (kept_no k a s q, of_job_no j a s n) (of_kept k j s e)
          ]
    ]

pub in_order_kept : (k : ℕ → Bool) (order : List ℕ) (s : List Access) → ((j : ℕ) → j ∈ order → k j ≡ true)
    → in_order order (kept k s) ≡ in_order order s
in_order_kept k [] s h = refl
in_order_kept k (j ∷ order) s h =
    ap₂ (λ (t u : List Access). t ++ u) (of_kept k j s (h j (inl refl)))
    (in_order_kept k order s (λ i q. h i (inr q)))

-- every order in which no edge leads back replays, if the accesses do as they stand
pub replay_order : (order : List ℕ) (s : List Access) (c d : List ℕ) → Distinct order → ByJobs order s
    → Forward (Leads s) order → Replay c s d → Replay c (in_order order s) d
replay_order [] [] c d dis by fwd r = r
replay_order [] (a ∷ s) c d dis by fwd r = absurd by.0
replay_order (j ∷ order) s c d dis by fwd r =
    let w = replay_front j s c d into r in
    let p = replay_split (of_job j s) (others j s) c d w in
    let q =
    replay_order order (others j s) p.0 d dis.1 (by_others j order s by)
    (forward_weaken (Leads s) (Leads (others j s)) order
    (λ x y h k. leads_kept (λ i. not (eqb i j)) s y x) fwd.1) p.2 in
    let e : in_order order (others j s) ≡ in_order order s =
    in_order_kept (λ i. not (eqb i j)) order s
    (λ i h. ap not (ne_eqb i j (λ k. dis.0 (subst (λ (z : ℕ). z ∈ order) k h)))) in
    replay_join (of_job j s) (in_order order s) c p.0 d p.1
    (subst (λ (z : List Access). Replay p.0 z d) e q)
  where
    into : (i : ℕ) → Leads s i j → ⊥
    into i h = go (leads_from (j ∷ order) s i j by h)
      where
        go : i ∈ (j ∷ order) → ⊥
        go (inl e) = leads_apart s i j h e
        go (inr k) = fwd.0 i k h

-- accesses that replay are what a serial run of their requests comes to
pub replay_serial : (s : List Access) (c d : List ℕ) → Replay c s d
    → serial c (map request s) ≡ record { answers = values_read s; contents = d }
replay_serial [] c d r = λ i. record { answers = []; contents = r i }
replay_serial (a ∷ s) c d r =
    let w = replay_serial s (does a c) d r.1 in
    elim (cases_Bool a.writes) [ inl e ↦ written e w | inr e ↦ was_read e w ]
  where
    written : a.writes ≡ true
        → serial (does a c) (map request s) ≡ record { answers = values_read s; contents = d }
        → serial c (map request (a ∷ s)) ≡ record { answers = values_read (a ∷ s); contents = d }
    written e w = rw e (rw e at w)

    was_read : a.writes ≡ false
        → serial (does a c) (map request s) ≡ record { answers = values_read s; contents = d }
        → serial c (map request (a ∷ s)) ≡ record { answers = values_read (a ∷ s); contents = d }
    was_read e w =
        rw e
        (let v : serial c (map request s) ≡ record { answers = values_read s; contents = d } = rw e at w in
        λ i. record { answers = sym (r.0 e) i ∷ (v i).answers; contents = (v i).contents })
