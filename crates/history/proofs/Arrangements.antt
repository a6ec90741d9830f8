-- A serial arrangement that is conflict equivalent rules out a cycle, and a serial order gives one.
-- Assumes nothing.
use Rattle.std.proofs.Common.{◌≡◌, ℕ, suc, ◌<◌, true, false, cond, eqb, List, [], ◌∷◌, get_or, sym, refl, ap, ◌∙◌, subst, subst₂, inl, inr, ⊎_elim, arith}
use Rattle.std.proofs.lemmas.Bool.{cases_eq, eq-eqb, ne_eqb}
use Rattle.trace.specs.declared.act.Act.{Act}
use Rattle.trace.specs.declared.act.Act.TheVariants.{Open, Read, Write, Commit, Abort, Peek, Retire}
use Rattle.graph.specs.Paths.{Path, edge, ◌then◌, Cycle, ◌∈◌}
use Rattle.history.specs.Acts.{Keep, Kept}
use Rattle.history.specs.Conflicts.{Access, accesses, Conflict, Meets, Leads, Edge}
use Rattle.history.specs.Arrangements.{Is, Stands, Precedes, Equivalent, SerialArrangement}

abbrev reading : ℕ → ℕ → ℕ → Access
reading j x v = record { job = j; item = x; writes = false; value = v }

abbrev writing : ℕ → ℕ → ℕ → Access
writing j x v = record { job = j; item = x; writes = true; value = v }

-- the job of a read or write
abbrev owner : Act → ℕ
owner (Open j) = 0
owner (Read j x v) = j
owner (Write j x v) = j
owner (Commit j) = 0
owner (Abort j) = 0
owner (Peek x v) = 0
owner Retire = 0

is_owner : (act : Act) (a : Access) → Is act a → owner act ≡ a.job
is_owner (Open j) a h = absurd h
is_owner (Read j x v) a h = sym (ap (λ (b : Access). b.job) h)
is_owner (Write j x v) a h = sym (ap (λ (b : Access). b.job) h)
is_owner (Commit j) a h = absurd h
is_owner (Abort j) a h = absurd h
is_owner (Peek x v) a h = absurd h
is_owner Retire a h = absurd h

-- how many positions of the arrangement stand before the first of job j
rank : (ℕ → ℕ) → ℕ → List ℕ → ℕ
rank job j [] = 0
rank job j (p ∷ ps) = cond (eqb (job p) j) 0 (suc (rank job j ps))

precedes_first : (p q : ℕ) (ps : List ℕ) → Precedes p q ps → p ∈ ps
precedes_first p q [] h = h
precedes_first p q (x ∷ ps) (inl h) = inl h.0
precedes_first p q (x ∷ ps) (inr h) = inr (precedes_first p q ps h)

-- nothing of another job stands between two of one job
abbrev Together : (ℕ → ℕ) → List ℕ → Type 0
Together job ps = (p q r : ℕ) → Precedes p q ps → Precedes q r ps → job p ≡ job r → job q ≡ job p

rank_at : (job : ℕ → ℕ) (j p : ℕ) (ps : List ℕ) → job p ≡ j → rank job j (p ∷ ps) ≡ 0
unfolding rank
rank_at job j p ps e = rw (eq-eqb (job p) j e)

rank_past : (job : ℕ → ℕ) (j p : ℕ) (ps : List ℕ) → (job p ≡ j → ⊥) → rank job j (p ∷ ps) ≡ suc (rank job j ps)
unfolding rank
rank_past job j p ps n = rw (ne_eqb (job p) j n)

-- where jobs stand together, a job of which something precedes something of another comes first
rank_rises : (job : ℕ → ℕ) (p q : ℕ) (ps : List ℕ) → Together job ps → Precedes p q ps → (job p ≡ job q → ⊥) → rank job (job p) ps < rank job (job q) ps
rank_rises job p q [] together h apart = absurd h
rank_rises job p q (x ∷ ps) together (inl here) apart =
    let first : job x ≡ job p = ap job (sym here.0) in
    let a = rank_at job (job p) x ps first in
    let b = rank_past job (job q) x ps (λ e. apart (sym first ∙ e)) in
    omega arith
rank_rises job p q (x ∷ ps) together (inr after) apart =
    let below = rank_rises job p q ps (λ u v w f g. together u v w (inr f) (inr g)) after apart in
    let between : job x ≡ job q → job p ≡ job x = together x p q (inl (refl, precedes_first p q ps after)) (inr after) in
    let b = rank_past job (job q) x ps (λ e. apart (between e ∙ e)) in
    ⊎_elim
    (λ first. let a = rank_at job (job p) x ps first in omega arith)
    (λ other. let a = rank_past job (job p) x ps other in omega arith)
    (cases_eq (job x) (job p))

job_at : List Act → ℕ → ℕ
job_at H p = owner (get_or H p Retire)

-- from the graph's side: what an edge says of positions
is_job : (H : List Act) (p : ℕ) (a : Access) → Is (get_or H p Retire) a → job_at H p ≡ a.job
unfolding job_at
is_job H p a h = is_owner (get_or H p Retire) a h

-- the access b stands at a position of the acts
abbrev Placed : List Act → (Access → Type 0) → Type 0
Placed H P = (q : ℕ) × (b : Access) × Is (get_or H q Retire) b × P b

placed_later : (act : Act) (H : List Act) (P : Access → Type 0) → Placed H P → Placed (act ∷ H) P
placed_later act H P (q, b, is, h) = (suc q, b, is, h)

meets_placed : (a : Access) (j : ℕ) (H : List Act) → Meets a j (accesses H) → Placed H (λ b. (b.job ≡ j) × Conflict a b)
meets_placed a j [] h = absurd h
meets_placed a j (Open i ∷ H) h = placed_later (Open i) H _ (meets_placed a j H h)
meets_placed a j (Read i x v ∷ H) (inl h) = (0, _, refl, h)
meets_placed a j (Read i x v ∷ H) (inr h) = placed_later (Read i x v) H _ (meets_placed a j H h)
meets_placed a j (Write i x v ∷ H) (inl h) = (0, _, refl, h)
meets_placed a j (Write i x v ∷ H) (inr h) = placed_later (Write i x v) H _ (meets_placed a j H h)
meets_placed a j (Commit i ∷ H) h = placed_later (Commit i) H _ (meets_placed a j H h)
meets_placed a j (Abort i ∷ H) h = placed_later (Abort i) H _ (meets_placed a j H h)
meets_placed a j (Peek x v ∷ H) h = placed_later (Peek x v) H _ (meets_placed a j H h)
meets_placed a j (Retire ∷ H) h = placed_later Retire H _ (meets_placed a j H h)

-- an edge comes from two positions, the first of job i and the second of job j, in conflict
pub record Pair (H : List Act) (i j : ℕ) : Type 0 where
  pub p : ℕ
  pub q : ℕ
  pub a : Access
  pub b : Access
  pub rising : p < q
  pub first : Is (get_or H p Retire) a
  pub second : Is (get_or H q Retire) b
  pub from : a.job ≡ i
  pub to : b.job ≡ j
  pub conflict : Conflict a b

pair_later : (act : Act) (H : List Act) (i j : ℕ) → Pair H i j → Pair (act ∷ H) i j
pair_later act H i j f = record {
  p = suc f.p;
  q = suc f.q;
  a = f.a;
  b = f.b;
  rising = omega (arith, f.rising);
  first = f.first;
  second = f.second;
  from = f.from;
  to = f.to;
  conflict = f.conflict;
}

pair_here : (act : Act) (a : Access) (H : List Act) (i j : ℕ) → Is act a → a.job ≡ i → Placed H (λ b. (b.job ≡ j) × Conflict a b) → Pair (act ∷ H) i j
pair_here act a H i j is from (q, b, at-q, h) = record {
  p = 0;
  q = suc q;
  a = a;
  b = b;
  rising = omega arith;
  first = is;
  second = at-q;
  from = from;
  to = h.0;
  conflict = h.1;
}

leads_pair : (H : List Act) (i j : ℕ) → Leads (accesses H) i j → Pair H i j
leads_pair [] i j h = absurd h
leads_pair (Open k ∷ H) i j h = pair_later (Open k) H i j (leads_pair H i j h)
leads_pair (Read k x v ∷ H) i j (inl h) = pair_here (Read k x v) (reading k x v) H i j refl h.0 (meets_placed (reading k x v) j H h.1)
leads_pair (Read k x v ∷ H) i j (inr h) = pair_later (Read k x v) H i j (leads_pair H i j h)
leads_pair (Write k x v ∷ H) i j (inl h) = pair_here (Write k x v) (writing k x v) H i j refl h.0 (meets_placed (writing k x v) j H h.1)
leads_pair (Write k x v ∷ H) i j (inr h) = pair_later (Write k x v) H i j (leads_pair H i j h)
leads_pair (Commit k ∷ H) i j h = pair_later (Commit k) H i j (leads_pair H i j h)
leads_pair (Abort k ∷ H) i j h = pair_later (Abort k) H i j (leads_pair H i j h)
leads_pair (Peek x v ∷ H) i j h = pair_later (Peek x v) H i j (leads_pair H i j h)
leads_pair (Retire ∷ H) i j h = pair_later Retire H i j (leads_pair H i j h)

module _ (keep : Keep) (H : List Act) (ps : List ℕ) (same : Equivalent keep H ps) (serial : SerialArrangement H ps) where
  precedes_second : (p q : ℕ) (xs : List ℕ) → Precedes p q xs → q ∈ xs
  precedes_second p q [] h = h
  precedes_second p q (x ∷ xs) (inl h) = inr h.1
  precedes_second p q (x ∷ xs) (inr h) = inr (precedes_second p q xs h)

  together : Together (job_at H) ps
  together p q r f g e =
      let a = same.only p (precedes_first p q ps f) in
      let b = same.only q (precedes_first q r ps g) in
      let c = same.only r (precedes_second q r ps g) in
      let ja = is_job H p a.0 a.1.0 in
      let jb = is_job H q b.0 b.1.0 in
      let jc = is_job H r c.0 c.1.0 in
      jb ∙ serial p q r a.0 b.0 c.0 f g a.1.0 b.1.0 c.1.0 (sym ja ∙ e ∙ jc) ∙ sym ja

  edge_rises : (i j : ℕ) → Edge keep H i j → rank (job_at H) i ps < rank (job_at H) j ps
  edge_rises i j (kept-i, kept-j, leads) =
      let f = leads_pair H i j leads in
      let stands_p : Stands keep H f.p f.a = (f.first, subst (Kept keep H) (sym f.from) kept-i) in
      let stands_q : Stands keep H f.q f.b = (f.second, subst (Kept keep H) (sym f.to) kept-j) in
      let before = same.keeps f.p f.q f.a f.b f.rising stands_p stands_q (inr f.conflict) in
      let ip = is_job H f.p f.a f.first ∙ f.from in
      let jq = is_job H f.q f.b f.second ∙ f.to in
      let apart : job_at H f.p ≡ job_at H f.q → ⊥ = λ e. f.conflict.0 (f.from ∙ sym ip ∙ e ∙ jq ∙ sym f.to) in
      subst₂ (λ u v. rank (job_at H) u ps < rank (job_at H) v ps) ip jq (rank_rises (job_at H) f.p f.q ps together before apart)

  path_rises : {i j : ℕ} → Path (Edge keep H) i j → rank (job_at H) i ps < rank (job_at H) j ps
  path_rises (edge {i = i} {j = j} e) = edge_rises i j e
  path_rises (◌then◌ {i = i} {j = j} e path) = let a = edge_rises i j e in let b = path_rises path in omega arith

  pub arrangement_has_no_cycle : Cycle (Edge keep H) → ⊥
  arrangement_has_no_cycle (i, path) = let a = path_rises path in omega arith
