-- A serial order gives a serial arrangement that is conflict equivalent: the reads and writes of each
-- job in turn, job by job. Assumes nothing.
use Rattle.std.proofs.Common.{◌≡◌, ℕ, zero, suc, ◌+◌, ◌<◌, Bool, true, false, cond, eqb, ◌⊎◌, List, [], ◌∷◌, ◌++◌, get_or, sym, refl, ap, ◌∙◌, subst, inl, inr, ⊎_elim, add-zero, zero-add, arith}
use Rattle.std.proofs.lemmas.Bool.{eq-eqb, eqb-true, cases_Bool}
use Rattle.trace.specs.declared.act.Act.{Act}
use Rattle.trace.specs.declared.act.Act.TheVariants.{Open, Read, Write, Commit, Abort, Peek, Retire}
use Rattle.graph.specs.Paths.{Relation, ◌∈◌, Distinct, Forward}
use Rattle.history.specs.Acts.{Keep, Kept}
use Rattle.history.proofs.Lists.{∈-left, ∈-right, ∈-split, distinct_join}
use Rattle.history.specs.Conflicts.{Access, accesses, Conflict, Meets, Leads, Edge, SerialOrder}
use Rattle.history.specs.Arrangements.{Is, Stands, Precedes, Ordered, Equivalent, SerialArrangement, ConflictSerializable}

-- the act is a read or write of job j
abbrev of : ℕ → Act → Bool
of j (Open i) = false
of j (Read i x v) = eqb i j
of j (Write i x v) = eqb i j
of j (Commit i) = false
of j (Abort i) = false
of j (Peek x v) = false
of j Retire = false

is_of : (act : Act) (a : Access) → Is act a → of a.job act ≡ true
is_of (Open j) a h = absurd h
is_of (Read j x v) a h = eq-eqb j a.job (sym (ap (λ (b : Access). b.job) h))
is_of (Write j x v) a h = eq-eqb j a.job (sym (ap (λ (b : Access). b.job) h))
is_of (Commit j) a h = absurd h
is_of (Abort j) a h = absurd h
is_of (Peek x v) a h = absurd h
is_of Retire a h = absurd h

no_act : false ≡ true → ⊥
no_act e = let z : ◌≡◌ {A = ℕ} 0 1 = ap (λ b. cond b 1 0) e in omega arith

of_is : (j : ℕ) (act : Act) → of j act ≡ true → (a : Access) × Is act a × (a.job ≡ j)
of_is j (Open i) h = absurd (no_act h)
of_is j (Read i x v) h = (record { job = i; item = x; writes = false; value = v }, refl, eqb-true i j h)
of_is j (Write i x v) h = (record { job = i; item = x; writes = true; value = v }, refl, eqb-true i j h)
of_is j (Commit i) h = absurd (no_act h)
of_is j (Abort i) h = absurd (no_act h)
of_is j (Peek x v) h = absurd (no_act h)
of_is j Retire h = absurd (no_act h)

-- an act is one access at most
is_one : (act : Act) (a b : Access) → Is act a → Is act b → a ≡ b
is_one (Open j) a b h k = absurd h
is_one (Read j x v) a b h k = h ∙ sym k
is_one (Write j x v) a b h k = h ∙ sym k
is_one (Commit j) a b h k = absurd h
is_one (Abort j) a b h k = absurd h
is_one (Peek x v) a b h k = absurd h
is_one Retire a b h k = absurd h

-- the positions, counted from n, of the reads and writes of job j
places : ℕ → ℕ → List Act → List ℕ
places n j [] = []
places n j (a ∷ H) = cond (of j a) (n ∷ places (suc n) j H) (places (suc n) j H)

places_here : (n j : ℕ) (a : Act) (H : List Act) → of j a ≡ true → places n j (a ∷ H) ≡ n ∷ places (suc n) j H
unfolding places
places_here n j a H e = rw e

places_past : (n j : ℕ) (a : Act) (H : List Act) → of j a ≡ false → places n j (a ∷ H) ≡ places (suc n) j H
unfolding places
places_past n j a H e = rw e

-- what is said of the places of a list of acts, by whether the first act is one of the job's
places_cases : (P : List ℕ → Type 0) (n j : ℕ) (a : Act) (H : List Act) → (of j a ≡ true → P (n ∷ places (suc n) j H)) → (of j a ≡ false → P (places (suc n) j H)) → P (places n j (a ∷ H))
places_cases P n j a H f g = ⊎_elim (λ e. subst P (sym (places_here n j a H e)) (f e)) (λ e. subst P (sym (places_past n j a H e)) (g e)) (cases_Bool (of j a))

places_in : (n j p : ℕ) (H : List Act) → of j (get_or H p Retire) ≡ true → n + p ∈ places n j H
places_in n j p [] h = absurd (no_act h)
places_in n j zero (a ∷ H) h = subst (λ l. n + 0 ∈ l) (sym (places_here n j a H h)) (inl (add-zero n))
places_in n j (suc p) (a ∷ H) h =
    let same : suc n + p ≡ n + suc p = omega arith in
    let later = subst (λ q. q ∈ places (suc n) j H) same (places_in (suc n) j p H h) in
    places_cases (λ l. n + suc p ∈ l) n j a H (λ _. inr later) (λ _. later)

-- q is a position of job j, counted from n
abbrev At : ℕ → ℕ → List Act → ℕ → Type 0
At n j H q = (p : ℕ) × (q ≡ n + p) × (of j (get_or H p Retire) ≡ true)

at_later : (n j q : ℕ) (a : Act) (H : List Act) → At (suc n) j H q → At n j (a ∷ H) q
at_later n j q a H (p, e, h) = (suc p, omega arith, h)

places_only : (n j q : ℕ) (H : List Act) → q ∈ places n j H → At n j H q
unfolding places
places_only n j q [] = λ h. absurd h
places_only n j q (a ∷ H) =
    let later : q ∈ places (suc n) j H → At n j (a ∷ H) q = λ m. at_later n j q a H (places_only (suc n) j q H m) in
    places_cases (λ l. q ∈ l → At n j (a ∷ H) q) n j a H
    (λ is m. ⊎_elim (λ e. (0, omega arith, is)) later m)
    (λ _. later)

places_rise : (n j p q : ℕ) (H : List Act) → p < q → of j (get_or H p Retire) ≡ true → of j (get_or H q Retire) ≡ true → Precedes (n + p) (n + q) (places n j H)
places_rise n j p q [] lt f g = absurd (no_act f)
places_rise n j p zero (a ∷ H) lt f g = absurd (omega arith)
places_rise n j zero (suc q) (a ∷ H) lt f g =
    let same : suc n + q ≡ n + suc q = omega arith in
    subst (Precedes (n + 0) (n + suc q)) (sym (places_here n j a H f)) (inl (add-zero n, subst (λ r. r ∈ places (suc n) j H) same (places_in (suc n) j q H g)))
places_rise n j (suc p) (suc q) (a ∷ H) lt f g =
    let same_p : suc n + p ≡ n + suc p = omega arith in
    let same_q : suc n + q ≡ n + suc q = omega arith in
    let below : p < q = omega arith in
    let later = subst (λ r. Precedes r (n + suc q) (places (suc n) j H)) same_p (subst (λ r. Precedes (suc n + p) r (places (suc n) j H)) same_q (places_rise (suc n) j p q H below f g)) in
    places_cases (Precedes (n + suc p) (n + suc q)) n j a H (λ _. inr later) (λ _. later)

places_distinct : (n j : ℕ) (H : List Act) → Distinct (places n j H)
unfolding places
places_distinct n j [] = tt
places_distinct n j (a ∷ H) =
    let later = places_distinct (suc n) j H in
    places_cases Distinct n j a H (λ _. ((λ m. let at = places_only (suc n) j n H m in absurd (omega (arith, at.1))), later)) (λ _. later)

-- lists of positions, one after another

precedes_left : (p q : ℕ) (xs ys : List ℕ) → Precedes p q xs → Precedes p q (xs ++ ys)
precedes_left p q [] ys h = absurd h
precedes_left p q (x ∷ xs) ys (inl h) = inl (h.0, ∈-left q xs ys h.1)
precedes_left p q (x ∷ xs) ys (inr h) = inr (precedes_left p q xs ys h)

precedes_right : (p q : ℕ) (xs ys : List ℕ) → Precedes p q ys → Precedes p q (xs ++ ys)
precedes_right p q [] ys h = h
precedes_right p q (x ∷ xs) ys h = inr (precedes_right p q xs ys h)

precedes_across : (p q : ℕ) (xs ys : List ℕ) → p ∈ xs → q ∈ ys → Precedes p q (xs ++ ys)
precedes_across p q [] ys f g = absurd f
precedes_across p q (x ∷ xs) ys (inl e) g = inl (e, ∈-right q xs ys g)
precedes_across p q (x ∷ xs) ys (inr f) g = inr (precedes_across p q xs ys f g)

-- how one position comes before another in two lists, one after the other
abbrev Split : ℕ → ℕ → List ℕ → List ℕ → Type 0
Split p q xs ys = Precedes p q xs ⊎ (((p ∈ xs) × (q ∈ ys)) ⊎ Precedes p q ys)

precedes_split : (p q : ℕ) (xs ys : List ℕ) → Precedes p q (xs ++ ys) → Split p q xs ys
precedes_split p q [] ys h = inr (inr h)
precedes_split p q (x ∷ xs) ys (inl h) = ⊎_elim (λ m. inl (inl (h.0, m))) (λ m. inr (inl (inl h.0, m))) (∈-split q xs ys h.1)
precedes_split p q (x ∷ xs) ys (inr h) = ⊎_elim (λ f. inl (inr f)) (λ r. inr (⊎_elim (λ f. inl (inr f.0, f.1)) inr r)) (precedes_split p q xs ys h)

precedes_ends : (p q : ℕ) (xs : List ℕ) → Precedes p q xs → (p ∈ xs) × (q ∈ xs)
precedes_ends p q [] h = absurd h
precedes_ends p q (x ∷ xs) (inl h) = (inl h.0, inr h.1)
precedes_ends p q (x ∷ xs) (inr h) = let e = precedes_ends p q xs h in (inr e.0, inr e.1)

-- of two members of a list one comes first, unless they are one
one_first : (i j : ℕ) (xs : List ℕ) → i ∈ xs → j ∈ xs → (i ≡ j) ⊎ (Precedes i j xs ⊎ Precedes j i xs)
one_first i j [] f g = absurd f
one_first i j (x ∷ xs) (inl e) (inl d) = inl (e ∙ sym d)
one_first i j (x ∷ xs) (inl e) (inr g) = inr (inl (inl (e, g)))
one_first i j (x ∷ xs) (inr f) (inl d) = inr (inr (inl (d, f)))
one_first i j (x ∷ xs) (inr f) (inr g) = ⊎_elim inl (λ r. inr (⊎_elim (λ h. inl (inr h)) (λ h. inr (inr h)) r)) (one_first i j xs f g)

not_both_ways : (i j : ℕ) (xs : List ℕ) → Distinct xs → Precedes i j xs → Precedes j i xs → ⊥
not_both_ways i j [] d f g = f
not_both_ways i j (x ∷ xs) d (inl f) (inl g) = d.0 (subst (λ y. y ∈ xs) g.0 f.1)
not_both_ways i j (x ∷ xs) d (inl f) (inr g) = d.0 (subst (λ y. y ∈ xs) f.0 (precedes_ends j i xs g).1)
not_both_ways i j (x ∷ xs) d (inr f) (inl g) = d.0 (subst (λ y. y ∈ xs) g.0 (precedes_ends i j xs f).1)
not_both_ways i j (x ∷ xs) d (inr f) (inr g) = not_both_ways i j xs d.1 f g

forward_not_back : (E : Relation) (i j : ℕ) (xs : List ℕ) → Forward E xs → Precedes j i xs → E i j → ⊥
forward_not_back E i j [] f h e = h
forward_not_back E i j (x ∷ xs) f (inl h) e = f.0 i h.1 (subst (E i) h.0 e)
forward_not_back E i j (x ∷ xs) f (inr h) e = forward_not_back E i j xs f.1 h e

-- the reads and writes of each job of an order in turn
blocks : List Act → List ℕ → List ℕ
blocks H [] = []
blocks H (j ∷ order) = places 0 j H ++ blocks H order

blocks_in : (H : List Act) (p j : ℕ) (order : List ℕ) → j ∈ order → p ∈ places 0 j H → p ∈ blocks H order
unfolding blocks
blocks_in H p j [] m h = absurd m
blocks_in H p j (k ∷ order) (inl e) h = ∈-left p (places 0 k H) (blocks H order) (subst (λ i. p ∈ places 0 i H) e h)
blocks_in H p j (k ∷ order) (inr m) h = ∈-right p (places 0 k H) (blocks H order) (blocks_in H p j order m h)

blocks_only : (H : List Act) (p : ℕ) (order : List ℕ) → p ∈ blocks H order → (j : ℕ) × (j ∈ order) × (p ∈ places 0 j H)
unfolding blocks
blocks_only H p [] h = absurd h
blocks_only H p (k ∷ order) h =
    ⊎_elim (λ m. (k, inl refl, m)) (λ m. let r = blocks_only H p order m in (r.0, inr r.1, r.2)) (∈-split p (places 0 k H) (blocks H order) h)

blocks_within : (H : List Act) (p q j : ℕ) (order : List ℕ) → j ∈ order → Precedes p q (places 0 j H) → Precedes p q (blocks H order)
unfolding blocks
blocks_within H p q j [] m h = absurd m
blocks_within H p q j (k ∷ order) (inl e) h = precedes_left p q (places 0 k H) (blocks H order) (subst (λ i. Precedes p q (places 0 i H)) e h)
blocks_within H p q j (k ∷ order) (inr m) h = precedes_right p q (places 0 k H) (blocks H order) (blocks_within H p q j order m h)

blocks_across : (H : List Act) (p q i j : ℕ) (order : List ℕ) → Precedes i j order → p ∈ places 0 i H → q ∈ places 0 j H → Precedes p q (blocks H order)
unfolding blocks
blocks_across H p q i j [] h f g = absurd h
blocks_across H p q i j (k ∷ order) (inl h) f g = precedes_across p q (places 0 k H) (blocks H order) (subst (λ x. p ∈ places 0 x H) h.0 f) (blocks_in H q j order h.1 g)
blocks_across H p q i j (k ∷ order) (inr h) f g = precedes_right p q (places 0 k H) (blocks H order) (blocks_across H p q i j order h f g)

-- p and q come from one block, or from two in the order's order
abbrev Blocked : List Act → ℕ → ℕ → List ℕ → Type 0
Blocked H p q order = (i : ℕ) × (j : ℕ) × (p ∈ places 0 i H) × (q ∈ places 0 j H) × ((i ≡ j) ⊎ Precedes i j order)

blocks_split : (H : List Act) (p q : ℕ) (order : List ℕ) → Precedes p q (blocks H order) → Blocked H p q order
unfolding blocks
blocks_split H p q [] h = absurd h
blocks_split H p q (k ∷ order) h =
    ⊎_elim
    (λ f. let e = precedes_ends p q (places 0 k H) f in (k, k, e.0, e.1, inl refl))
    (λ r. ⊎_elim
    (λ f. let g = blocks_only H q order f.1 in (k, g.0, f.0, g.2, inr (inl (refl, g.1))))
    (λ f. let g = blocks_split H p q order f in (g.0, g.1, g.2, g.3, ⊎_elim inl (λ b. inr (inr b)) g.4))
    r)
    (precedes_split p q (places 0 k H) (blocks H order) h)

-- from positions to the conflict graph

leads_later : (act : Act) (H : List Act) (i j : ℕ) → Leads (accesses H) i j → Leads (accesses (act ∷ H)) i j
leads_later (Open k) H i j h = h
leads_later (Read k x v) H i j h = inr h
leads_later (Write k x v) H i j h = inr h
leads_later (Commit k) H i j h = h
leads_later (Abort k) H i j h = h
leads_later (Peek x v) H i j h = h
leads_later Retire H i j h = h

meets_later : (act : Act) (H : List Act) (a : Access) (j : ℕ) → Meets a j (accesses H) → Meets a j (accesses (act ∷ H))
meets_later (Open k) H a j h = h
meets_later (Read k x v) H a j h = inr h
meets_later (Write k x v) H a j h = inr h
meets_later (Commit k) H a j h = h
meets_later (Abort k) H a j h = h
meets_later (Peek x v) H a j h = h
meets_later Retire H a j h = h

accesses_first : (act : Act) (a : Access) (H : List Act) → Is act a → accesses (act ∷ H) ≡ a ∷ accesses H
accesses_first (Open k) a H h = absurd h
accesses_first (Read k x v) a H h = ap (λ b. b ∷ accesses H) (sym h)
accesses_first (Write k x v) a H h = ap (λ b. b ∷ accesses H) (sym h)
accesses_first (Commit k) a H h = absurd h
accesses_first (Abort k) a H h = absurd h
accesses_first (Peek x v) a H h = absurd h
accesses_first Retire a H h = absurd h

meets_from : (H : List Act) (q : ℕ) (a b : Access) → Is (get_or H q Retire) b → Conflict a b → Meets a b.job (accesses H)
meets_from [] q a b is c = absurd is
meets_from (act ∷ H) zero a b is c = subst (Meets a b.job) (sym (accesses_first act b H is)) (inl (refl, c))
meets_from (act ∷ H) (suc q) a b is c = meets_later act H a b.job (meets_from H q a b is c)

leads_from : (H : List Act) (p q : ℕ) (a b : Access) → p < q → Is (get_or H p Retire) a → Is (get_or H q Retire) b → Conflict a b → Leads (accesses H) a.job b.job
leads_from [] p q a b lt f g c = absurd f
leads_from (act ∷ H) p zero a b lt f g c = absurd (omega arith)
leads_from (act ∷ H) zero (suc q) a b lt f g c = subst (λ s. Leads s a.job b.job) (sym (accesses_first act a H f)) (inl (refl, meets_from H q a b g c))
leads_from (act ∷ H) (suc p) (suc q) a b lt f g c = let below : p < q = omega arith in leads_later act H a.job b.job (leads_from H p q a b below f g c)

-- what a member of a block is
place_is : (H : List Act) (p j : ℕ) → p ∈ places 0 j H → of j (get_or H p Retire) ≡ true
place_is H p j m = let at = places_only 0 j p H m in subst (λ q. of j (get_or H q Retire) ≡ true) (sym (at.1 ∙ zero-add at.0)) at.2

is_place : (H : List Act) (p : ℕ) (a : Access) → Is (get_or H p Retire) a → p ∈ places 0 a.job H
is_place H p a h = subst (λ q. q ∈ places 0 a.job H) (zero-add p) (places_in 0 a.job p H (is_of (get_or H p Retire) a h))

place_job : (H : List Act) (p j : ℕ) (a : Access) → p ∈ places 0 j H → Is (get_or H p Retire) a → a.job ≡ j
place_job H p j a m h =
    let b = of_is j (get_or H p Retire) (place_is H p j m) in
    ap (λ (c : Access). c.job) (is_one (get_or H p Retire) a b.0 h b.1) ∙ b.2

one_block : (H : List Act) (p i j : ℕ) → p ∈ places 0 i H → p ∈ places 0 j H → i ≡ j
one_block H p i j f g = let a = of_is i (get_or H p Retire) (place_is H p i f) in sym a.2 ∙ place_job H p j a.0 g a.1

blocks_distinct : (H : List Act) (order : List ℕ) → Distinct order → Distinct (blocks H order)
unfolding blocks
blocks_distinct H [] d = tt
blocks_distinct H (j ∷ order) d =
    distinct_join (places 0 j H) (blocks H order) (places_distinct 0 j H) (blocks_distinct H order d.1)
    (λ p f g. let r = blocks_only H p order g in d.0 (subst (λ i. i ∈ order) (sym (one_block H p j r.0 f r.2)) r.1))

module _ (keep : Keep) (H : List Act) (order : List ℕ) (serial : SerialOrder keep H order) where
  blocks_keep : (p q : ℕ) (a b : Access) → p < q → Stands keep H p a → Stands keep H q b → Ordered a b → Precedes p q (blocks H order)
  blocks_keep p q a b lt (f, kept-a) (g, kept_b) (inl e) =
      let rises = places_rise 0 a.job p q H lt (is_of (get_or H p Retire) a f) (subst (λ j. of j (get_or H q Retire) ≡ true) (sym e) (is_of (get_or H q Retire) b g)) in
      blocks_within H p q a.job order (serial.all a.job kept-a) (subst (λ r. Precedes p r (places 0 a.job H)) (zero-add q) (subst (λ r. Precedes r (0 + q) (places 0 a.job H)) (zero-add p) rises))
  blocks_keep p q a b lt (f, kept-a) (g, kept_b) (inr c) =
      let e : Edge keep H a.job b.job = (kept-a, kept_b, leads_from H p q a b lt f g c) in
      ⊎_elim
      (λ same. absurd (c.0 same))
      (⊎_elim
      (λ first. blocks_across H p q a.job b.job order first (is_place H p a f) (is_place H q b g))
      (λ back. absurd (forward_not_back (Edge keep H) a.job b.job order serial.forward back e)))
      (one_first a.job b.job order (serial.all a.job kept-a) (serial.all b.job kept_b))

  blocks_hold : (p : ℕ) → p ∈ blocks H order → (a : Access) × Stands keep H p a
  blocks_hold p m =
      let r = blocks_only H p order m in
      let a = of_is r.0 (get_or H p Retire) (place_is H p r.0 r.2) in
      (a.0, (a.1, subst (Kept keep H) (sym a.2) (serial.only r.0 r.1)))

  blocks_equivalent : Equivalent keep H (blocks H order)
  blocks_equivalent = record {
    distinct = blocks_distinct H order serial.distinct;
    all = λ p a s. blocks_in H p a.job order (serial.all a.job s.1) (is_place H p a s.0);
    only = blocks_hold;
    keeps = blocks_keep;
  }

  -- the jobs of two positions that come one after the other
  jobs_in_order : (p q : ℕ) (a b : Access) → Precedes p q (blocks H order) → Is (get_or H p Retire) a → Is (get_or H q Retire) b → (a.job ≡ b.job) ⊎ Precedes a.job b.job order
  jobs_in_order p q a b h f g =
      let r = blocks_split H p q order h in
      let i = place_job H p r.0 a r.2 f in
      let j = place_job H q r.1 b r.3 g in
      ⊎_elim (λ e. inl (i ∙ e ∙ sym j)) (λ before. inr (subst (λ k. Precedes a.job k order) (sym j) (subst (λ k. Precedes k r.1 order) (sym i) before))) r.4

  blocks_serial : SerialArrangement H (blocks H order)
  blocks_serial p q r a b c f g is-a is_b is_c same =
      ⊎_elim
      (λ e. sym e)
      (λ before. ⊎_elim
      (λ e. e ∙ sym same)
      (λ back. absurd (not_both_ways a.job b.job order serial.distinct before (subst (λ k. Precedes b.job k order) (sym same) back)))
      (jobs_in_order q r b c g is_b is_c))
      (jobs_in_order p q a b f is-a is_b)

  pub order_gives_arrangement : ConflictSerializable keep H
  order_gives_arrangement = (blocks H order, blocks_equivalent, blocks_serial)
