-- The ledger of one access more.
use Rattle.std.proofs.Common.{◌≡◌, ℕ, ◌<◌, Bool, true, false, not, ◌&&◌, ◌||◌, T, eqb, ◌⊎◌, List, [], ◌∷◌, ◌++◌, length, get_or, set, sym, refl, ap, ◌∙◌, subst, inl, inr, ⊎_elim, arith}
use Rattle.std.proofs.lemmas.Bool.{both_ways, cases_eq, ne_eqb, eqb-false, not-true, and_parts, and_from, or_left, or_right, or_cases}
use Rattle.std.proofs.lemmas.List.{get_or-set_other, length-set}
use Rattle.graph.specs.Nodes.{has}
use Rattle.graph.specs.Paths.{◌∈◌, Distinct}
use Rattle.trace.specs.declared.act.Act.{Act}
use Rattle.history.specs.Acts.{Fate, after, fate, not_aborted}
use Rattle.history.specs.Conflicts.{Access, accesses, Leads}
use Rattle.history.proofs.Records.{fate_more, accesses_join, Did, Met, leads_more, leads_old, leads_new, met_did, did_met_write, did_met_read}
use Rattle.verdict.specs.declared.ledger.Ledger.{Ledger}
use Rattle.verdict.specs.declared.users.Access.{Access as Kind}
use Rattle.verdict.specs.declared.users.Access.TheVariants.{Read as Reads, Write as Writes}
use Rattle.verdict.specs.declared.users.Users.{Users}
use Rattle.verdict.specs.Turns.{opened, InTurn, HasRoom}
use Rattle.verdict.specs.Ledgers.{number_at, count, marked, Draws, Notes, Marks, Used, UsersOf, users_at, Keeps}
use Rattle.verdict.specs.Users.{writes, clashes, AddsUser, act_of, no_users}
use Rattle.verdict.proofs.Ledgers.{apart, job_at, marks_iff, quiet_jobs}
use Rattle.verdict.proofs.Marks.{Apart, Noted, used_more, users_miss, users_hit}

used_did : (w : Bool) (x i : ℕ) (s : List Access) → Used w x i s → Did w x i s
used_did w x i [] h = h
used_did w x i (a ∷ s) (inl q) = inl q
used_did w x i (a ∷ s) (inr q) = inr (used_did w x i s q)

did_used : (w : Bool) (x i : ℕ) (s : List Access) → Did w x i s → Used w x i s
did_used w x i [] h = h
did_used w x i (a ∷ s) (inl q) = inl q
did_used w x i (a ∷ s) (inr q) = inr (did_used w x i s q)

-- the jobs whose accesses so far conflict with an access of another job to the item
abbrev pub Clashes : Bool → ℕ → List Access → ℕ → Type 0
Clashes w x s i = Used true x i s ⊎ ((w ≡ true) × Used false x i s)

-- before a read: the writers; before a write: the readers and the writers
pub clash : (access : Kind) (jobs : List ℕ) (x : ℕ) (s : List Access) (u : Users) (from : ℕ) → UsersOf s jobs x u
    → ((p : ℕ) → has from p ≡ clashes access u p) → Marks jobs (Clashes (writes access) x s) from
clash Reads jobs x s u from m same = record {
  only = λ p t. let h = m.writers.only p (sym (same p) ∙ t) in (h.0, inl h.1);
  all = λ p b q. same p ∙ ⊎_elim (m.writers.all p b) (λ h. absurd (both_ways true (sym h.0) refl)) q;
}
clash Writes jobs x s u from m same = record {
  only = λ p t. ⊎_elim
      (λ o. let h = m.readers.only p o in (h.0, inr (refl, h.1)))
      (λ o. let h = m.writers.only p o in (h.0, inl h.1))
      (or_cases (has u.readers p) (has u.writers p) (sym (same p) ∙ t));
  all = λ p b q. same p ∙ ⊎_elim
      (λ h. or_right (has u.readers p) (has u.writers p) (m.writers.all p b h))
      (λ h. or_left (has u.readers p) (has u.writers p) (m.readers.all p b h.1)) q;
}

-- edges of another access: those that lead to another job stay, and to its job lead those that clash with it
met_clash : (s : List Access) (a : Access) (i : ℕ) → Met s i a → (i ≡ a.job → ⊥) × Clashes a.writes a.item s i
met_clash s a i h =
    let d = met_did a s i h in
    (d.0, ⊎_elim (λ q. inl (did_used true a.item i s q)) (λ q. inr (q.0, did_used false a.item i s q.1)) d.1)

clash_met : (s : List Access) (a : Access) (i : ℕ) → (i ≡ a.job → ⊥) → Clashes a.writes a.item s i → Met s i a
clash_met s a i n (inl q) = did_met_write a s i n (used_did true a.item i s q)
clash_met s a i n (inr q) = did_met_read a s i n q.0 (used_did false a.item i s q.1)

module _ (H : List Act) (act : Act) (l : Ledger) (k : Keeps H l) (node : ℕ) (b : node < count l)
    (a : Access) (e : number_at l node ≡ a.job)
    (no-open : opened (act ∷ []) ≡ []) (is : accesses (act ∷ []) ≡ a ∷ []) (still : (i : ℕ) (f : Fate) → after act i f ≡ f)
    (into : List ℕ) (users : List Users) (from : ℕ) where
  -- the rows that an access leaves
  abbrev Rows : Type 0
  Rows = (length into ≡ 64) × ((q : ℕ) → (q ≡ node → ⊥) → get_or into q 0 ≡ get_or l.into q 0)
      × ((p : ℕ) → has (get_or into node 0) p ≡ (marked l p node || (has from p && not (eqb p node))))

  -- the row of its job
  row_here : Rows → Marks l.numbers.items (Clashes a.writes a.item (accesses H)) from
      → Marks l.numbers.items (λ i. Leads (accesses H ++ a ∷ []) i (number_at l node)) (get_or into node 0)
  row_here rows m = record {
    only = λ p t. ⊎_elim
        (λ o. let h = (k.edges node b).only p o in (h.0, leads_old a (accesses H) (number_at l p) (number_at l node) h.1))
        (λ o.
        let c = and_parts (has from p) (not (eqb p node)) o in
        let h = m.only p c.0 in
        let apart_here : p ≡ node → ⊥ = eqb-false p node (not-true (eqb p node) c.1) in
        let other : number_at l p ≡ a.job → ⊥ = λ f. apart_here (apart H l k p node h.0 b (f ∙ sym e)) in
        (h.0, leads_new a (accesses H) (number_at l p) (number_at l node) (sym e) (clash_met (accesses H) a (number_at l p) other h.1)))
        (or_cases (marked l p node) (has from p && not (eqb p node)) (sym (rows.2 p) ∙ t));
    all = λ p c h. rows.2 p ∙ ⊎_elim
        (λ o. or_left (marked l p node) (has from p && not (eqb p node)) ((k.edges node b).all p c o))
        (λ o.
        let d = met_clash (accesses H) a (number_at l p) o.1 in
        or_right (marked l p node) (has from p && not (eqb p node))
        (and_from (has from p) (not (eqb p node)) (m.all p c d.1) (ap not (ne_eqb p node (λ f. d.0 (ap (number_at l) f ∙ e))))))
        (leads_more a (accesses H) (number_at l p) (number_at l node) h);
  }

  -- the row of another job
  row_other : Rows → (q : ℕ) → q < count l → (q ≡ node → ⊥)
      → Marks l.numbers.items (λ i. Leads (accesses H ++ a ∷ []) i (number_at l q)) (get_or into q 0)
  row_other rows q c d =
      subst (Marks l.numbers.items (λ i. Leads (accesses H ++ a ∷ []) i (number_at l q))) (sym (rows.1 q d))
      (marks_iff l.numbers.items _ _ (get_or l.into q 0) (λ i. leads_old a (accesses H) i (number_at l q))
      (λ i h. ⊎_elim (λ o. o) (λ o. absurd (d (apart H l k q node c b (sym o.0 ∙ sym e)))) (leads_more a (accesses H) i (number_at l q) h))
      (k.edges q c))

  pub keeps_access : Rows → Marks l.numbers.items (Clashes a.writes a.item (accesses H)) from → length users ≡ 64
      → ((x : ℕ) → x < 64 → UsersOf (accesses H ++ a ∷ []) l.numbers.items x (get_or users x no_users))
      → Keeps (H ++ act ∷ []) (record l { into = into; users = users })
  keeps_access rows m places items =
      let H' = H ++ act ∷ [] in
      let jobs = l.numbers.items in
      let jobs' : opened H' ≡ opened H = quiet_jobs H act no-open in
      let accesses' : accesses H' ≡ accesses H ++ a ∷ [] = accesses_join H (act ∷ []) ∙ ap (λ t. accesses H ++ t) is in
      let same : (i : ℕ) → fate i H' ≡ fate i H = λ i. fate_more i H act ∙ still i (fate i H) in
      let here : a.job ∈ opened H = subst (λ n. n ∈ opened H) e (job_at H l k node b) in
      record {
        few = k.few;
        places = (rows.0, places);
        jobs = k.jobs ∙ sym jobs';
        once = subst Distinct (sym jobs') k.once;
        unopened = λ j n. same j ∙ k.unopened j (λ i. n (subst (λ js. j ∈ js) (sym jobs') i));
        opened_once = λ j i f. k.opened_once j (subst (λ js. j ∈ js) jobs' i) (sym (same j) ∙ f);
        users = λ w x i u. subst (λ js. i ∈ js) (sym jobs')
            (⊎_elim (k.users w x i) (λ h. subst (λ n. n ∈ opened H) h.0 here) (used_more a w x i (accesses H) (subst (Used w x i) accesses' u)));
        running = marks_iff jobs _ _ l.running (λ i f. same i ∙ f) (λ i f. sym (same i) ∙ f) k.running;
        kept = marks_iff jobs _ _ l.kept (λ i f. subst (λ g. T (not_aborted g)) (sym (same i)) f) (λ i f. subst (λ g. T (not_aborted g)) (same i) f) k.kept;
        edges = λ q c. subst (λ t. Marks jobs (λ i. Leads t i (number_at l q)) (get_or into q 0)) (sym accesses')
            (elim (cases_eq q node) [
              | inl f ↦ subst (λ n. Marks jobs (λ i. Leads (accesses H ++ a ∷ []) i (number_at l n)) (get_or into n 0)) (sym f) (row_here rows m)
              | inr d ↦ row_other rows q c d
            ]);
        empty = λ p q c. ap (λ row. has row p) (rows.1 q (omega arith)) ∙ k.empty p q c;
        items = λ x c. subst (λ t. UsersOf t jobs x (get_or users x no_users)) (sym accesses') (items x c);
      }

-- an access is an act of a job that is open, it opens none, and it changes no fate
act_opens : (access : Kind) (j x v : ℕ) → opened (act_of access j x v ∷ []) ≡ []
act_opens Reads j x v = refl
act_opens Writes j x v = refl

act_accesses : (access : Kind) (j x v : ℕ) → accesses (act_of access j x v ∷ []) ≡ record { job = j; item = x; writes = writes access; value = v } ∷ []
act_accesses Reads j x v = refl
act_accesses Writes j x v = refl

-- what an access does to the users of an item: it is an access of the item by a job that has a node, or it is not
pub noted_hit : (access : Kind) (jobs : List ℕ) (x : ℕ) (u v : Users) (node j y n : ℕ) → Apart jobs → node < length jobs → get_or jobs node 0 ≡ j
    → y ≡ x → AddsUser access u node v → Noted jobs x u v (act_of access j y n)
noted_hit access jobs x u v node j y n apart b e f same s m =
    subst (λ z. UsersOf (s ++ accesses (act_of access j z n ∷ [])) jobs x v) (sym f)
    (subst (λ t. UsersOf (s ++ t) jobs x v) (sym (act_accesses access j x n)) (users_hit jobs x u v node j n apart b e access same s m))

pub noted_miss : (access : Kind) (jobs : List ℕ) (x : ℕ) (u : Users) (j y n : ℕ)
    → ((p : ℕ) → p < length jobs → get_or jobs p 0 ≡ j → y ≡ x → ⊥) → Noted jobs x u u (act_of access j y n)
noted_miss access jobs x u j y n d s m =
    subst (λ t. UsersOf (s ++ t) jobs x u) (sym (act_accesses access j y n))
    (users_miss jobs x u (record { job = j; item = y; writes = writes access; value = n }) d s m)

act_still : (access : Kind) (j x v i : ℕ) (f : Fate) → after (act_of access j x v) i f ≡ f
act_still Reads j x v i f = refl
act_still Writes j x v i f = refl

pub act_turn : (access : Kind) (H : List Act) (j x v : ℕ) → InTurn H (act_of access j x v) → fate j H ≡ Fate.running
act_turn Reads H j x v t = t
act_turn Writes H j x v t = t

pub turn_act : (access : Kind) (H : List Act) (j x v : ℕ) → fate j H ≡ Fate.running → InTurn H (act_of access j x v) × HasRoom H (act_of access j x v)
turn_act Reads H j x v t = (t, tt)
turn_act Writes H j x v t = (t, tt)

module _ (H : List Act) (l m : Ledger) (k : Keeps H l) (access : Kind) (node j x v from : ℕ) (b : node < count l) (e : number_at l node ≡ j) where
  abbrev this : Access
  this = record { job = j; item = x; writes = writes access; value = v }

  pub keeps_used : Marks l.numbers.items (Clashes (writes access) x (accesses H)) from → (n : Ledger) → Draws l node from n → Notes n access x node m
      → Keeps (H ++ act_of access j x v ∷ []) m
  keeps_used clashing n d r =
      let jobs = l.numbers.items in
      let into = set l.into node (get_or n.into node 0) in
      let drawn : n.into ≡ into = ap (λ (t : Ledger). t.into) d.rest in
      let same : (y : ℕ) → users_at n y ≡ users_at l y = λ y. ap (λ t. users_at t y) d.rest in
      let rows : Rows H (act_of access j x v) l k node b this e (act_opens access j x v) (act_accesses access j x v) (act_still access j x v) into m.users from = (
        length-set l.into node (get_or n.into node 0) ∙ k.places.0,
        (λ q o. get_or-set_other l.into node q (get_or n.into node 0) 0 o),
        (λ p. ap (λ t. has (get_or t node 0) p) (sym drawn) ∙ d.here p),
      ) in
      subst (Keeps (H ++ act_of access j x v ∷ [])) (sym (r.rest ∙ ap (λ (t : Ledger). record t { users = m.users }) d.rest))
      (keeps_access H (act_of access j x v) l k node b this e (act_opens access j x v) (act_accesses access j x v) (act_still access j x v) into m.users from rows clashing
      (r.places ∙ ap (λ (t : Ledger). length t.users) d.rest ∙ k.places.1)
      (λ y c. elim (cases_eq y x) [
        | inl f ↦ subst (λ z. UsersOf (accesses H ++ this ∷ []) jobs z (users_at m z)) (sym f)
            (users_hit jobs x (users_at l x) (users_at m x) node j v (apart H l k) b e access
            (subst (λ u. AddsUser access u node (users_at m x)) (same x) (r.here (omega arith))) (accesses H) (k.items x (omega arith)))
        | inr o ↦ subst (UsersOf (accesses H ++ this ∷ []) jobs y) (sym (r.other y o ∙ same y))
            (users_miss jobs y (users_at l y) this (λ p _ _ f. o (sym f)) (accesses H) (k.items y c))
      ]))
