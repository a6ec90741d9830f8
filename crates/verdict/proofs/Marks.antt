-- Marks of jobs in words, and how they change with one access more.
use Rattle.std.proofs.Common.{◌≡◌, ℕ, ◌+◌, ◌<◌, Bool, true, false, not, ◌&&◌, ◌||◌, eqb, ◌⊎◌, List, [], ◌∷◌, ◌++◌, length, get_or, take, sym, refl, ap, ◌∙◌, subst, inl, inr, ⊎_elim}
use Rattle.std.proofs.lemmas.Bool.{both_ways, eq-eqb, eqb-true, eqb-false, ne_eqb, not-true, and_parts, and_from, or_left, or_right, or_cases}
use Rattle.std.proofs.lemmas.List.{map_more}
use Rattle.graph.specs.Nodes.{has}
use Rattle.graph.specs.Paths.{Distinct}
use Rattle.graph.proofs.Lists.{one_place}
use Rattle.graph.proofs.Words.{bit_none}
use Rattle.trace.specs.declared.act.Act.{Act}
use Rattle.trace.specs.declared.act.Step.{Step}
use Rattle.history.specs.Conflicts.{Access, accesses}
use Rattle.history.proofs.Records.{accesses_join}
use Rattle.verdict.specs.Turns.{acts}
use Rattle.verdict.specs.declared.users.Access.{Access as Kind}
use Rattle.verdict.specs.declared.users.Access.TheVariants.{Read as Reads, Write as Writes}
use Rattle.verdict.specs.declared.users.Users.{Users}
use Rattle.verdict.specs.Ledgers.{Marks, Used, UsersOf}
use Rattle.verdict.specs.Users.{writes, AddsUser, no_users}

-- no two nodes have one number
abbrev pub Apart : List ℕ → Type 0
Apart jobs = (p q : ℕ) → p < length jobs → q < length jobs → get_or jobs p 0 ≡ get_or jobs q 0 → p ≡ q

pub distinct_apart : (jobs : List ℕ) → Distinct jobs → Apart jobs
distinct_apart jobs d p q b c e = one_place jobs p q d b c e

-- the job at one more node is marked
pub marks_hit : (jobs : List ℕ) (P Q : ℕ → Type 0) (set set' node : ℕ) → Apart jobs → node < length jobs → Marks jobs P set
    → ((p : ℕ) → has set' p ≡ (has set p || eqb p node))
    → ((i : ℕ) → P i → Q i) → Q (get_or jobs node 0) → ((i : ℕ) → Q i → P i ⊎ (i ≡ get_or jobs node 0))
    → Marks jobs Q set'
marks_hit jobs P Q set set' node apart b m same old new more = record {
  only = λ p t. ⊎_elim
      (λ o. let h = m.only p o in (h.0, old (get_or jobs p 0) h.1))
      (λ o. let e = eqb-true p node o in (subst (λ q. q < length jobs) (sym e) b, subst (λ q. Q (get_or jobs q 0)) (sym e) new))
      (or_cases (has set p) (eqb p node) (sym (same p) ∙ t));
  all = λ p c q. same p ∙ ⊎_elim
      (λ o. or_left (has set p) (eqb p node) (m.all p c o))
      (λ e. or_right (has set p) (eqb p node) (eq-eqb p node (apart p node c b e)))
      (more (get_or jobs p 0) q);
}

-- no other job is marked
pub marks_miss : (jobs : List ℕ) (P Q : ℕ → Type 0) (set : ℕ) → Marks jobs P set
    → ((i : ℕ) → P i → Q i) → ((p : ℕ) → p < length jobs → Q (get_or jobs p 0) → P (get_or jobs p 0))
    → Marks jobs Q set
marks_miss jobs P Q set m old more = record {
  only = λ p t. let h = m.only p t in (h.0, old (get_or jobs p 0) h.1);
  all = λ p c q. m.all p c (more p c q);
}

-- the job at a node is marked no more
pub marks_drop : (jobs : List ℕ) (P Q : ℕ → Type 0) (set set' node : ℕ) → Marks jobs P set
    → ((p : ℕ) → has set' p ≡ (has set p && not (eqb p node)))
    → ((p : ℕ) → p < length jobs → (p ≡ node → ⊥) → P (get_or jobs p 0) → Q (get_or jobs p 0))
    → ((p : ℕ) → p < length jobs → Q (get_or jobs p 0) → P (get_or jobs p 0) × (p ≡ node → ⊥))
    → Marks jobs Q set'
marks_drop jobs P Q set set' node m same old more = record {
  only = λ p t.
      let b = and_parts (has set p) (not (eqb p node)) (sym (same p) ∙ t) in
      let h = m.only p b.0 in
      (h.0, old p h.0 (eqb-false p node (not-true (eqb p node) b.1)) h.1);
  all = λ p c q.
      let h = more p c q in
      same p ∙ and_from (has set p) (not (eqb p node)) (m.all p c h.0) (ap not (ne_eqb p node h.1));
}

-- one access more
module _ (a : Access) where
  pub used_more : (w : Bool) (x i : ℕ) (s : List Access) → Used w x i (s ++ a ∷ [])
      → Used w x i s ⊎ ((a.job ≡ i) × (a.item ≡ x) × (a.writes ≡ w))
  used_more w x i [] (inl q) = inr q
  used_more w x i [] (inr q) = absurd q
  used_more w x i (b ∷ s) (inl q) = inl (inl q)
  used_more w x i (b ∷ s) (inr q) = ⊎_elim (λ k. inl (inr k)) inr (used_more w x i s q)

  pub used_old : (w : Bool) (x i : ℕ) (s : List Access) → Used w x i s → Used w x i (s ++ a ∷ [])
  used_old w x i [] h = absurd h
  used_old w x i (b ∷ s) (inl q) = inl q
  used_old w x i (b ∷ s) (inr q) = inr (used_old w x i s q)

  pub used_new : (w : Bool) (x i : ℕ) (s : List Access) → a.job ≡ i → a.item ≡ x → a.writes ≡ w → Used w x i (s ++ a ∷ [])
  used_new w x i [] e f g = inl (e, f, g)
  used_new w x i (b ∷ s) e f g = inr (used_new w x i s e f g)

  -- the access uses the item so, and its job is marked
  pub used_hit : (jobs : List ℕ) (w : Bool) (x : ℕ) (s : List Access) (set set' node : ℕ) → Apart jobs → node < length jobs
      → get_or jobs node 0 ≡ a.job → a.item ≡ x → a.writes ≡ w → Marks jobs (λ i. Used w x i s) set
      → ((p : ℕ) → has set' p ≡ (has set p || eqb p node)) → Marks jobs (λ i. Used w x i (s ++ a ∷ [])) set'
  used_hit jobs w x s set set' node apart b e f g m same =
      marks_hit jobs (λ i. Used w x i s) (λ i. Used w x i (s ++ a ∷ [])) set set' node apart b m same
      (λ i. used_old w x i s) (used_new w x (get_or jobs node 0) s (sym e) f g)
      (λ i q. ⊎_elim inl (λ h. inr (sym h.0 ∙ sym e)) (used_more w x i s q))

  -- the access does not use the item so, or its job has no node
  pub used_miss : (jobs : List ℕ) (w : Bool) (x : ℕ) (s : List Access) (set : ℕ)
      → ((p : ℕ) → p < length jobs → get_or jobs p 0 ≡ a.job → a.item ≡ x → a.writes ≡ w → ⊥)
      → Marks jobs (λ i. Used w x i s) set → Marks jobs (λ i. Used w x i (s ++ a ∷ [])) set
  used_miss jobs w x s set n m =
      marks_miss jobs (λ i. Used w x i s) (λ i. Used w x i (s ++ a ∷ [])) set m (λ i. used_old w x i s)
      (λ p c q. ⊎_elim (λ o. o) (λ h. absurd (n p c (sym h.0) h.1 h.2)) (used_more w x (get_or jobs p 0) s q))

-- the users of an item, one access of it more
module _ (jobs : List ℕ) (x : ℕ) (u v : Users) (node j n : ℕ) (apart : Apart jobs) (b : node < length jobs) (e : get_or jobs node 0 ≡ j) where
  pub users_hit : (access : Kind) → AddsUser access u node v → (s : List Access) → UsersOf s jobs x u
      → UsersOf (s ++ record { job = j; item = x; writes = writes access; value = n } ∷ []) jobs x v
  users_hit Reads same s m =
      let a : Access = record { job = j; item = x; writes = false; value = n } in
      record {
        readers = used_hit a jobs false x s u.readers v.readers node apart b e refl refl m.readers same.0;
        writers = subst (Marks jobs (λ i. Used true x i (s ++ a ∷ []))) (sym same.1)
            (used_miss a jobs true x s u.writers (λ p c d g h. both_ways true (sym h) refl) m.writers);
      }
  users_hit Writes same s m =
      let a : Access = record { job = j; item = x; writes = true; value = n } in
      record {
        readers = subst (Marks jobs (λ i. Used false x i (s ++ a ∷ []))) (sym same.1)
            (used_miss a jobs false x s u.readers (λ p c d g h. both_ways true h refl) m.readers);
        writers = used_hit a jobs true x s u.writers v.writers node apart b e refl refl m.writers same.0;
      }

-- the users of an item after an access that they do not have: to another item, or of a job without a node
pub users_miss : (jobs : List ℕ) (x : ℕ) (u : Users) (a : Access)
    → ((p : ℕ) → p < length jobs → get_or jobs p 0 ≡ a.job → a.item ≡ x → ⊥)
    → (s : List Access) → UsersOf s jobs x u → UsersOf (s ++ a ∷ []) jobs x u
users_miss jobs x u a n s m = record {
  readers = used_miss a jobs false x s u.readers (λ p c e f _. n p c e f) m.readers;
  writers = used_miss a jobs true x s u.writers (λ p c e f _. n p c e f) m.writers;
}

-- what one act more does to the users of an item
abbrev pub Noted : List ℕ → ℕ → Users → Users → Act → Type 0
Noted jobs x u v act = (s : List Access) → UsersOf s jobs x u → UsersOf (s ++ accesses (act ∷ [])) jobs x v

-- before the first step no one uses an item
pub users_none : (jobs : List ℕ) (x : ℕ) → UsersOf [] jobs x no_users
users_none jobs x = record {
  readers = record { only = λ p t. absurd (both_ways (has 0 p) (bit_none p) t); all = λ p c b. absurd b };
  writers = record { only = λ p t. absurd (both_ways (has 0 p) (bit_none p) t); all = λ p c b. absurd b };
}

-- the users among one step more
pub users_next : (jobs : List ℕ) (x : ℕ) (u v : Users) (steps : List Step) (i : ℕ) (d : Step) → i < length steps
    → Noted jobs x u v (get_or steps i d).act → UsersOf (accesses (acts (take i steps))) jobs x u
    → UsersOf (accesses (acts (take (i + 1) steps))) jobs x v
users_next jobs x u v steps i d b noted m =
    subst (λ s. UsersOf s jobs x v)
    (sym (ap accesses (map_more (λ (s : Step). s.act) steps i d b) ∙ accesses_join (acts (take i steps)) ((get_or steps i d).act ∷ [])))
    (noted (accesses (acts (take i steps))) m)
