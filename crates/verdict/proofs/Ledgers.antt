-- The ledger of one act more.
use Rattle.std.proofs.Common.{◌≡◌, ℕ, ◌+◌, ◌<◌, Bool, true, false, cond, not, ◌&&◌, ◌||◌, T, eqb, ◌⊎◌, List, [], ◌∷◌, ◌++◌, length, get_or, set, Some, None, Option, is_some, ok_or, Ok, Err, Result, sym, refl, ap, ◌∙◌, subst, inl, inr, ⊎_elim, arith}
use Rattle.std.proofs.lemmas.Bool.{both_ways, cases_eq, eq-eqb, eqb-true, ne_eqb, or_left, or_right, or_cases}
use Rattle.std.proofs.lemmas.List.{append-nil, length_push}
use Rattle.std.proofs.Math.ListN.{get_or-append}
use Rattle.std.proofs.Math.Seq.{get_or-append_seam}
use Rattle.graph.specs.Nodes.{has}
use Rattle.graph.specs.Paths.{◌∈◌, Distinct}
use Rattle.graph.proofs.Lists.{in_left, in_right, in_push, in_at, place_of, distinct_push}
use Rattle.trace.specs.declared.act.Act.{Act}
use Rattle.trace.specs.declared.act.Act.TheVariants.{Open, Read, Write, Commit, Abort, Peek, Retire}
use Rattle.history.specs.Acts.{Fate, after, fate, Kept, not_aborted}
use Rattle.history.specs.Conflicts.{Access, accesses, Leads}
use Rattle.history.proofs.Records.{fate_more, accesses_join, Occurs, leads_occurs}
use Rattle.verdict.specs.declared.ledger.Ledger.{Ledger}
use Rattle.verdict.specs.declared.refusal.JudgeRefusal.{JudgeRefusal}
use Rattle.verdict.specs.declared.refusal.JudgeRefusal.TheVariants.{OutOfTurn}
use Rattle.verdict.specs.Turns.{opened, InTurn, HasRoom}
use Rattle.verdict.specs.Ledgers.{number_at, count, marked, Finds, FindsOpen, Opens, Ends, Drops, Marks, Used, UsersOf, users_at, Keeps, Takes}
use Rattle.verdict.proofs.Marks.{Apart, distinct_apart, marks_miss, marks_drop}

opened_join : (H K : List Act) → opened (H ++ K) ≡ opened H ++ opened K
opened_join [] K = refl
opened_join (Open j ∷ H) K = ap (λ (js : List ℕ). j ∷ js) (opened_join H K)
opened_join (Read j x v ∷ H) K = opened_join H K
opened_join (Write j x v ∷ H) K = opened_join H K
opened_join (Commit j ∷ H) K = opened_join H K
opened_join (Abort j ∷ H) K = opened_join H K
opened_join (Peek x v ∷ H) K = opened_join H K
opened_join (Retire ∷ H) K = opened_join H K

-- what the ledger says of its places
module _ (H : List Act) (l : Ledger) (k : Keeps H l) where
  pub apart : Apart l.numbers.items
  apart = distinct_apart l.numbers.items (subst Distinct (sym k.jobs) k.once)

  pub job_at : (p : ℕ) → p < count l → number_at l p ∈ opened H
  job_at p b = subst (λ js. number_at l p ∈ js) k.jobs (in_at l.numbers.items p b)

  pub node_of : (j : ℕ) → j ∈ opened H → (p : ℕ) × (p < count l) × (number_at l p ≡ j)
  node_of j i = place_of l.numbers.items j (subst (λ js. j ∈ js) (sym k.jobs) i)

  pub counted : count l ≡ length (opened H)
  counted = ap length k.jobs

-- marks of the jobs of which an equivalent property holds
pub marks_iff : (jobs : List ℕ) (P Q : ℕ → Type 0) (set : ℕ) → ((i : ℕ) → P i → Q i) → ((i : ℕ) → Q i → P i) → Marks jobs P set → Marks jobs Q set
marks_iff jobs P Q set f g m = marks_miss jobs P Q set m f (λ p _. g (get_or jobs p 0))

-- an act that opens no job and accesses nothing
module _ (H H' : List Act) (l : Ledger) (k : Keeps H l) (same-jobs : opened H' ≡ opened H) (same-accesses : accesses H' ≡ accesses H) where
  keeps_quiet : (running kept : ℕ)
      → ((j : ℕ) → (j ∈ opened H → ⊥) → fate j H' ≡ Fate.unopened)
      → ((j : ℕ) → j ∈ opened H → fate j H' ≡ Fate.unopened → ⊥)
      → Marks l.numbers.items (λ i. fate i H' ≡ Fate.running) running → Marks l.numbers.items (Kept not_aborted H') kept
      → Keeps H' (record l { running = running; kept = kept })
  keeps_quiet running kept un on run keep = record {
    few = k.few;
    places = k.places;
    jobs = k.jobs ∙ sym same-jobs;
    once = subst Distinct (sym same-jobs) k.once;
    unopened = λ j n. un j (λ i. n (subst (λ js. j ∈ js) (sym same-jobs) i));
    opened_once = λ j i. on j (subst (λ js. j ∈ js) same-jobs i);
    users = λ w x i u. subst (λ js. i ∈ js) (sym same-jobs) (k.users w x i (subst (Used w x i) same-accesses u));
    running = run;
    kept = keep;
    edges = λ q b. subst (λ s. Marks l.numbers.items (λ i. Leads s i (number_at l q)) (get_or l.into q 0)) (sym same-accesses) (k.edges q b);
    empty = k.empty;
    items = λ x b. subst (λ s. UsersOf s l.numbers.items x (users_at l x)) (sym same-accesses) (k.items x b);
  }

pub quiet_jobs : (H : List Act) (act : Act) → opened (act ∷ []) ≡ [] → opened (H ++ act ∷ []) ≡ opened H
quiet_jobs H act e = opened_join H (act ∷ []) ∙ ap (λ js. opened H ++ js) e ∙ append-nil (opened H)

quiet_accesses : (H : List Act) (act : Act) → accesses (act ∷ []) ≡ [] → accesses (H ++ act ∷ []) ≡ accesses H
quiet_accesses H act e = accesses_join H (act ∷ []) ∙ ap (λ s. accesses H ++ s) e ∙ append-nil (accesses H)

-- an act of no job changes nothing
keeps_still : (H : List Act) (act : Act) (l : Ledger) → Keeps H l → opened (act ∷ []) ≡ [] → accesses (act ∷ []) ≡ []
    → ((i : ℕ) (f : Fate) → after act i f ≡ f) → Keeps (H ++ act ∷ []) l
keeps_still H act l k o a still =
    let same : (i : ℕ) → fate i (H ++ act ∷ []) ≡ fate i H = λ i. fate_more i H act ∙ still i (fate i H) in
    keeps_quiet H (H ++ act ∷ []) l k (quiet_jobs H act o) (quiet_accesses H act a) l.running l.kept
    (λ j n. same j ∙ k.unopened j n) (λ j i e. k.opened_once j i (sym (same j) ∙ e))
    (marks_iff l.numbers.items _ _ l.running (λ i e. same i ∙ e) (λ i e. sym (same i) ∙ e) k.running)
    (marks_iff l.numbers.items _ _ l.kept (λ i e. subst (λ f. T (not_aborted f)) (sym (same i)) e) (λ i e. subst (λ f. T (not_aborted f)) (same i) e) k.kept)

pub takes_still : (H : List Act) (act : Act) (l : Ledger) → Keeps H l → ((x : ℕ) × (v : ℕ) × act ≡ Peek x v) ⊎ (act ≡ Retire)
    → InTurn H act × HasRoom H act × Keeps (H ++ act ∷ []) l
takes_still H act l k (inl p) = rw p.2 (tt, tt, keeps_still H (Peek p.0 p.1) l k refl refl (λ i f. refl))
takes_still H act l k (inr e) = rw e (tt, tt, keeps_still H Retire l k refl refl (λ i f. refl))

committed_opened : Fate.committed ≡ Fate.unopened → ⊥
committed_opened e = cc

committed_ended : Fate.committed ≡ Fate.running → ⊥
committed_ended e = cc

aborted_opened : Fate.aborted ≡ Fate.unopened → ⊥
aborted_opened e = cc

aborted_ended : Fate.aborted ≡ Fate.running → ⊥
aborted_ended e = cc

-- an act that ends the job at a node
module _ (H : List Act) (act : Act) (l : Ledger) (k : Keeps H l) (node j : ℕ) (b : node < count l) (e : number_at l node ≡ j)
    (runs : fate j H ≡ Fate.running) (o : opened (act ∷ []) ≡ []) (a : accesses (act ∷ []) ≡ [])
    (g : Fate) (ends : (i : ℕ) (f : Fate) → after act i f ≡ cond (eqb j i) g f) (g-opened : g ≡ Fate.unopened → ⊥) (g-ended : g ≡ Fate.running → ⊥) where
  fate_ended : fate j (H ++ act ∷ []) ≡ g
  fate_ended = fate_more j H act ∙ ends j (fate j H) ∙ ap (λ c. cond c g (fate j H)) (eq-eqb j j refl)

  fate_other : (i : ℕ) → (i ≡ j → ⊥) → fate i (H ++ act ∷ []) ≡ fate i H
  fate_other i d = fate_more i H act ∙ ends i (fate i H) ∙ ap (λ c. cond c g (fate i H)) (ne_eqb j i (λ p. d (sym p)))

  here_opened : j ∈ opened H
  here_opened = subst (λ n. n ∈ opened H) e (job_at H l k node b)

  -- the job at another node is another one
  elsewhere : (p : ℕ) → p < count l → (p ≡ node → ⊥) → number_at l p ≡ j → ⊥
  elsewhere p c d f = d (apart H l k p node c b (f ∙ sym e))

  fate_elsewhere : (p : ℕ) → p < count l → (p ≡ node → ⊥) → fate (number_at l p) (H ++ act ∷ []) ≡ fate (number_at l p) H
  fate_elsewhere p c d = fate_other (number_at l p) (elsewhere p c d)

  fate_at : (p : ℕ) → p ≡ node → fate (number_at l p) (H ++ act ∷ []) ≡ g
  fate_at p f = ap (λ q. fate (number_at l q) (H ++ act ∷ [])) f ∙ ap (λ i. fate i (H ++ act ∷ [])) e ∙ fate_ended

  ended_running : (running : ℕ) → ((p : ℕ) → has running p ≡ (has l.running p && not (eqb p node)))
      → Marks l.numbers.items (λ i. fate i (H ++ act ∷ []) ≡ Fate.running) running
  ended_running running same =
      marks_drop l.numbers.items _ _ l.running running node k.running same
      (λ p c d q. fate_elsewhere p c d ∙ q)
      (λ p c q. let d : p ≡ node → ⊥ = λ f. g-ended (sym (fate_at p f) ∙ q) in (sym (fate_elsewhere p c d) ∙ q, d))

  keeps_ended : (running kept : ℕ) → ((p : ℕ) → has running p ≡ (has l.running p && not (eqb p node)))
      → Marks l.numbers.items (Kept not_aborted (H ++ act ∷ [])) kept → Keeps (H ++ act ∷ []) (record l { running = running; kept = kept })
  keeps_ended running kept same keep =
      keeps_quiet H (H ++ act ∷ []) l k (quiet_jobs H act o) (quiet_accesses H act a) running kept
      (λ i n. fate_other i (λ p. n (subst (λ x. x ∈ opened H) (sym p) here_opened)) ∙ k.unopened i n)
      (λ i h f. elim (cases_eq i j) [
        | inl p ↦ g-opened (sym fate_ended ∙ subst (λ x. fate x (H ++ act ∷ []) ≡ Fate.unopened) p f)
        | inr d ↦ k.opened_once i h (sym (fate_other i d) ∙ f)
      ])
      (ended_running running same) keep

Counts : Fate → Type 0
Counts f = T (not_aborted f)

pub keeps_commit : (H : List Act) (l m : Ledger) (node j : ℕ) → Keeps H l → node < count l → number_at l node ≡ j
    → fate j H ≡ Fate.running → Ends l node m → Keeps (H ++ Commit j ∷ []) m
unfolding Counts
keeps_commit H l m node j k b e runs d =
    let H' = H ++ Commit j ∷ [] in
    let done = fate_ended H (Commit j) l k node j b e runs refl refl Fate.committed (λ i f. refl) committed_opened committed_ended in
    let other = fate_other H (Commit j) l k node j b e runs refl refl Fate.committed (λ i f. refl) committed_opened committed_ended in
    let keep : Marks l.numbers.items (Kept not_aborted H') l.kept = marks_iff l.numbers.items _ _ l.kept
    (λ i c. elim (cases_eq i j) [ inl p ↦ subst (λ x. Kept not_aborted H' x) (sym p) (subst Counts (sym done) tt) | inr o ↦ subst Counts (sym (other i o)) c ])
    (λ i c. elim (cases_eq i j) [ inl p ↦ subst (λ x. Kept not_aborted H x) (sym p) (subst Counts (sym runs) tt) | inr o ↦ subst Counts (other i o) c ])
    k.kept in
    subst (Keeps H') (sym d.rest)
    (keeps_ended H (Commit j) l k node j b e runs refl refl Fate.committed (λ i f. refl) committed_opened committed_ended m.running l.kept d.running keep)

pub keeps_abort : (H : List Act) (l m : Ledger) (node j : ℕ) → Keeps H l → node < count l → number_at l node ≡ j
    → fate j H ≡ Fate.running → Drops l node m → Keeps (H ++ Abort j ∷ []) m
unfolding Counts
keeps_abort H l m node j k b e runs d =
    let H' = H ++ Abort j ∷ [] in
    let at = fate_at H (Abort j) l k node j b e runs refl refl Fate.aborted (λ i f. refl) aborted_opened aborted_ended in
    let other = fate_elsewhere H (Abort j) l k node j b e runs refl refl Fate.aborted (λ i f. refl) aborted_opened aborted_ended in
    let keep : Marks l.numbers.items (Kept not_aborted H') m.kept = marks_drop l.numbers.items _ _ l.kept m.kept node k.kept d.kept
    (λ p c o q. subst Counts (sym (other p c o)) q)
    (λ p c q. let o : p ≡ node → ⊥ = λ f. subst Counts (at p f) q in (subst Counts (other p c o) q, o)) in
    subst (Keeps H') (sym d.rest)
    (keeps_ended H (Abort j) l k node j b e runs refl refl Fate.aborted (λ i f. refl) aborted_opened aborted_ended m.running m.kept d.running keep)

-- a job that is part of an edge used some item
occurs_used : (i : ℕ) (s : List Access) → Occurs i s → (w : Bool) × (x : ℕ) × Used w x i s
occurs_used i [] h = absurd h
occurs_used i (a ∷ s) (inl e) = (a.writes, a.item, inl (e, refl, refl))
occurs_used i (a ∷ s) (inr h) = let u = occurs_used i s h in (u.0, u.1, inr u.2)

running_opened : Fate.running ≡ Fate.unopened → ⊥
running_opened e = cc

-- a job is opened at the next node
module _ (H : List Act) (l : Ledger) (k : Keeps H l) (j : ℕ) (new : fate j H ≡ Fate.unopened) (room : count l < 64) where
  not_yet : j ∈ opened H → ⊥
  not_yet i = k.opened_once j i new

  not_used : (w : Bool) (x : ℕ) → Used w x j (accesses H) → ⊥
  not_used w x u = not_yet (k.users w x j u)

  not_led : (i i' : ℕ) → Leads (accesses H) i i' → (i ≡ j → ⊥) × (i' ≡ j → ⊥)
  not_led i i' h =
      let o = leads_occurs (accesses H) i i' h in
      let a = occurs_used i (accesses H) o.0 in
      let b = occurs_used i' (accesses H) o.1 in (
        (λ e. not_used a.0 a.1 (subst (λ n. Used a.0 a.1 n (accesses H)) e a.2)),
        (λ e. not_used b.0 b.1 (subst (λ n. Used b.0 b.1 n (accesses H)) e b.2)),
      )

  module _ (running kept : ℕ) where
    abbrev grown : Ledger
    grown = record l { numbers = record { items = l.numbers.items ++ j ∷ [] }; running = running; kept = kept }

    one_more : count grown ≡ count l + 1
    one_more = length_push l.numbers.items j

    number_before : (p : ℕ) → p < count l → number_at grown p ≡ number_at l p
    number_before p b = get_or-append l.numbers.items (j ∷ []) 0 p b

    number_last : (p : ℕ) → p ≡ count l → number_at grown p ≡ j
    number_last p e = ap (λ q. number_at grown q) e ∙ get_or-append_seam l.numbers.items j [] 0

    before_or_last : (p : ℕ) → p < count grown → (p < count l) ⊎ (p ≡ count l)
    before_or_last p b = elim (cases_eq p (count l)) [ inl e ↦ inr e | inr d ↦ inl (omega (arith, one_more)) ]

    -- the new job is marked
    grow_in : (P Q : ℕ → Type 0) (set set' : ℕ) → Marks l.numbers.items P set → ((p : ℕ) → has set' p ≡ (has set p || eqb p (count l)))
        → ((p : ℕ) → p < count l → P (number_at l p) → Q (number_at l p))
        → ((p : ℕ) → p < count l → Q (number_at l p) → P (number_at l p)) → Q j → Marks grown.numbers.items Q set'
    grow_in P Q set set' m same to back here = record {
      only = λ p t. ⊎_elim
          (λ o. let h = m.only p o in (omega (arith, h.0, one_more), subst Q (sym (number_before p h.0)) (to p h.0 h.1)))
          (λ o. let e = eqb-true p (count l) o in (omega (arith, one_more), subst Q (sym (number_last p e)) here))
          (or_cases (has set p) (eqb p (count l)) (sym (same p) ∙ t));
      all = λ p b q. same p ∙ ⊎_elim
          (λ c. or_left (has set p) (eqb p (count l)) (m.all p c (back p c (subst Q (number_before p c) q))))
          (λ e. or_right (has set p) (eqb p (count l)) (eq-eqb p (count l) e))
          (before_or_last p b);
    }

    -- the new job is not marked
    grow_out : (P Q : ℕ → Type 0) (set : ℕ) → Marks l.numbers.items P set
        → ((p : ℕ) → p < count l → P (number_at l p) → Q (number_at l p))
        → ((p : ℕ) → p < count l → Q (number_at l p) → P (number_at l p)) → (Q j → ⊥) → Marks grown.numbers.items Q set
    grow_out P Q set m to back here = record {
      only = λ p t. let h = m.only p t in (omega (arith, h.0, one_more), subst Q (sym (number_before p h.0)) (to p h.0 h.1));
      all = λ p b q. ⊎_elim
          (λ c. m.all p c (back p c (subst Q (number_before p c) q)))
          (λ e. absurd (here (subst Q (number_last p e) q)))
          (before_or_last p b);
    }

    pub keeps_grown : ((p : ℕ) → has running p ≡ (has l.running p || eqb p (count l)))
        → ((p : ℕ) → has kept p ≡ (has l.kept p || eqb p (count l))) → Keeps (H ++ Open j ∷ []) grown
    unfolding Counts
    keeps_grown run keep =
        let H' = H ++ Open j ∷ [] in
        let jobs' : opened H' ≡ opened H ++ j ∷ [] = opened_join H (Open j ∷ []) in
        let accesses' : accesses H' ≡ accesses H = quiet_accesses H (Open j) refl in
        let here : fate j H' ≡ Fate.running = fate_more j H (Open j) ∙ ap (λ c. cond c Fate.running (fate j H)) (eq-eqb j j refl) in
        let other : (i : ℕ) → (i ≡ j → ⊥) → fate i H' ≡ fate i H =
        λ i d. fate_more i H (Open j) ∙ ap (λ c. cond c Fate.running (fate i H)) (ne_eqb j i (λ p. d (sym p))) in
        let before : (p : ℕ) → p < count l → fate (number_at l p) H' ≡ fate (number_at l p) H =
        λ p b. other (number_at l p) (λ e. not_yet (subst (λ n. n ∈ opened H) e (job_at H l k p b))) in
        record {
          few = omega (arith, one_more);
          places = k.places;
          jobs = ap (λ js. js ++ j ∷ []) k.jobs ∙ sym jobs';
          once = subst Distinct (sym jobs') (distinct_push (opened H) j k.once not_yet);
          unopened = λ i n.
              let o : i ∈ (opened H ++ j ∷ []) → ⊥ = λ h. n (subst (λ js. i ∈ js) (sym jobs') h) in
              other i (λ e. o (subst (λ n. n ∈ (opened H ++ j ∷ [])) (sym e) (in_right j (opened H) (j ∷ []) (inl refl))))
              ∙ k.unopened i (λ h. o (in_left i (opened H) (j ∷ []) h));
          opened_once = λ i h f. ⊎_elim
              (λ o. k.opened_once i o (sym (other i (λ e. not_yet (subst (λ n. n ∈ opened H) e o))) ∙ f))
              (λ e. running_opened (sym here ∙ subst (λ n. fate n H' ≡ Fate.unopened) e f))
              (in_push i (opened H) j (subst (λ js. i ∈ js) jobs' h));
          users = λ w x i u. subst (λ js. i ∈ js) (sym jobs') (in_left i (opened H) (j ∷ []) (k.users w x i (subst (Used w x i) accesses' u)));
          running = grow_in _ (λ i. fate i H' ≡ Fate.running) l.running running k.running run
              (λ p b q. before p b ∙ q) (λ p b q. sym (before p b) ∙ q) here;
          kept = grow_in _ (Kept not_aborted H') l.kept kept k.kept keep
              (λ p b q. subst Counts (sym (before p b)) q) (λ p b q. subst Counts (before p b) q) (subst Counts (sym here) tt);
          edges = λ q b. subst (λ s. Marks grown.numbers.items (λ i. Leads s i (number_at grown q)) (get_or l.into q 0)) (sym accesses')
              (⊎_elim
              (λ c. subst (λ n. Marks grown.numbers.items (λ i. Leads (accesses H) i n) (get_or l.into q 0)) (sym (number_before q c))
              (grow_out _ (λ i. Leads (accesses H) i (number_at l q)) (get_or l.into q 0) (k.edges q c) (λ p _ h. h) (λ p _ h. h)
              (λ h. (not_led j (number_at l q) h).0 refl)))
              (λ e. record {
                only = λ p t. absurd (both_ways (marked l p q) (k.empty p q (omega arith)) t);
                all = λ p _ h. absurd ((not_led _ _ h).1 (number_last q e));
              })
              (before_or_last q b));
          empty = λ p q b. k.empty p q (omega (arith, one_more));
          items = λ x b. subst (λ s. UsersOf s grown.numbers.items x (users_at l x)) (sym accesses')
              (let u = k.items x b in record {
                readers = grow_out _ (λ i. Used false x i (accesses H)) (users_at l x).readers u.readers (λ p _ h. h) (λ p _ h. h) (not_used false x);
                writers = grow_out _ (λ i. Used true x i (accesses H)) (users_at l x).writers u.writers (λ p _ h. h) (λ p _ h. h) (not_used true x);
              });
        }

pub keeps_open : (H : List Act) (l m : Ledger) (j : ℕ) → Keeps H l → fate j H ≡ Fate.unopened → count l < 64 → Opens l j m
    → Keeps (H ++ Open j ∷ []) m
keeps_open H l m j k new room d =
    subst (Keeps (H ++ Open j ∷ [])) (sym (d.rest ∙ λ i. record l { numbers = record { items = d.numbers i }; running = m.running; kept = m.kept }))
    (keeps_grown H l k j new room m.running m.kept d.running d.kept)

-- the node of the job is told, where it is open, or that a step of it at the index is out of turn
abbrev pub TellsOpen : Ledger → ℕ → ℕ → Result ℕ JudgeRefusal → Type 0
TellsOpen l j index (Ok p) = FindsOpen l j (Some p)
TellsOpen l j index (Err r) = (r ≡ OutOfTurn index) × FindsOpen l j None

pub tells : (l : Ledger) (j index : ℕ) (found : Option ℕ) (r : Result ℕ JudgeRefusal) → FindsOpen l j found → r ≡ ok_or found (OutOfTurn index)
    → TellsOpen l j index r
tells l j index None r f e = subst (TellsOpen l j index) (sym e) (refl, f)
tells l j index (Some p) r f e = subst (TellsOpen l j index) (sym e) f

-- what a look into the ledger tells of a job
module _ (H : List Act) (l : Ledger) (k : Keeps H l) (j : ℕ) where
  pub runs_there : (p : ℕ) → FindsOpen l j (Some p) → fate j H ≡ Fate.running
  runs_there p f = subst (λ i. fate i H ≡ Fate.running) f.1 (k.running.only p f.2).1

  none_unopened : ((p : ℕ) → p < count l → number_at l p ≡ j → ⊥) → fate j H ≡ Fate.unopened
  none_unopened none = k.unopened j (λ i. let p = node_of H l k j i in none p.0 p.1 p.2)

  pub runs_not : FindsOpen l j None → fate j H ≡ Fate.running → ⊥
  runs_not (inl none) r = running_opened (sym r ∙ none_unopened none)
  runs_not (inr (p, b, e, off)) r =
      both_ways (has l.running p) off (k.running.all p b (subst (λ i. fate i H ≡ Fate.running) (sym e) r))

  -- a step of a job that is not open is out of turn
  pub out_of_turn : (act : Act) (index : ℕ) (r : Result (Unit {0}) JudgeRefusal) → r ≡ Err (OutOfTurn index)
      → (InTurn H act → fate j H ≡ Fate.running) → FindsOpen l j None → Takes H act index r l
  out_of_turn act index r e turn f = subst (λ t. Takes H act index t l) (sym e) (refl, λ t. runs_not f (turn t))

  pub found_before : (r : Option ℕ) → Finds l j r → is_some r ≡ true → fate j H ≡ Fate.unopened → ⊥
  found_before None f e = absurd (both_ways false refl e)
  found_before (Some p) f e = k.opened_once j (subst (λ i. i ∈ opened H) f.1 (job_at H l k p f.0))

  pub found_never : (r : Option ℕ) → Finds l j r → is_some r ≡ false → fate j H ≡ Fate.unopened
  found_never None f e = none_unopened f
  found_never (Some p) f e = absurd (both_ways true e refl)
