-- Each turn of a run keeps the invariant, so every run does.
use Rattle.std.proofs.Common.{◌≡◌, ℕ, Bool, true, false, not, eqb, ltb, leb, ◌⊎◌, List, [], ◌∷◌, ◌++◌, length, get_or, Some, None, Option, sym, refl, ap, ◌∙◌, subst, subst₂, inl, inr, arith}
use mathlib.Core.Path.{subst₃, fun_ext}
use Rattle.std.proofs.lemmas.Bool.{eqb-true, eqb-false, leb-false}
use Rattle.std.proofs.lemmas.List.{append-nil, append_assoc}
use Rattle.graph.specs.Paths.{Path, edge, ◌then◌}
use Rattle.trace.specs.declared.act.Act.{Act}
use Rattle.trace.specs.declared.act.Act.TheVariants.{Open, Read, Write, Commit, Abort, Peek, Retire}
use Rattle.history.specs.declared.holding.Holding.{Holding}
use Rattle.history.specs.declared.refusal.Refusal.{Refusal}
use Rattle.history.specs.declared.refusal.Refusal.TheVariants.{TableFull, NumbersSpent, NotPresent, AlreadyCommitted, ItemNotServed, ItemHeld, ClosesCycle, NoRoom}
use Rattle.history.specs.Refusals.{aborts}
use Rattle.history.specs.Acts.{Fate, after, fate}
use Rattle.history.specs.Conflicts.{Access, accesses}
use Rattle.history.specs.Machine.{State, Status, made, jobs, served, seen, closes_cycle, removed, retiring, Call, begin, read, write, commit, abort, retire, peek, Answer, refused, ◌else◌, refuse_if, not_running, held_by_another, refusal, granted_answer, granted_state, refused_state, by_refusal, answer, after_call, Steps}
use Rattle.history.specs.Runs.{Turn, Runs, acts, acts_of, retired_by, retired_of}
use Rattle.history.proofs.Lists.{true_not_false, mem}
use Rattle.history.proofs.Replay.{kept}
use Rattle.history.proofs.Records.{fate_more, accesses_join}
use Rattle.history.proofs.Graphs.{Among}
use Rattle.history.proofs.Values.{FreeOr, free, own}
use Rattle.history.proofs.Fates.{shown}
use Rattle.history.proofs.Invariant.{Inv, runs}
use Rattle.history.proofs.Changes.{inv_opened, inv_ended, inv_aborted, inv_read, inv_written}
use Rattle.history.proofs.Retiring.{inv_retiring}

-- WHY A STEP IS REFUSED

-- the job does not run, the item is not served, or another job holds it
abbrev pub Barred : ℕ → Status → Bool → Option Holding → Type 0
Barred j σ b o =
    (σ ≡ Status.running → ⊥) ⊎ ((b ≡ true) ⊎ ((h : Holding) × (o ≡ Some h) × (h.job ≡ j → ⊥)))

pub data StepCases (j : ℕ) (σ : Status) (b : Bool) (o : Option Holding) (c : Bool) : Option Refusal → Type 0 where
  barred : (r : Refusal) → aborts r ≡ false → Barred j σ b o → StepCases j σ b o c (Some r)
  closing : σ ≡ Status.running → b ≡ false → FreeOr j o → c ≡ true → StepCases j σ b o c (Some ClosesCycle)
  granted : σ ≡ Status.running → b ≡ false → FreeOr j o → c ≡ false → StepCases j σ b o c None

pub step_cases : (j : ℕ) (σ : Status) (b : Bool) (o : Option Holding) (c : Bool)
    → StepCases j σ b o c (not_running σ else refuse_if b ItemNotServed else held_by_another j o else refuse_if c ClosesCycle)
step_cases j Status.absent b o c = barred NotPresent refl (inl (λ e. let z : ◌≡◌ {A = ℕ} 0 1 = cc in omega arith))
step_cases j Status.committed b o c = barred AlreadyCommitted refl (inl (λ e. let z : ◌≡◌ {A = ℕ} 0 1 = cc in omega arith))
step_cases j Status.running true o c = barred ItemNotServed refl (inr (inl refl))
step_cases j Status.running false None true = closing refl refl free refl
step_cases j Status.running false None false = granted refl refl free refl
step_cases j Status.running false (Some h) c = by_holder (eqb h.job j) refl c
  where
    by_holder : (d : Bool) → eqb h.job j ≡ d → (c : Bool)
        → StepCases j Status.running false (Some h) c
        (refuse_if (not d) (ItemHeld h.job) else refuse_if c ClosesCycle)
    by_holder false e c = barred (ItemHeld h.job) refl (inr (inr (h, refl, eqb-false h.job j e)))
    by_holder true e true = closing refl refl (own h (eqb-true h.job j e)) refl
    by_holder true e false = granted refl refl (own h (eqb-true h.job j e)) refl

-- A TURN

-- the invariant, of a record
abbrev pub Holds : List ℕ → List Act → List ℕ → State → Type 0
Holds opening H R st = Inv opening (λ j. fate j H) (accesses H) R st

module _ (opening : List ℕ) (H : List Act) (R : List ℕ) (st : State) where
  -- one act more on record
  recorded : (act : Act) (Q : List ℕ) (t : State)
      → Inv opening (λ j. after act j (fate j H)) (accesses H ++ accesses (act ∷ [])) Q t
      → Holds opening (H ++ act ∷ []) Q t
  recorded act Q t v =
      subst₂ (λ (F : ℕ → Fate) (s : List Access). Inv opening F s Q t)
      (fun_ext (λ j. sym (fate_more j H act))) (sym (accesses_join H (act ∷ []))) v

  -- where the act is no access
  quietly : (act : Act) (Q : List ℕ) (t : State) → accesses (act ∷ []) ≡ []
      → Inv opening (λ j. after act j (fate j H)) (accesses H) Q t → Holds opening (H ++ act ∷ []) Q t
  quietly act Q t e v =
      recorded act Q t
      (subst (λ (s : List Access). Inv opening (λ j. after act j (fate j H)) s Q t)
      (sym (ap (λ (u : List Access). accesses H ++ u) e ∙ append-nil (accesses H))) v)

  unmoved : Holds opening H R st → Holds opening (H ++ []) (R ++ []) st
  unmoved v = subst₂ (λ (K : List Act) (Q : List ℕ). Holds opening K Q st) (sym (append-nil H)) (sym (append-nil R)) v

  -- what is to be shown of a call, by the refusal that it meets
  abbrev Kept-by : Call → ℕ → Option Refusal → Type 0
  Kept-by c left ρ =
      Holds opening (H ++ acts c (by_refusal ρ (granted_answer st c) (λ r. refused r)))
      (R ++ retired_by (by_refusal ρ (granted_answer st c) (λ r. refused r)))
      (by_refusal ρ (granted_state st c left) (λ r. refused_state st c r))

  module _ (v : Holds opening H R st) where
    none_retired : (K : List Act) (t : State) → Holds opening K R t → Holds opening K (R ++ []) t
    none_retired K t w = subst (λ (Q : List ℕ). Holds opening K Q t) (sym (append-nil R)) w

    running : (j : ℕ) → st.status j ≡ Status.running → fate j H ≡ Fate.running
    running j e = runs opening (λ i. fate i H) (accesses H) R st v j e

    aborted : (j : ℕ) → st.status j ≡ Status.running → Holds opening (H ++ Abort j ∷ []) (R ++ []) (removed j st)
    aborted j e =
        none_retired (H ++ Abort j ∷ []) (removed j st)
        (quietly (Abort j) R (removed j st) refl
        (inv_aborted opening (λ i. fate i H) (accesses H) R st v j (running j e)))

    by_read : (j x left : ℕ) (ρ : Option Refusal)
        → StepCases j (st.status j) (leb (served st) x) (st.held x) (closes_cycle st j x false) ρ
        → Kept-by (read j x) left ρ
    unfolding granted_answer granted_state refused_state
    by_read j x left _ (barred r e why) = rw e (unmoved v)
    by_read j x left _ (closing e b f c) = aborted j e
    by_read j x left _ (granted e b f c) =
        none_retired (H ++ Read j x (seen st j x) ∷ []) _
        (recorded (Read j x (seen st j x)) R _
        (inv_read opening (λ i. fate i H) (accesses H) R st v j x (running j e) (leb-false (served st) x b) f c))

    by_write : (j x val left : ℕ) (ρ : Option Refusal)
        → StepCases j (st.status j) (leb (served st) x) (st.held x) (closes_cycle st j x true) ρ
        → Kept-by (write j x val) left ρ
    unfolding granted_answer granted_state refused_state
    by_write j x val left _ (barred r e why) = rw e (unmoved v)
    by_write j x val left _ (closing e b f c) = aborted j e
    by_write j x val left _ (granted e b f c) =
        none_retired (H ++ Write j x val ∷ []) _
        (recorded (Write j x val) R _
        (inv_written opening (λ i. fate i H) (accesses H) R st v j x val (running j e) (leb-false (served st) x b) f c))

    by_begin : (left : ℕ) (b d : Bool) → Kept-by begin left (refuse_if b TableFull else refuse_if d NumbersSpent)
    unfolding granted_answer granted_state refused_state
    by_begin left true d = unmoved v
    by_begin left false true = unmoved v
    by_begin left false false =
        none_retired (H ++ Open st.next ∷ []) _
        (quietly (Open st.next) R _ refl (inv_opened opening (λ i. fate i H) (accesses H) R st v))

    by_commit : (j left : ℕ) (σ : Status) → st.status j ≡ σ → (b : Bool)
        → Kept-by (commit j) left (not_running σ else refuse_if b NoRoom)
    unfolding granted_answer granted_state refused_state
    by_commit j left Status.absent e b = unmoved v
    by_commit j left Status.committed e b = unmoved v
    by_commit j left Status.running e true = unmoved v
    by_commit j left Status.running e false =
        none_retired (H ++ Commit j ∷ []) _
        (quietly (Commit j) R _ refl (inv_ended opening (λ i. fate i H) (accesses H) R st v j (running j e) left))

    by_abort : (j left : ℕ) (σ : Status) → st.status j ≡ σ → Kept-by (abort j) left (not_running σ)
    unfolding granted_answer granted_state refused_state
    by_abort j left Status.absent e = unmoved v
    by_abort j left Status.committed e = unmoved v
    by_abort j left Status.running e = aborted j e

    by_retire : (n left : ℕ) → Kept-by (retire n) left None
    unfolding granted_answer granted_state refused_state
    by_retire n left =
        quietly Retire (R ++ retiring n st) _ refl
        (inv_retiring opening (λ i. fate i H) (accesses H) n R st v)

    by_peek : (x left : ℕ) (b : Bool) → Kept-by (peek x) left (refuse_if b ItemNotServed)
    unfolding granted_answer granted_state refused_state
    by_peek x left true = unmoved v
    by_peek x left false = none_retired (H ++ Peek x (get_or st.values x 0) ∷ []) st (quietly (Peek x (get_or st.values x 0)) R st refl v)

    inv_call : (c : Call) (left : ℕ) → Kept-by c left (refusal st c)
    unfolding refusal
    inv_call begin left = by_begin left (leb st.slots (length (jobs st))) (ltb 4294967295 st.next)
    inv_call (read j x) left =
        by_read j x left _ (step_cases j (st.status j) (leb (served st) x) (st.held x) (closes_cycle st j x false))
    inv_call (write j x val) left =
        by_write j x val left _ (step_cases j (st.status j) (leb (served st) x) (st.held x) (closes_cycle st j x true))
    inv_call (commit j) left = by_commit j left (st.status j) refl _
    inv_call (abort j) left = by_abort j left (st.status j) refl
    inv_call (retire n) left = by_retire n left
    inv_call (peek x) left = by_peek x left (leb (served st) x)

    pub inv_turn : (c : Call) (a : Answer) (t : State) → Steps st c a t
        → Holds opening (H ++ acts c a) (R ++ retired_by a) t
    unfolding answer after_call
    inv_turn c a t q =
        subst₂ (λ (b : Answer) (u : State). Holds opening (H ++ acts c b) (R ++ retired_by b) u)
        (sym q.answers) (sym q.becomes) (inv_call c t.room)

-- A RUN

pub inv_run : (opening : List ℕ) (us : List Turn) (H : List Act) (R : List ℕ) (st t : State)
    → Holds opening H R st → Runs st us t → Holds opening (H ++ acts_of us) (R ++ retired_of us) t
inv_run opening [] H R st t v e =
    subst₃ (λ (K : List Act) (Q : List ℕ) (u : State). Holds opening K Q u) (sym (append-nil H)) (sym (append-nil R)) (sym e) v
inv_run opening (u ∷ us) H R st t v (m, q, r) =
    subst₂ (λ (K : List Act) (Q : List ℕ). Holds opening K Q t)
    (append_assoc H (acts u.call u.answer) (acts_of us))
    (append_assoc R (retired_by u.answer) (retired_of us))
    (inv_run opening us (H ++ acts u.call u.answer) (R ++ retired_by u.answer) m t
    (inv_turn opening H R st v u.call u.answer m q) r)

pub inv_made : (slots first room : ℕ) (opening : List ℕ) → Holds opening [] [] (made slots first opening room)
unfolding made mem shown kept
inv_made slots first room opening =
    record {
      long = refl;
      fresh = λ j l. refl;
      statuses = λ j. refl;
      known = tt;
      reading = record { only = λ x i e. true_not_false false e refl; all = λ x i l d. absurd d };
      writing = record { only = λ x i e. true_not_false false e refl; all = λ x i l d. absurd d };
      drawing = record { only = λ i j e. true_not_false false e refl; all = λ i j l m d. absurd d };
      holding = λ x h e. let z : ◌≡◌ {A = ℕ} 0 1 = cc in absurd (omega arith);
      graph =
          record {
            committed = λ j h. absurd h;
            distinct = tt;
            closed = λ i j e h. absurd h;
            forward = tt;
            acyclic = λ c. first_edge c.1;
          };
      plays = λ k c. (opening, refl, record { long = refl; shows = λ x. refl });
    }
  where
    first_edge : {i j : ℕ} → Path (Among (λ j. fate j []) []) i j → ⊥
    first_edge (edge e) = e.2
    first_edge (◌then◌ e p) = e.2
