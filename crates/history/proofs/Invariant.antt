-- What holds of every state that a run comes to, what it answers of a state, and that a step of a job
-- that runs is tested exactly.
use Rattle.std.proofs.Common.{◌≡◌, ℕ, ◌<◌, ◌≤◌, Bool, true, false, T, List, [], ◌∷◌, ◌++◌, length, Some, sym, ap, ◌∙◌, subst, inl, inr, zero-add, arith}
use Rattle.std.proofs.lemmas.Bool.{cases_lt}
use Rattle.graph.specs.Paths.{Cycle, ◌∈◌}
use Rattle.history.specs.declared.holding.Holding.{Holding}
use Rattle.history.specs.Acts.{Fate, not_aborted}
use Rattle.history.specs.Conflicts.{Access}
use Rattle.history.specs.Machine.{State, Status, rising, present, jobs, served, drawn, closes_cycle}
use Rattle.history.proofs.Lists.{true_not_false, mem, ∈-those, ∈-rising}
use Rattle.history.proofs.Paths.{path_sound, path_found}
use Rattle.history.proofs.Records.{Occurs, Did, leads_occurs}
use Rattle.history.proofs.Marks.{Marked, Edged, marked_same, edged_same, edged_step}
use Rattle.history.proofs.Graphs.{Among, Live, Retired, running_lives, retired_weaken, retired_step, path_from_cycle, cycle_from_path}
use Rattle.history.proofs.Values.{Plays}
use Rattle.history.proofs.Fates.{shown, shown_running, shown_present, kept_opened, not_mem, Known, known_more, unopened_running}

pub record Inv (opening : List ℕ) (F : ℕ → Fate) (s : List Access) (R : List ℕ) (st : State) : Type 0 where
  pub long : length st.values ≡ length opening
  pub fresh : (j : ℕ) → st.next ≤ j → F j ≡ Fate.unopened
  pub statuses : (j : ℕ) → st.status j ≡ shown (F j) (mem j R)
  pub known : Known F (served st) s
  pub reading : Marked (Live F R) false s st.readers
  pub writing : Marked (Live F R) true s st.writers
  pub drawing : Edged (Live F R) s st.edges
  pub holding : (x : ℕ) (h : Holding) → st.held x ≡ Some h → (F h.job ≡ Fate.running) × Did true x h.job s
  pub graph : Retired F s R
  pub plays : Plays opening F s st.held st.values

-- the access that a step makes
abbrev pub step : ℕ → ℕ → ℕ → Bool → Access
step j x val w = record { job = j; item = x; writes = w; value = val }

module _ (opening : List ℕ) (F : ℕ → Fate) (s : List Access) (R : List ℕ) (st : State) (v : Inv opening F s R st) where
  -- QUESTIONS

  -- a job that runs in the machine runs in the record, and the other way round
  pub runs : (j : ℕ) → st.status j ≡ Status.running → F j ≡ Fate.running
  runs j e = shown_running (F j) (mem j R) (sym (v.statuses j) ∙ e)

  pub runs_back : (j : ℕ) → F j ≡ Fate.running → st.status j ≡ Status.running
  unfolding shown
  runs_back j e = v.statuses j ∙ ap (λ (f : Fate). shown f (mem j R)) e

  pub runs_lives : (j : ℕ) → F j ≡ Fate.running → Live F R j
  runs_lives j e = running_lives F s R j v.graph e

  -- a job that lives is listed
  pub lives_listed : (j : ℕ) → Live F R j → j ∈ jobs st
  unfolding jobs
  lives_listed j (t, n) =
      ∈-those (λ i. present (st.status i)) j (rising 0 st.next)
      (∈-rising 0 st.next j (omega arith) (subst (λ (z : ℕ). j < z) (sym (zero-add st.next)) below))
      (ap present (v.statuses j) ∙ shown_present (F j) (mem j R) t (not_mem j R n))
    where
      below : j < st.next
      below =
          elim (cases_lt j st.next) [ inl l ↦ l | inr l ↦ kept_opened (F j) t (v.fresh j l) ]

  -- THE SAME JOBS LIVE AMONG THOSE THAT ACCESSED SOMETHING

  module _ (G : ℕ → Fate) (alike : (i : ℕ) → Occurs i s → not_aborted (G i) ≡ not_aborted (F i)) where
    to : (i : ℕ) → Occurs i s → Live F R i → Live G R i
    to i o l = (subst T (sym (alike i o)) l.0, l.1)

    from : (i : ℕ) → Occurs i s → Live G R i → Live F R i
    from i o l = (subst T (alike i o) l.0, l.1)

    pub alike_reading : Marked (Live G R) false s st.readers
    alike_reading = marked_same (Live F R) (Live G R) s to from false st.readers v.reading

    pub alike_writing : Marked (Live G R) true s st.writers
    alike_writing = marked_same (Live F R) (Live G R) s to from true st.writers v.writing

    pub alike_drawing : Edged (Live G R) s st.edges
    alike_drawing = edged_same (Live F R) (Live G R) s to from st.edges v.drawing

    pub alike_graph : ((j : ℕ) → F j ≡ Fate.committed → G j ≡ Fate.committed) → Retired G s R
    alike_graph stay =
        retired_weaken F G s s R v.graph stay
        (λ i j e.
        let o = leads_occurs s i j e.2 in
        (subst T (alike i o.0) e.0, subst T (alike j o.1) e.1, e.2))

  -- A STEP OF A JOB THAT RUNS

  module _ (j x val : ℕ) (w : Bool) (e : F j ≡ Fate.running) where
    pub step_edges : Edged (Live F R) (s ++ step j x val w ∷ []) (drawn st j x w)
    step_edges =
        edged_step (Live F R) s (step j x val w) st.edges st.readers st.writers (runs_lives j e) v.drawing
        v.reading v.writing

    -- the machine's test finds the cycle that the whole record would have, and no other
    pub cycle_found : Cycle (Among F (s ++ step j x val w ∷ [])) → closes_cycle st j x w ≡ true
    cycle_found c =
        path_found (drawn st j x w) (jobs st) j j
        (λ a b d. lives_listed a (step_edges.only a b d).0)
        (path_from_cycle F s R (step j x val w) v.graph e (drawn st j x w) step_edges c)

    pub cycle_there : closes_cycle st j x w ≡ true → Cycle (Among F (s ++ step j x val w ∷ []))
    cycle_there t =
        cycle_from_path F s R (step j x val w) v.graph e (drawn st j x w) step_edges
        (path_sound (drawn st j x w) (jobs st) j j t)

    pub step_graph : closes_cycle st j x w ≡ false → Retired F (s ++ step j x val w ∷ []) R
    step_graph t =
        retired_step F s R (step j x val w) v.graph e (drawn st j x w) step_edges
        (λ p.
        true_not_false (closes_cycle st j x w)
        (path_found (drawn st j x w) (jobs st) j j (λ a b d. lives_listed a (step_edges.only a b d).0) p) t)

    pub step_known : x < served st → Known F (served st) (s ++ step j x val w ∷ [])
    step_known l = known_more F (served st) s (step j x val w) (λ q. unopened_running (sym q ∙ e)) l v.known
