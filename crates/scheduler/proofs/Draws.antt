-- The edges of a step, by slot and by job: they close the same cycles. Assumes nothing.
use Rattle.std.proofs.Common.{◌≡◌, ℕ, ◌<◌, Bool, true, false, not, ◌&&◌, ◌||◌, eqb, ltb, List, length, set, sym, refl, ap, ◌∙◌, subst, subst₂, inl, inr, arith}
use Rattle.std.proofs.lemmas.Bool.{cases_Bool, cases_eq, eqb-true, eq-eqb, ne_eqb, and_parts, or_cases, and_from, lt-ltb, false≢true}
use Rattle.std.proofs.lemmas.List.{get_or-set_same, get_or-set_other}
use Rattle.graph.specs.Edges.{Edges}
use Rattle.graph.specs.Nodes.{has}
use Rattle.graph.specs.Rows.{marked}
use Rattle.graph.proofs.Paths.{path_map}
use Rattle.graph.specs.Paths.{Relation, Path, edge, ◌then◌, ◌∈◌}
use Rattle.history.specs.Machine.{jobs, rising, present, drawn, draws_from, closes_cycle}
use Rattle.history.proofs.Lists.{T_true, true_T, ∈-those, ∈-rising}
use Rattle.history.proofs.Paths.{Drawn, path_sound, path_found}
use Rattle.scheduler.specs.declared.tables.Tables.{Tables}
use Rattle.scheduler.specs.Slots.{status_of, belongs, slot, slot_of}
use Rattle.scheduler.specs.Reading.{item, row, state, Taken, Sound}
use Rattle.scheduler.specs.Marks.{Sources, Draws, slot_edge, TellsCycle}
use Rattle.scheduler.proofs.Counting.{present_taken}
use Rattle.scheduler.proofs.Sounds.{belongs_taken, belongs_number, taken_within, slot_mine, slot_of_number, slots_tell}

pub or_false : (b : Bool) → (b || false) ≡ b
or_false true = refl
or_false false = refl

and_swap : (a b : Bool) → (a && b) ≡ (b && a)
and_swap true true = refl
and_swap true false = refl
and_swap false true = refl
and_swap false false = refl

-- a path along another map of its nodes
pub path_along : {E D : Relation} (f : ℕ → ℕ) → ((a b : ℕ) → E a b → D (f a) (f b)) → {i j : ℕ} → Path E i j → Path D (f i) (f j)
path_along f g {i} {j} (edge e) = edge (g i j e)
path_along f g {i} (◌then◌ {j = m} e p) = ◌then◌ (g i m e) (path_along f g p)

-- a path leads from slot k to itself, or none does
abbrev pub TellsPath : List ℕ → ℕ → Bool → Type 0
TellsPath rows k true = Path (Edges 32 (marked 32 rows)) k k
TellsPath rows k false = Path (Edges 32 (marked 32 rows)) k k → ⊥

-- a row that has got the marks of a set of slots
pub row_drawn : (rows : List ℕ) (k from marks : ℕ) → k < length rows → ((a : ℕ) → has marks a ≡ (has (row rows k) a || has from a)) → (a b : ℕ) → has (row (set rows k marks) b) a ≡ slot_edge rows k from a b
row_drawn rows k from marks low joined a b = elim (cases_eq b k) [
  | inl e ↦
      ap (λ n. has (row (set rows k marks) n) a) e ∙ ap (λ w. has w a) (get_or-set_same rows k marks 0 low) ∙ joined a
      ∙ sym (ap (λ n. has (row rows n) a || eqb b k && has from a) e ∙ ap (λ c. has (row rows k) a || c && has from a) (eq-eqb b k e))
  | inr d ↦
      ap (λ w. has w a) (get_or-set_other rows k b marks 0 d) ∙ sym (or_false (has (row rows b) a))
      ∙ sym (ap (λ c. has (row rows b) a || c && has from a) (ne_eqb b k d))
]

-- the path search over the rows with the new marks
module _ (rows : List ℕ) (k from marks : ℕ) (low : k < length rows) (joined : (a : ℕ) → has marks a ≡ (has (row rows k) a || has from a)) where
  marked_edge : (a b : ℕ) → Edges 32 (marked 32 (set rows k marks)) a b → Edges 32 (slot_edge rows k from) a b
  marked_edge a b (f, g, h) = (f, g, true_T _ (sym (row_drawn rows k from marks low joined a b) ∙ (and_parts (ltb b 32) _ (T_true _ h)).1))

  edge_marked : (a b : ℕ) → Edges 32 (slot_edge rows k from) a b → Edges 32 (marked 32 (set rows k marks)) a b
  edge_marked a b (f, g, h) = (f, g, true_T _ (and_from (ltb b 32) _ (lt-ltb b 32 g) (row_drawn rows k from marks low joined a b ∙ T_true _ h)))

  cycle_with : (r : Bool) → TellsPath (set rows k marks) k r → TellsCycle rows k from r
  cycle_with false h = ((λ e. absurd (false≢true e)), (λ p. absurd (h (path_map edge_marked p))))
  cycle_with true h = ((λ _. path_map marked_edge h), (λ _. refl))

pub cycle_told : (rows rows' : List ℕ) (k from : ℕ) → k < length rows → Draws rows k from rows' → (r : Bool) → TellsPath rows' k r → TellsCycle rows k from r
cycle_told rows rows' k from low draws r h = cycle_with rows k from (row rows' k) low draws.1 r (subst (λ l. TellsPath l k r) draws.0 h)

module _ (t : Tables) (sound : Sound t) (j k : ℕ) (is : k ≡ slot_of j t.jobs.slots) (within : k < 32) where
  pub tell : (i : ℕ) → eqb (slot_of i t.jobs.slots) k ≡ eqb i j
  tell i = subst (λ n. eqb (slot_of i t.jobs.slots) n ≡ eqb i j) (sym is) (slots_tell t sound i j (omega arith))

  pub mine : belongs j (slot t.jobs.slots k) ≡ true
  mine = subst (λ n. belongs j (slot t.jobs.slots n) ≡ true) (sym is) (slot_mine t sound j (omega arith))

  module _ (x from : ℕ) (writes : Bool) (sources : Sources (item t.items x) writes k from) where
    pub from_taken : (a : ℕ) → has from a ≡ true → Taken t.jobs.slots a
    from_taken a e =
        let p = and_parts _ (not (eqb a k)) (sym (sources a) ∙ e) in
        elim (or_cases (has (item t.items x).writers a) _ p.0) [
          | inl w ↦ sound.2.2 x a w
          | inr r ↦ sound.2.1 x a (and_parts writes _ r).1
        ]

    -- an edge between slots leads from a taken slot to a taken slot
    pub edge_taken : (a b : ℕ) → slot_edge t.jobs.edges k from a b ≡ true → Taken t.jobs.slots a × Taken t.jobs.slots b
    edge_taken a b e = elim (or_cases (has (row t.jobs.edges b) a) _ e) [
      | inl old ↦ sound.2.0 a b old
      | inr new ↦
          (let p = and_parts (eqb b k) (has from a) new in
          (from_taken a p.1, subst (Taken t.jobs.slots) (sym (eqb-true b k p.0)) (belongs_taken j _ mine)))
    ]

    -- the edges between slots are the machine's between their jobs
    pub drawn_slots : (values : List ℕ) (room a b : ℕ) → slot_edge t.jobs.edges k from (slot_of a t.jobs.slots) (slot_of b t.jobs.slots) ≡ drawn (state t values room) j x writes a b
    unfolding state
    drawn_slots values room a b =
        ap (λ c. has (row t.jobs.edges (slot_of b t.jobs.slots)) (slot_of a t.jobs.slots) || eqb (slot_of b t.jobs.slots) k && c)
        (sources (slot_of a t.jobs.slots) ∙ and_swap _ (not (eqb (slot_of a t.jobs.slots) k)) ∙ ap (λ c. not c && (has (item t.items x).writers (slot_of a t.jobs.slots) || writes && has (item t.items x).readers (slot_of a t.jobs.slots))) (tell a))
        ∙ ap (λ c. has (row t.jobs.edges (slot_of b t.jobs.slots)) (slot_of a t.jobs.slots) || c && draws_from (state t values room) j x writes a) (tell b)

    module _ (values : List ℕ) (room : ℕ) where
      slots_to_jobs : Path (Edges 32 (slot_edge t.jobs.edges k from)) k k → Path (Drawn (drawn (state t values room) j x writes)) j j
      slots_to_jobs p =
          let along = path_along (λ n. (slot t.jobs.slots n).job) (λ a b e.
          let m = edge_taken a b (T_true _ e.2) in
          sym (drawn_slots values room (slot t.jobs.slots a).job (slot t.jobs.slots b).job)
          ∙ ap (λ n. slot_edge t.jobs.edges k from n (slot_of (slot t.jobs.slots b).job t.jobs.slots)) (slot_of_number t sound a m.0)
          ∙ ap (slot_edge t.jobs.edges k from a) (slot_of_number t sound b m.1)
          ∙ T_true _ e.2) p in
          let number = belongs_number j (slot t.jobs.slots k) mine in
          subst₂ (Path (Drawn (drawn (state t values room) j x writes))) number number along

      drawn_taken : (a b : ℕ) → drawn (state t values room) j x writes a b ≡ true → Taken t.jobs.slots (slot_of a t.jobs.slots) × Taken t.jobs.slots (slot_of b t.jobs.slots)
      drawn_taken a b e = edge_taken _ _ (drawn_slots values room a b ∙ e)

      jobs_to_slots : Path (Drawn (drawn (state t values room) j x writes)) j j → Path (Edges 32 (slot_edge t.jobs.edges k from)) k k
      jobs_to_slots p =
          let along = path_along {D = Edges 32 (slot_edge t.jobs.edges k from)} (λ n. slot_of n t.jobs.slots) (λ a b e.
          let m = drawn_taken a b e in
          (taken_within t sound _ m.0, taken_within t sound _ m.1, true_T _ (drawn_slots values room a b ∙ e))) p in
          subst₂ (Path (Edges 32 (slot_edge t.jobs.edges k from))) (sym is) (sym is) along

      -- a job that has a slot is present
      listed_job : (a : ℕ) → Taken t.jobs.slots (slot_of a t.jobs.slots) → a ∈ jobs (state t values room)
      unfolding jobs state
      listed_job a h =
          let low = taken_within t sound _ h in
          let its = slot_mine t sound a low in
          ∈-those (λ i. present (status_of (slot t.jobs.slots (slot_of i t.jobs.slots)).status)) a (rising 0 t.next)
          (∈-rising 0 t.next a (omega arith) (let n = sound.1.1 _ a its in omega arith))
          (present_taken _ ∙ h)

      -- the search among the slots tells whether the step closes a cycle
      pub search_tells : (r : Bool) → TellsCycle t.jobs.edges k from r → closes_cycle (state t values room) j x writes ≡ r
      search_tells true h = path_found (drawn (state t values room) j x writes) (jobs (state t values room)) j j (λ a b e. listed_job a (drawn_taken a b e).0) (slots_to_jobs (h.0 refl))
      search_tells false h = elim (cases_Bool (closes_cycle (state t values room) j x writes)) [
        | inl e ↦ absurd (false≢true (h.1 (jobs_to_slots (path_sound (drawn (state t values room) j x writes) (jobs (state t values room)) j j e))))
        | inr e ↦ e
      ]
