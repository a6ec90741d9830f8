-- The job that retires next, by slot and by number. Assumes nothing.
use Rattle.std.proofs.Common.{◌≡◌, ℕ, ◌<◌, ◌≤◌, Bool, true, false, not, ◌&&◌, ◌||◌, T, ltb, List, [], ◌∷◌, get_or, Some, None, Option, sym, refl, ap, ◌∙◌, subst, inl, inr, arith}
use Rattle.std.proofs.lemmas.Bool.{cases_Bool, and_parts, and_from, both_ways, lt-ltb, not-true, not_from_false}
use Rattle.std.proofs.lemmas.List.{get_or-map}
use Rattle.graph.specs.Edges.{Edges}
use Rattle.graph.specs.Nodes.{has}
use Rattle.graph.specs.Orders.{Picks, First, Free as NoneLeads}
use Rattle.graph.specs.Paths.{◌∈◌}
use Rattle.graph.specs.Rows.{marked}
use Rattle.history.specs.Machine.{Status, jobs, those, rising, any, present, has_committed, retirable}
use Rattle.history.proofs.Lists.{T_true, true_T, ∈-those, those-∈, any_true, true_any, ∈-rising, Ascending, ascending_rising, ascending_those, first_smallest}
use Rattle.scheduler.specs.declared.slots.Slot.{Slot}
use Rattle.scheduler.specs.declared.slots.SlotStatus.{SlotStatus}
use Rattle.scheduler.specs.declared.slots.SlotStatus.TheVariants.{Free, Running, Committed}
use Rattle.scheduler.specs.declared.tables.Tables.{Tables}
use Rattle.scheduler.specs.Slots.{status_of, taken, free_slot, slot, slot_of, same_status, SlotsWith, numbers}
use Rattle.scheduler.specs.Reading.{row, state, Taken, Sound, NextRetires}
use Rattle.scheduler.proofs.Counting.{present_taken}
use Rattle.scheduler.proofs.Sounds.{belongs_number, taken_within, slot_mine, slot_of_number}

committed_says : (st : SlotStatus) → has_committed (status_of st) ≡ same_status st Committed
committed_says Free = refl
committed_says Running = refl
committed_says Committed = refl

committed_taken : (st : SlotStatus) → same_status st Committed ≡ true → taken st ≡ true
committed_taken Free e = e
committed_taken Running e = refl
committed_taken Committed e = refl

taken_says : (st : SlotStatus) → taken st ≡ (same_status st Running || same_status st Committed)
taken_says Free = refl
taken_says Running = refl
taken_says Committed = refl

-- the first of rising numbers that pass, where one that passes is known and is the smallest
those_head : (xs : List ℕ) (j : ℕ) → Ascending xs → j ∈ xs → ((i : ℕ) → i ∈ xs → j ≤ i) → (js : List ℕ) × (xs ≡ j ∷ js)
those_head [] j up h least = absurd h
those_head (x ∷ xs) j up h least =
    let a = first_smallest x xs up j h in
    let b = least x (inl refl) in
    let e : x ≡ j = omega arith in
    (xs, ap (λ n. n ∷ xs) e)

module _ (t : Tables) (sound : Sound t) (values : List ℕ) (room : ℕ) where
  by_slot : ℕ → Status
  by_slot j = status_of (slot t.jobs.slots (slot_of j t.jobs.slots)).status

  leads : ℕ → ℕ → Bool
  leads i j = has (row t.jobs.edges (slot_of j t.jobs.slots)) (slot_of i t.jobs.slots)

  -- a job that has a slot is present
  is_present : (j : ℕ) → Taken t.jobs.slots (slot_of j t.jobs.slots) → j ∈ jobs (state t values room)
  unfolding jobs state
  is_present j h =
      let its = slot_mine t sound j (taken_within t sound _ h) in
      ∈-those (λ i. present (status_of (slot t.jobs.slots (slot_of i t.jobs.slots)).status)) j (rising 0 t.next)
      (∈-rising 0 t.next j (omega arith) (let n = sound.1.1 _ j its in omega arith))
      (present_taken _ ∙ h)

  present_has_slot : (j : ℕ) → j ∈ jobs (state t values room) → Taken t.jobs.slots (slot_of j t.jobs.slots)
  unfolding jobs state
  present_has_slot j h = sym (present_taken _) ∙ (those-∈ (λ i. present (status_of (slot t.jobs.slots (slot_of i t.jobs.slots)).status)) j (rising 0 t.next) h).1

  -- a job may retire: it is committed and nothing present leads into it
  may : ℕ → Bool
  may j = has_committed (by_slot j) && not (any (λ i. leads i j) (jobs (state t values room)))

  retirable_is : retirable (state t values room) ≡ those may (jobs (state t values room))
  unfolding retirable state may by_slot leads
  retirable_is = refl

  ascending : Ascending (retirable (state t values room))
  unfolding retirable jobs
  ascending = ascending_those _ _ (ascending_those _ _ (ascending_rising 0 _))

  module _ (present-set committed-set : ℕ) (all : (a : ℕ) → has present-set a ≡ (ltb a 32 && taken (slot t.jobs.slots a).status)) (done : SlotsWith Committed t.jobs.slots committed-set) where
    -- by slot: nothing leads into slot n
    NothingInto : ℕ → Type 0
    NothingInto n = NoneLeads (Edges 32 (marked 32 t.jobs.edges)) (has present-set) n

    nothing_into : (n : ℕ) → n < 32 → NothingInto n → (a : ℕ) → has (row t.jobs.edges n) a ≡ false
    unfolding NothingInto
    nothing_into n low free a = elim (cases_Bool (has (row t.jobs.edges n) a)) [
      | inl e ↦
          (let m = sound.2.0 a n e in
          let l = taken_within t sound a m.0 in
          absurd (free a (true_T _ (all a ∙ and_from _ _ (lt-ltb a 32 l) m.0)) (l, low, true_T _ (and_from _ _ (lt-ltb n 32 low) e))))
      | inr e ↦ e
    ]

    into_nothing : (n : ℕ) → ((a : ℕ) → has (row t.jobs.edges n) a ≡ false) → NothingInto n
    unfolding NothingInto
    into_nothing n none a h (l, low, e) = both_ways _ (none a) (and_parts (ltb n 32) _ (T_true _ e)).1

    -- a slot that may retire is that of a job that may
    slot_may : (n : ℕ) → n < 32 → T (has committed-set n) → NothingInto n → (slot t.jobs.slots n).job ∈ retirable (state t values room)
    unfolding may by_slot leads
    slot_may n low e free =
        let says = (and_parts (ltb n 32) _ (sym (done n) ∙ T_true _ e)).1 in
        let is-taken = committed_taken _ says in
        let its = slot_of_number t sound n is-taken in
        let none = nothing_into n low free in
        let j = (slot t.jobs.slots n).job in
        let committed : has_committed (by_slot j) ≡ true = ap (λ k. has_committed (status_of (slot t.jobs.slots k).status)) its ∙ committed_says _ ∙ says in
        let no_edge : any (λ i. leads i j) (jobs (state t values room)) ≡ false =
        elim (cases_Bool (any (λ i. leads i j) (jobs (state t values room)))) [
          | inl some ↦
              (let w = any_true (λ i. leads i j) (jobs (state t values room)) some in
              absurd (both_ways _ (none (slot_of w.0 t.jobs.slots)) (sym (ap (λ k. has (row t.jobs.edges k) (slot_of w.0 t.jobs.slots)) its) ∙ w.2)))
          | inr e ↦ e
        ] in
        subst (λ l. j ∈ l) (sym retirable_is)
        (∈-those may j (jobs (state t values room)) (is_present j (subst (Taken t.jobs.slots) (sym its) is-taken)) (and_from _ _ committed (not_from_false _ no_edge)))

    -- a job that may retire has a slot that may
    may_slot : (j : ℕ) → j ∈ retirable (state t values room) → (slot_of j t.jobs.slots < 32) × T (has committed-set (slot_of j t.jobs.slots)) × NothingInto (slot_of j t.jobs.slots)
    unfolding may by_slot leads
    may_slot j h =
        let m = those-∈ may j (jobs (state t values room)) (subst (λ l. j ∈ l) retirable_is h) in
        let is-taken = present_has_slot j m.0 in
        let low = taken_within t sound _ is-taken in
        let p = and_parts (has_committed (by_slot j)) _ m.1 in
        let says = sym (committed_says (slot t.jobs.slots (slot_of j t.jobs.slots)).status) ∙ p.0 in
        let no_edge = not-true _ p.1 in (
          low,
          true_T _ (done _ ∙ and_from _ _ (lt-ltb _ 32 low) says),
          into_nothing _ (λ a. elim (cases_Bool (has (row t.jobs.edges (slot_of j t.jobs.slots)) a)) [
            | inl e ↦
                (let b = sound.2.0 a _ e in
                let its = slot_of_number t sound a b.0 in
                let i = (slot t.jobs.slots a).job in
                absurd (both_ways _ no_edge (true_any (λ i. leads i j) i (jobs (state t values room)) (is_present i (subst (Taken t.jobs.slots) (sym its) b.0)) (ap (has (row t.jobs.edges (slot_of j t.jobs.slots))) its ∙ e))))
            | inr e ↦ e
          ]),
        )

    pub none_retires : Picks (Edges 32 (marked 32 t.jobs.edges)) 32 (numbers t.jobs.slots) (has present-set) (has committed-set) None → retirable (state t values room) ≡ []
    unfolding NothingInto
    none_retires h = empty (retirable (state t values room)) (λ j m. let s = may_slot j m in h (slot_of j t.jobs.slots) s.0 s.1 s.2)
      where
        empty : (xs : List ℕ) → ((j : ℕ) → j ∈ xs → ⊥) → xs ≡ []
        empty [] none = refl
        empty (x ∷ xs) none = absurd (none x (inl refl))

    key_is : (n : ℕ) → n < 32 → get_or (numbers t.jobs.slots) n 0 ≡ (slot t.jobs.slots n).job
    key_is n low = get_or-map (λ (s : Slot). s.job) t.jobs.slots n free_slot 0 (omega (arith, sound.0.0))

    pub first_retires : (n : ℕ) → First (Edges 32 (marked 32 t.jobs.edges)) 32 (numbers t.jobs.slots) (has present-set) (has committed-set) n → (js : List ℕ) × (retirable (state t values room) ≡ (slot t.jobs.slots n).job ∷ js)
    unfolding NothingInto
    first_retires n f =
        those_head (retirable (state t values room)) (slot t.jobs.slots n).job ascending (slot_may n f.inside f.among f.free)
        (λ i m.
        let s = may_slot i m in
        let its = belongs_number i _ (slot_mine t sound i s.0) in
        let a = key_is n f.inside in
        let b = key_is (slot_of i t.jobs.slots) s.0 in
        elim (f.first (slot_of i t.jobs.slots) s.0 s.1 s.2) [ inl less ↦ omega arith | inr same ↦ (let e = same.0 in omega arith) ])

    pub picked_taken : (n : ℕ) → First (Edges 32 (marked 32 t.jobs.edges)) 32 (numbers t.jobs.slots) (has present-set) (has committed-set) n → n ≡ slot_of (slot t.jobs.slots n).job t.jobs.slots
    picked_taken n f = sym (slot_of_number t sound n (committed_taken _ (and_parts (ltb n 32) _ (sym (done n) ∙ T_true _ f.among)).1))

-- the taken slots are those of the running and of the committed jobs
present_slots : (slots : List Slot) (running committed both : ℕ) → SlotsWith Running slots running → SlotsWith Committed slots committed → ((a : ℕ) → has both a ≡ (has running a || has committed a)) → (a : ℕ) → has both a ≡ (ltb a 32 && taken (slot slots a).status)
present_slots slots running committed both r c b a =
    b a ∙ ap (λ x. x || has committed a) (r a) ∙ ap (λ x. (ltb a 32 && same_status (slot slots a).status Running) || x) (c a)
    ∙ join (ltb a 32) (same_status (slot slots a).status Running) (same_status (slot slots a).status Committed)
    ∙ ap (λ x. ltb a 32 && x) (sym (taken_says (slot slots a).status))
  where
    join : (x y z : Bool) → ((x && y) || (x && z)) ≡ (x && (y || z))
    join true y z = refl
    join false y z = refl

pub picks_next : (t : Tables) → Sound t → (running committed both : ℕ) (keys : List ℕ) → SlotsWith Running t.jobs.slots running → SlotsWith Committed t.jobs.slots committed → ((a : ℕ) → has both a ≡ (has running a || has committed a)) → keys ≡ numbers t.jobs.slots → (r : Option ℕ) → Picks (Edges 32 (marked 32 t.jobs.edges)) 32 keys (has both) (has committed) r → NextRetires t r
picks_next t sound running committed both keys r c b e None h = λ values room.
    none_retires t sound values room both committed (present_slots t.jobs.slots running committed both r c b) c h
picks_next t sound running committed both keys r c b e (Some n) h =
    let all = present_slots t.jobs.slots running committed both r c b in
    let f = subst (λ ks. First (Edges 32 (marked 32 t.jobs.edges)) 32 ks (has both) (has committed) n) e h in
    (f.inside, picked_taken t sound [] 0 both committed all c n f, λ values room. first_retires t sound values room both committed all c n f)
