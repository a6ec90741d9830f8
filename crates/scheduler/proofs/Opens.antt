-- A job that gets the first free slot and the next number. Assumes nothing.
use Rattle.std.proofs.Common.{◌≡◌, ℕ, ◌+◌, ◌<◌, ◌≤◌, Bool, true, false, ltb, leb, ◌⊎◌, List, length, set, sym, refl, ap, ◌∙◌, subst, inl, inr, add-one, arith}
use Rattle.std.proofs.lemmas.Bool.{cases_eq, cases_lt, eqb-true, eq-eqb, ne_eqb, both_ways, not-true, le-ltb, lt-ltb}
use Rattle.std.proofs.lemmas.List.{get_or-set_same, get_or-set_other, length-set}
use Rattle.graph.specs.Nodes.{has}
use Rattle.history.specs.declared.refusal.Refusal.TheVariants.{TableFull, NumbersSpent}
use Rattle.history.specs.Machine.{Status, running, begin, jobs, those, rising, present, opened, put_at, refusal, granted_answer, granted_state, refused_state, put_count, answered, refused, Steps, ◌else◌, refuse_if}
use Rattle.scheduler.specs.declared.slots.Slot.{Slot}
use Rattle.scheduler.specs.declared.slots.SlotStatus.TheVariants.{Running}
use Rattle.scheduler.specs.declared.tables.Tables.{Tables}
use Rattle.scheduler.specs.Slots.{status_of, taken, belongs, free_slot, slot, first, slot_of, is_free}
use Rattle.scheduler.specs.Reading.{item, row, state, Taken, Sound}
use Rattle.scheduler.proofs.Counting.{table_full, table_has_room}
use Rattle.scheduler.proofs.JobSlots.{first_passes, first_only, first_same}
use Rattle.scheduler.proofs.Sounds.{belongs_taken, free_belongs, free_no_edge, free_no_row, free_no_reader, free_no_writer, slot_missing}
use Rattle.scheduler.proofs.States.{same_state, put_same, put_other, steps_refused, steps_granted}

-- a slot of a running job
abbrev pub settled : ℕ → Slot
settled n = record { job = n; status = Running }

-- the tables with slot k given to the next job
abbrev pub with_job : Tables → ℕ → Tables
with_job t k = record {
  jobs = record { slots = set t.jobs.slots k (settled t.next); edges = t.jobs.edges };
  items = t.items;
  next = t.next + 1;
}

module _ (t : Tables) (sound : Sound t) (k : ℕ) (is : k ≡ first is_free t.jobs.slots) (within : k < 32) where
  k_free : taken (slot t.jobs.slots k).status ≡ false
  k_free = not-true _ (subst (λ n. is_free (slot t.jobs.slots n) ≡ true) (sym is) (first_passes is_free t.jobs.slots (omega (arith, sound.0.0))))

  slots' : List Slot
  slots' = set t.jobs.slots k (settled t.next)

  at_k : slot slots' k ≡ settled t.next
  unfolding slots'
  at_k = get_or-set_same t.jobs.slots k (settled t.next) free_slot (omega (arith, sound.0.0))

  at_other : (a : ℕ) → (a ≡ k → ⊥) → slot slots' a ≡ slot t.jobs.slots a
  unfolding slots'
  at_other a d = get_or-set_other t.jobs.slots k a (settled t.next) free_slot d

  length' : length slots' ≡ 32
  unfolding slots'
  length' = length-set t.jobs.slots k (settled t.next) ∙ sound.0.0

  -- what belongs to whom afterwards
  belongs' : (a j : ℕ) → belongs j (slot slots' a) ≡ true → ((a ≡ k) × (j ≡ t.next)) ⊎ (belongs j (slot t.jobs.slots a) ≡ true)
  belongs' a j e = elim (cases_eq a k) [
    | inl same ↦ inl (same, sym (eqb-true t.next j (sym (ap (belongs j) (ap (slot slots') same ∙ at_k)) ∙ e)))
    | inr other ↦ inr (sym (ap (belongs j) (at_other a other)) ∙ e)
  ]

  fresh : (a : ℕ) → belongs t.next (slot t.jobs.slots a) ≡ true → ⊥
  fresh a e = let z = sound.1.1 a t.next e in omega arith

  -- the new job has slot k, and every other job the slot that it had
  slot_of_new : slot_of t.next slots' ≡ k
  slot_of_new =
      first_only (belongs t.next) slots' k (omega (arith, length')) (ap (belongs t.next) at_k ∙ eq-eqb t.next t.next refl)
      (λ a _ e. elim (belongs' a t.next e) [ inl p ↦ p.0 | inr old ↦ absurd (fresh a old) ])

  slot_of_old : (j : ℕ) → (j ≡ t.next → ⊥) → slot_of j slots' ≡ slot_of j t.jobs.slots
  slot_of_old j d =
      first_same (belongs j) slots' t.jobs.slots (length' ∙ sym sound.0.0)
      (λ a _. elim (cases_eq a k) [
        | inl same ↦ ap (belongs j) (ap (slot slots') same ∙ at_k) ∙ ne_eqb t.next j (λ e. d (sym e)) ∙ sym (ap (belongs j) (ap (slot t.jobs.slots) same) ∙ free_belongs j _ k_free)
        | inr other ↦ ap (belongs j) (at_other a other)
      ])

  slot_of_absent : 32 ≤ slot_of t.next t.jobs.slots
  slot_of_absent = elim (cases_lt (slot_of t.next t.jobs.slots) 32) [
    | inl l ↦ absurd (fresh _ (first_passes (belongs t.next) t.jobs.slots (omega (arith, sound.0.0))))
    | inr l ↦ l
  ]

  -- a set that has no free slots has the same jobs
  same_mark : (P : ℕ → Bool) → ((a : ℕ) → taken (slot t.jobs.slots a).status ≡ false → P a ≡ false) → (j : ℕ) → P (slot_of j slots') ≡ P (slot_of j t.jobs.slots)
  same_mark P free j = elim (cases_eq j t.next) [
    | inl e ↦ ap P (ap (λ n. slot_of n slots') e ∙ slot_of_new) ∙ free k k_free ∙ sym (free _ (slot_missing t sound j (subst (λ n. 32 ≤ slot_of n t.jobs.slots) (sym e) slot_of_absent)))
    | inr d ↦ ap P (slot_of_old j d)
  ]

  abbrev by_slot : ℕ → Status
  by_slot i = status_of (slot t.jobs.slots (slot_of i t.jobs.slots)).status

  status' : (j : ℕ) → status_of (slot slots' (slot_of j slots')).status ≡ put_at t.next running by_slot j
  status' j = elim (cases_eq j t.next) [
    | inl e ↦
        ap (λ (s : Slot). status_of s.status) (ap (slot slots') (ap (λ n. slot_of n slots') e ∙ slot_of_new) ∙ at_k)
        ∙ sym (put_same t.next running by_slot j e)
    | inr d ↦
        ap (λ (s : Slot). status_of s.status) (ap (slot slots') (slot_of_old j d) ∙ at_other _ (λ e. not_k j d e))
        ∙ sym (put_other t.next running by_slot j d)
  ]
    where
      not_k : (j : ℕ) → (j ≡ t.next → ⊥) → slot_of j t.jobs.slots ≡ k → ⊥
      not_k j d e =
          let mine = first_passes (belongs j) t.jobs.slots (omega (arith, sound.0.0)) in
          both_ways _ (subst (λ n. taken (slot t.jobs.slots n).status ≡ false) (sym e) k_free) (belongs_taken j _ mine)

  pub opened_state : (values : List ℕ) (room : ℕ) → state (with_job t k) values room ≡ opened (state t values room)
  unfolding state opened slots'
  opened_state values room = same_state _ _ (record {
    slots = refl;
    next = add-one t.next;
    status = status';
    held = λ x. refl;
    readers = λ x j. same_mark (has (item t.items x).readers) (free_no_reader t sound x) j;
    writers = λ x j. same_mark (has (item t.items x).writers) (free_no_writer t sound x) j;
    edges = λ i j.
        same_mark (λ b. has (row t.jobs.edges b) (slot_of i slots')) (λ b. free_no_row t sound (slot_of i slots') b) j
        ∙ same_mark (has (row t.jobs.edges (slot_of j t.jobs.slots))) (λ a. free_no_edge t sound a (slot_of j t.jobs.slots)) i;
    values = refl;
    room = refl;
  })

  taken' : (a : ℕ) → Taken t.jobs.slots a → Taken slots' a
  taken' a h = elim (cases_eq a k) [
    | inl e ↦ absurd (both_ways _ k_free (subst (λ n. taken (slot t.jobs.slots n).status ≡ true) e h))
    | inr d ↦ ap (λ (s : Slot). taken s.status) (at_other a d) ∙ h
  ]

  pub opened_sound : t.next ≤ 4294967295 → Sound (with_job t k)
  unfolding slots'
  opened_sound small = (
    (length', sound.0.1, sound.0.2, omega arith),
    (one, given),
    ((λ a b h. let m = sound.2.0 a b h in (taken' a m.0, taken' b m.1)), (λ x a h. taken' a (sound.2.1 x a h)), (λ x a h. taken' a (sound.2.2 x a h))),
  )
    where
      one : (a b j : ℕ) → belongs j (slot slots' a) ≡ true → belongs j (slot slots' b) ≡ true → a ≡ b
      one a b j e f = elim (belongs' a j e) [
        | inl p ↦ elim (belongs' b j f) [ inl q ↦ p.0 ∙ sym q.0 | inr old ↦ absurd (fresh b (subst (λ n. belongs n (slot t.jobs.slots b) ≡ true) p.1 old)) ]
        | inr old ↦ elim (belongs' b j f) [ inl q ↦ absurd (fresh a (subst (λ n. belongs n (slot t.jobs.slots a) ≡ true) q.1 old)) | inr old-b ↦ sound.1.0 a b j old old-b ]
      ]

      given : (a j : ℕ) → belongs j (slot slots' a) ≡ true → j < t.next + 1
      given a j e = elim (belongs' a j e) [ inl p ↦ (let z = p.1 in omega arith) | inr old ↦ (let z = sound.1.1 a j old in omega arith) ]

  -- the table has a free slot
  not_full : (values : List ℕ) (room : ℕ) → leb 32 (length (jobs (state t values room))) ≡ false
  unfolding state jobs
  not_full values room = subst (λ n. leb n (length (those (λ j. present (by_slot j)) (rising 0 t.next))) ≡ false) sound.0.0 (table_has_room t.next t.jobs.slots sound.1 (omega (arith, sound.0.0)))

  pub open_granted : (values : List ℕ) (room : ℕ) → t.next ≤ 4294967295 → Steps (state t values room) begin (answered t.next) (state (with_job t k) values room)
  unfolding refusal granted_answer granted_state put_count state
  open_granted values room small =
      steps_granted (state t values room) begin (state (with_job t k) values room) (answered t.next)
      (ap (λ b. refuse_if b TableFull else refuse_if (ltb 4294967295 t.next) NumbersSpent) (not_full values room) ∙ ap (λ b. refuse_if b NumbersSpent) (le-ltb 4294967295 t.next small))
      refl (opened_state values room) (λ _. refl) (omega arith)

  -- no number is left
  pub open_spent : (values : List ℕ) (room : ℕ) → 4294967295 < t.next → Steps (state t values room) begin (refused NumbersSpent) (state t values room)
  unfolding refusal refused_state state
  open_spent values room spent =
      steps_refused (state t values room) begin (state t values room) NumbersSpent
      (ap (λ b. refuse_if b TableFull else refuse_if (ltb 4294967295 t.next) NumbersSpent) (not_full values room) ∙ ap (λ b. refuse_if b NumbersSpent) (lt-ltb 4294967295 t.next spent))
      refl refl

-- all slots are taken
pub open_full : (t : Tables) → Sound t → first is_free t.jobs.slots ≡ length t.jobs.slots → (values : List ℕ) (room : ℕ) → Steps (state t values room) begin (refused TableFull) (state t values room)
unfolding refusal refused_state state jobs
open_full t sound none values room =
    let whole = table_full t.next t.jobs.slots sound.1 none in
    let full = subst (λ n. leb n (length (those (λ j. present (status_of (slot t.jobs.slots (slot_of j t.jobs.slots)).status)) (rising 0 t.next))) ≡ true) sound.0.0 whole in
    steps_refused (state t values room) begin (state t values room) TableFull
    (ap (λ b. refuse_if b TableFull else refuse_if (ltb 4294967295 t.next) NumbersSpent) full)
    refl refl
