-- A job taken out of the tables. Assumes nothing.
use Rattle.std.proofs.Common.{◌≡◌, ℕ, ◌<◌, Bool, true, false, not, ◌&&◌, eqb, List, length, set, sym, refl, ap, ◌∙◌, subst, inl, inr, arith}
use Rattle.std.proofs.lemmas.Bool.{cases_eq, eq-eqb, ne_eqb, and_parts, both_ways, not-true, eqb-false}
use Rattle.std.proofs.lemmas.List.{get_or-set_same, get_or-set_other, length-set}
use Rattle.graph.specs.Nodes.{has}
use Rattle.history.specs.Machine.{Status, absent, removed, put_at}
use Rattle.scheduler.specs.declared.slots.Slot.{Slot}
use Rattle.scheduler.specs.declared.slots.SlotStatus.TheVariants.{Free}
use Rattle.scheduler.specs.declared.tables.ItemState.{ItemState}
use Rattle.scheduler.specs.declared.tables.Tables.{Tables}
use Rattle.scheduler.specs.Slots.{status_of, taken, belongs, free_slot, slot, slot_of}
use Rattle.scheduler.specs.Reading.{item, row, state, Taken, Sound}
use Rattle.scheduler.specs.Marks.{EdgesWithout, ItemsWithout}
use Rattle.scheduler.proofs.JobSlots.{first_none, first_same}
use Rattle.scheduler.proofs.Sounds.{belongs_number, free_belongs, false_since, and_false, free_no_edge, free_no_row, free_no_reader, free_no_writer, slot_mine, slots_tell, slot_past}
use Rattle.scheduler.proofs.States.{same_state, put_same, put_other}

-- the tables with slot k free, and these edges and items
abbrev pub without_slot : Tables → ℕ → ℕ → List ℕ → List ItemState → Tables
without_slot t k number rows items = record {
  jobs = record { slots = set t.jobs.slots k (record { job = number; status = Free }); edges = rows };
  items = items;
  next = t.next;
}

module _ (t : Tables) (sound : Sound t) (j k number : ℕ) (is : k ≡ slot_of j t.jobs.slots) (within : k < 32) where
  slots' : List Slot
  slots' = set t.jobs.slots k (record { job = number; status = Free })

  length' : length slots' ≡ 32
  unfolding slots'
  length' = length-set t.jobs.slots k (record { job = number; status = Free }) ∙ sound.0.0

  free_k : taken (slot slots' k).status ≡ false
  unfolding slots'
  free_k = ap (λ (s : Slot). taken s.status) (get_or-set_same t.jobs.slots k (record { job = number; status = Free }) free_slot (omega (arith, sound.0.0)))

  at_other : (a : ℕ) → (a ≡ k → ⊥) → slot slots' a ≡ slot t.jobs.slots a
  unfolding slots'
  at_other a d = get_or-set_other t.jobs.slots k a (record { job = number; status = Free }) free_slot d

  mine : belongs j (slot t.jobs.slots k) ≡ true
  mine = subst (λ n. belongs j (slot t.jobs.slots n) ≡ true) (sym is) (slot_mine t sound j (omega arith))

  -- slot k is job j's and no other's
  tell : (i : ℕ) → eqb (slot_of i t.jobs.slots) k ≡ eqb i j
  tell i = subst (λ n. eqb (slot_of i t.jobs.slots) n ≡ eqb i j) (sym is) (slots_tell t sound i j (omega arith))

  not_k : (i : ℕ) → (i ≡ j → ⊥) → slot_of i t.jobs.slots ≡ k → ⊥
  not_k i d e = both_ways (eqb i j) (ne_eqb i j d) (sym (tell i) ∙ eq-eqb _ _ e)

  -- what belonged to another job still does, and slot k to none
  belongs_still : (a i : ℕ) → belongs i (slot slots' a) ≡ true → (a ≡ k → ⊥) × (belongs i (slot t.jobs.slots a) ≡ true)
  belongs_still a i e = elim (cases_eq a k) [
    | inl same ↦ absurd (both_ways _ (free_belongs i (slot slots' k) free_k) (subst (λ n. belongs i (slot slots' n) ≡ true) same e))
    | inr other ↦ (other, sym (ap (belongs i) (at_other a other)) ∙ e)
  ]

  slot_of_gone : slot_of j slots' ≡ 32
  slot_of_gone = first_none (belongs j) slots' (λ a _. false_since _ _ (belongs_still a j) (λ h. h.0 (sound.1.0 a k j h.1 mine))) ∙ length'

  slot_of_other : (i : ℕ) → (i ≡ j → ⊥) → slot_of i slots' ≡ slot_of i t.jobs.slots
  slot_of_other i d =
      first_same (belongs i) slots' t.jobs.slots (length' ∙ sym sound.0.0)
      (λ a _. elim (cases_eq a k) [
        | inl same ↦ ap (λ n. belongs i (slot slots' n)) same ∙ free_belongs i _ free_k ∙ sym (ap (λ n. belongs i (slot t.jobs.slots n)) same ∙ not_its i d)
        | inr other ↦ ap (belongs i) (at_other a other)
      ])
    where
      not_its : (i : ℕ) → (i ≡ j → ⊥) → belongs i (slot t.jobs.slots k) ≡ false
      not_its i d = false_since _ _ (λ e. e) (λ e. d (sym (belongs_number i _ e) ∙ belongs_number j _ mine))

  free_end : taken (slot t.jobs.slots 32).status ≡ false
  free_end = ap (λ (s : Slot). taken s.status) (slot_past t.jobs.slots 32 (omega (arith, sound.0.0)))

  -- a set that has no free slots, without slot k, is the set of jobs without job j
  same_mark : (P P' : ℕ → Bool) → ((a : ℕ) → taken (slot t.jobs.slots a).status ≡ false → P a ≡ false) → ((a : ℕ) → P' a ≡ (not (eqb a k) && P a)) → (i : ℕ) → P' (slot_of i slots') ≡ (not (eqb i j) && P (slot_of i t.jobs.slots))
  same_mark P P' free clear i = elim (cases_eq i j) [
    | inl e ↦
        clear (slot_of i slots') ∙ ap (λ b. not (eqb (slot_of i slots') k) && b) (ap (λ n. P (slot_of n slots')) e ∙ ap P slot_of_gone ∙ free 32 free_end) ∙ and_false (not (eqb (slot_of i slots') k))
        ∙ sym (ap (λ b. not b && P (slot_of i t.jobs.slots)) (eq-eqb i j e))
    | inr d ↦ ap P' (slot_of_other i d) ∙ clear (slot_of i t.jobs.slots) ∙ ap (λ b. not b && P (slot_of i t.jobs.slots)) (tell i)
  ]

  abbrev by_slot : ℕ → Status
  by_slot i = status_of (slot t.jobs.slots (slot_of i t.jobs.slots)).status

  status' : (i : ℕ) → status_of (slot slots' (slot_of i slots')).status ≡ put_at j absent by_slot i
  status' i = elim (cases_eq i j) [
    | inl e ↦
        ap (λ (s : Slot). status_of s.status) (ap (slot slots') (ap (λ n. slot_of n slots') e ∙ slot_of_gone) ∙ slot_past slots' 32 (omega (arith, length')))
        ∙ sym (put_same j absent by_slot i e)
    | inr d ↦
        ap (λ (s : Slot). status_of s.status) (ap (slot slots') (slot_of_other i d) ∙ at_other _ (not_k i d))
        ∙ sym (put_other j absent by_slot i d)
  ]

  module _ (rows' : List ℕ) (items' : List ItemState) (edges : EdgesWithout k t.jobs.edges rows') (items : ItemsWithout j k t.items items') where
    -- the edges between the jobs that are left
    edges' : (a b : ℕ) → has (row rows' (slot_of b slots')) (slot_of a slots') ≡ (not (eqb b j) && (not (eqb a j) && has (row t.jobs.edges (slot_of b t.jobs.slots)) (slot_of a t.jobs.slots)))
    edges' a b =
        same_mark
        (λ n. not (eqb (slot_of a slots') k) && has (row t.jobs.edges n) (slot_of a slots'))
        (λ n. has (row rows' n) (slot_of a slots'))
        (λ n f. ap (λ c. not (eqb (slot_of a slots') k) && c) (free_no_row t sound (slot_of a slots') n f) ∙ and_false (not (eqb (slot_of a slots') k)))
        (λ n. edges.1 n (slot_of a slots'))
        b
        ∙ ap (λ c. not (eqb b j) && c)
        (same_mark
        (has (row t.jobs.edges (slot_of b t.jobs.slots)))
        (λ m. not (eqb m k) && has (row t.jobs.edges (slot_of b t.jobs.slots)) m)
        (λ m. free_no_edge t sound m (slot_of b t.jobs.slots))
        (λ m. refl)
        a)

    pub removed_state : (values : List ℕ) (room : ℕ) → state (without_slot t k number rows' items') values room ≡ removed j (state t values room)
    unfolding state removed slots'
    removed_state values room = same_state _ _ (record {
      slots = refl;
      next = refl;
      status = status';
      held = λ x. (items.1 x).0;
      readers = λ x i. same_mark (has (item t.items x).readers) (has (item items' x).readers) (free_no_reader t sound x) (items.1 x).1 i;
      writers = λ x i. same_mark (has (item t.items x).writers) (has (item items' x).writers) (free_no_writer t sound x) (items.1 x).2 i;
      edges = edges';
      values = refl;
      room = refl;
    })

    taken_still : (a : ℕ) → (a ≡ k → ⊥) → Taken t.jobs.slots a → Taken slots' a
    taken_still a d h = ap (λ (s : Slot). taken s.status) (at_other a d) ∙ h

    -- what passes the test for being left does not stand at slot k
    kept : (a : ℕ) (b : Bool) → (not (eqb a k) && b) ≡ true → (a ≡ k → ⊥) × (b ≡ true)
    kept a b e = let p = and_parts (not (eqb a k)) b e in (eqb-false a k (not-true _ p.0), p.1)

    pub removed_sound : Sound (without_slot t k number rows' items')
    unfolding slots'
    removed_sound = (
      (length', edges.0 ∙ sound.0.1, items.0 ∙ sound.0.2, sound.0.3),
      ((λ a b i e f. sound.1.0 a b i (belongs_still a i e).1 (belongs_still b i f).1), (λ a i e. sound.1.1 a i (belongs_still a i e).1)),
      (
        (λ a b e.
            let p = kept b _ (sym (edges.1 b a) ∙ e) in
            let q = kept a _ p.1 in
            let m = sound.2.0 a b q.1 in
            (taken_still a q.0 m.0, taken_still b p.0 m.1)),
        (λ x a e. let p = kept a _ (sym ((items.1 x).1 a) ∙ e) in taken_still a p.0 (sound.2.1 x a p.1)),
        (λ x a e. let p = kept a _ (sym ((items.1 x).2 a) ∙ e) in taken_still a p.0 (sound.2.2 x a p.1)),
      ),
    )
