-- What the invariant says of slots and marks. Assumes nothing.
use Rattle.std.proofs.Common.{◌≡◌, ℕ, ◌<◌, ◌≤◌, Bool, true, false, not, ◌&&◌, eqb, List, length, sym, refl, ap, ◌∙◌, inl, inr, arith}
use Rattle.std.proofs.lemmas.Bool.{cases_Bool, cases_eq, cases_lt, eqb-true, eq-eqb, ne_eqb, and_parts, both_ways}
use Rattle.std.proofs.lemmas.List.{get_or_past}
use Rattle.graph.specs.Nodes.{has}
use Rattle.graph.proofs.Words.{bit_none}
use Rattle.scheduler.specs.declared.slots.Slot.{Slot}
use Rattle.scheduler.specs.declared.tables.Tables.{Tables}
use Rattle.scheduler.specs.Slots.{taken, belongs, free_slot, slot, slot_of}
use Rattle.scheduler.specs.Reading.{idle, item, row, Taken, Sound}
use Rattle.scheduler.specs.Marks.{RowWithout, SetWithout, ItemWithout}
use Rattle.scheduler.proofs.JobSlots.{first_passes, first_only}

-- a test that would make another true is false
pub false_since : (b : Bool) (X : Type 0) → (b ≡ true → X) → (X → ⊥) → b ≡ false
false_since b X f g = elim (cases_Bool b) [ inl e ↦ absurd (g (f e)) | inr e ↦ e ]

pub slot_past : (ss : List Slot) (k : ℕ) → length ss ≤ k → slot ss k ≡ free_slot
slot_past ss k h = get_or_past ss k free_slot h

pub belongs_taken : (j : ℕ) (s : Slot) → belongs j s ≡ true → taken s.status ≡ true
belongs_taken j s e = (and_parts (taken s.status) (eqb s.job j) e).0

pub belongs_number : (j : ℕ) (s : Slot) → belongs j s ≡ true → s.job ≡ j
belongs_number j s e = eqb-true s.job j (and_parts (taken s.status) (eqb s.job j) e).1

pub taken_belongs : (s : Slot) → taken s.status ≡ true → belongs s.job s ≡ true
taken_belongs s e = ap (λ b. b && eqb s.job s.job) e ∙ eq-eqb s.job s.job refl

pub free_belongs : (j : ℕ) (s : Slot) → taken s.status ≡ false → belongs j s ≡ false
free_belongs j s e = ap (λ b. b && eqb s.job j) e

-- nothing is taken out of what is empty

pub and_false : (b : Bool) → (b && false) ≡ false
and_false true = refl
and_false false = refl

pub set_without_none : (k : ℕ) → SetWithout k 0 0
set_without_none k a = bit_none a ∙ sym (ap (λ b. not (eqb a k) && b) (bit_none a) ∙ and_false (not (eqb a k)))

pub row_without_none : (k b : ℕ) → RowWithout k b 0 0
row_without_none k b a = bit_none a ∙ sym (ap (λ c. not (eqb b k) && c) (sym (set_without_none k a) ∙ bit_none a) ∙ and_false (not (eqb b k)))

pub item_without_idle : (j k : ℕ) → ℕ → ItemWithout j k idle idle
item_without_idle j k x = (refl, set_without_none k, set_without_none k)

module _ (t : Tables) (sound : Sound t) where
  pub taken_within : (k : ℕ) → Taken t.jobs.slots k → k < 32
  taken_within k h = elim (cases_lt k 32) [
    | inl l ↦ l
    | inr l ↦ absurd (both_ways (taken (slot t.jobs.slots k).status) (ap (λ (s : Slot). taken s.status) (slot_past t.jobs.slots k (omega (arith, sound.0.0)))) h)
  ]

  -- a free slot has no marks

  pub free_no_edge : (a b : ℕ) → taken (slot t.jobs.slots a).status ≡ false → has (row t.jobs.edges b) a ≡ false
  free_no_edge a b f = false_since _ _ (sound.2.0 a b) (λ h. both_ways _ f h.0)

  pub free_no_row : (a b : ℕ) → taken (slot t.jobs.slots b).status ≡ false → has (row t.jobs.edges b) a ≡ false
  free_no_row a b f = false_since _ _ (sound.2.0 a b) (λ h. both_ways _ f h.1)

  pub free_no_reader : (x a : ℕ) → taken (slot t.jobs.slots a).status ≡ false → has (item t.items x).readers a ≡ false
  free_no_reader x a f = false_since _ _ (sound.2.1 x a) (both_ways _ f)

  pub free_no_writer : (x a : ℕ) → taken (slot t.jobs.slots a).status ≡ false → has (item t.items x).writers a ≡ false
  free_no_writer x a f = false_since _ _ (sound.2.2 x a) (both_ways _ f)

  -- the slot of a job

  pub slot_mine : (j : ℕ) → slot_of j t.jobs.slots < 32 → belongs j (slot t.jobs.slots (slot_of j t.jobs.slots)) ≡ true
  slot_mine j h = first_passes (belongs j) t.jobs.slots (omega (arith, sound.0.0))

  pub slot_missing : (j : ℕ) → 32 ≤ slot_of j t.jobs.slots → taken (slot t.jobs.slots (slot_of j t.jobs.slots)).status ≡ false
  slot_missing j h = ap (λ (s : Slot). taken s.status) (slot_past t.jobs.slots (slot_of j t.jobs.slots) (omega (arith, sound.0.0)))

  -- a taken slot is that of its job
  pub slot_of_number : (k : ℕ) → Taken t.jobs.slots k → slot_of (slot t.jobs.slots k).job t.jobs.slots ≡ k
  slot_of_number k h =
      let within = taken_within k h in
      let mine = taken_belongs (slot t.jobs.slots k) h in
      first_only (belongs (slot t.jobs.slots k).job) t.jobs.slots k (omega (arith, sound.0.0)) mine (λ a _ e. sound.1.0 a k (slot t.jobs.slots k).job e mine)

  -- the jobs of two slots are one job exactly when the slots are one slot
  pub slots_tell : (i j : ℕ) → slot_of j t.jobs.slots < 32 → eqb (slot_of i t.jobs.slots) (slot_of j t.jobs.slots) ≡ eqb i j
  slots_tell i j h = elim (cases_eq i j) [
    | inl e ↦ eq-eqb _ _ (ap (λ n. slot_of n t.jobs.slots) e) ∙ sym (eq-eqb i j e)
    | inr d ↦ ne_eqb _ _ (λ e. d (same e)) ∙ sym (ne_eqb i j d)
  ]
    where
      same : slot_of i t.jobs.slots ≡ slot_of j t.jobs.slots → i ≡ j
      same e =
          let mine = slot_mine j h in
          let its = slot_mine i (omega arith) in
          sym (belongs_number i _ its) ∙ ap (λ k. (slot t.jobs.slots k).job) e ∙ belongs_number j _ mine
