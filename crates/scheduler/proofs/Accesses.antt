-- A step that is granted: what the tables stand for after it. Assumes nothing.
use Rattle.std.proofs.Common.{◌≡◌, ℕ, ◌<◌, Bool, true, false, ◌&&◌, ◌||◌, eqb, List, set, Some, sym, refl, ap, ◌∙◌, inl, inr, arith}
use Rattle.std.proofs.lemmas.Bool.{cases_eq, lt-ltb}
use Rattle.std.proofs.lemmas.List.{get_or-set_same, get_or-set_other}
use Rattle.graph.specs.Nodes.{has}
use Rattle.history.specs.Machine.{has_read, has_written, granted_state, put_at, with_one}
use Rattle.scheduler.specs.Accesses.{writes, asked, SetWith, ItemNoted}
use Rattle.scheduler.specs.declared.items.Access.{Access}
use Rattle.scheduler.specs.declared.items.Access.TheVariants.{Read, Write}
use Rattle.scheduler.specs.declared.tables.ItemState.{ItemState}
use Rattle.scheduler.specs.declared.tables.Tables.{Tables}
use Rattle.scheduler.specs.Slots.{slot_of}
use Rattle.scheduler.specs.Reading.{idle, item, row, state, Sound}
use Rattle.scheduler.specs.Marks.{Sources, slot_edge}
use Rattle.scheduler.proofs.Draws.{row_drawn, tell, drawn_slots}
use Rattle.scheduler.proofs.States.{same_state, put_same, put_other}

-- the tables with these marks in row k, and item x like this
abbrev pub stepped : Tables → ℕ → ℕ → ℕ → ItemState → Tables
stepped t k marks x it = record {
  jobs = record { slots = t.jobs.slots; edges = set t.jobs.edges k marks };
  items = set t.items x it;
  next = t.next;
}

or_swap : (a b : Bool) → (a || b) ≡ (b || a)
or_swap true true = refl
or_swap true false = refl
or_swap false true = refl
or_swap false false = refl

module _ (t : Tables) (sound : Sound t) (j k : ℕ) (is : k ≡ slot_of j t.jobs.slots) (within : k < 32) where
  module _ (x from marks : ℕ) (writes : Bool) (sources : Sources (item t.items x) writes k from) (low : x < 64) (joined : (a : ℕ) → has marks a ≡ (has (row t.jobs.edges k) a || has from a)) where
    drawn_row : (a b : ℕ) → has (row (set t.jobs.edges k marks) b) a ≡ slot_edge t.jobs.edges k from a b
    drawn_row = row_drawn t.jobs.edges k from marks (omega (arith, sound.0.1)) joined

    module _ (it : ItemState) where
      item_x : (y : ℕ) → y ≡ x → item (set t.items x it) y ≡ it
      item_x y e = ap (item (set t.items x it)) e ∙ get_or-set_same t.items x it idle (omega (arith, sound.0.2))

      item_other : (y : ℕ) → (y ≡ x → ⊥) → item (set t.items x it) y ≡ item t.items y
      item_other y d = get_or-set_other t.items x y it idle d

      -- a part of the items is as it was but at item x
      at_items : {A : Type 0} (part : ItemState → A) (new : A) → part it ≡ new → (y : ℕ) → part (item (set t.items x it) y) ≡ put_at x new (λ z. part (item t.items z)) y
      at_items part new e y = elim (cases_eq y x) [
        | inl s ↦ ap part (item_x y s) ∙ e ∙ sym (put_same x new (λ z. part (item t.items z)) y s)
        | inr d ↦ ap part (item_other y d) ∙ sym (put_other x new (λ z. part (item t.items z)) y d)
      ]

      kept_items : {A : Type 0} (part : ItemState → A) → part it ≡ part (item t.items x) → (y : ℕ) → part (item (set t.items x it) y) ≡ part (item t.items y)
      kept_items part e y = elim (cases_eq y x) [
        | inl s ↦ ap part (item_x y s) ∙ e ∙ sym (ap (λ z. part (item t.items z)) s)
        | inr d ↦ ap part (item_other y d)
      ]

      pub stepped_edges : (values : List ℕ) (room : ℕ) (a b : ℕ) → (state (stepped t k marks x it) values room).edges a b ≡ Rattle.history.specs.Machine.drawn (state t values room) j x writes a b
      unfolding state
      stepped_edges values room a b = drawn_row (slot_of a t.jobs.slots) (slot_of b t.jobs.slots) ∙ drawn_slots t sound j k is within x from writes sources values room a b

  -- a set with slot k added has job j and the jobs that it had
  added_job : (set set' : ℕ) → SetWith k set set' → (i : ℕ) → has set' (slot_of i t.jobs.slots) ≡ with_one j (λ n. has set (slot_of n t.jobs.slots)) i
  added_job set set' added i =
      added (slot_of i t.jobs.slots)
      ∙ ap (λ c. has set (slot_of i t.jobs.slots) || (c && eqb (slot_of i t.jobs.slots) k)) (lt-ltb k 64 (omega arith))
      ∙ ap (λ c. has set (slot_of i t.jobs.slots) || c) (tell t sound j k is within i)
      ∙ or_swap (has set (slot_of i t.jobs.slots)) (eqb i j)

  module _ (x from marks : ℕ) (low : x < 64) (joined : (a : ℕ) → has marks a ≡ (has (row t.jobs.edges k) a || has from a)) (it : ItemState) where
    pub noted_state : (a : Access) → Sources (item t.items x) (writes a) k from → ItemNoted a j k (item t.items x) it → (values : List ℕ) (room left : ℕ) → state (stepped t k marks x it) values room ≡ granted_state (state t values room) (asked j x a) left
    unfolding state has_read has_written granted_state
    noted_state Read sources (held, readers, writers) values room left = same_state _ _ (record {
      slots = refl;
      next = refl;
      status = λ i. refl;
      held = λ y. kept_items x from marks false sources low joined it (λ i. i.held) held y;
      readers = λ y i.
          ap (λ (f : ℕ → Bool). f i) (at_items x from marks false sources low joined it (λ i n. has i.readers (slot_of n t.jobs.slots)) (with_one j (λ n. has (item t.items x).readers (slot_of n t.jobs.slots))) (λ p n. added_job (item t.items x).readers it.readers readers n p) y);
      writers = λ y i. kept_items x from marks false sources low joined it (λ it. has it.writers (slot_of i t.jobs.slots)) (ap (λ w. has w (slot_of i t.jobs.slots)) writers) y;
      edges = stepped_edges x from marks false sources low joined it values room;
      values = refl;
      room = refl;
    })
    noted_state (Write v) sources (held, readers, writers) values room left = same_state _ _ (record {
      slots = refl;
      next = refl;
      status = λ i. refl;
      held = λ y. at_items x from marks true sources low joined it (λ i. i.held) (Some (record { job = j; value = v })) held y;
      readers = λ y i. kept_items x from marks true sources low joined it (λ it. has it.readers (slot_of i t.jobs.slots)) (ap (λ w. has w (slot_of i t.jobs.slots)) readers) y;
      writers = λ y i.
          ap (λ (f : ℕ → Bool). f i) (at_items x from marks true sources low joined it (λ i n. has i.writers (slot_of n t.jobs.slots)) (with_one j (λ n. has (item t.items x).writers (slot_of n t.jobs.slots))) (λ p n. added_job (item t.items x).writers it.writers writers n p) y);
      edges = stepped_edges x from marks true sources low joined it values room;
      values = refl;
      room = refl;
    })
