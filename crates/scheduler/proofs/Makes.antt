-- The tables of a hub that was just made. Assumes nothing.
use Rattle.std.proofs.Common.{◌≡◌, ℕ, zero, suc, ◌≤◌, false, List, get_or, replicate, refl, ap, ◌∙◌}
use Rattle.std.proofs.lemmas.Bool.{both_ways}
use Rattle.graph.specs.Nodes.{has}
use Rattle.graph.proofs.Words.{bit_none}
use Rattle.history.specs.Machine.{made}
use Rattle.scheduler.specs.declared.slots.Slot.{Slot}
use Rattle.scheduler.specs.declared.tables.ItemState.{ItemState}
use Rattle.scheduler.specs.declared.tables.Tables.{Tables}
use Rattle.scheduler.specs.Slots.{status_of, belongs, free_slot, slot, slot_of}
use Rattle.scheduler.specs.Reading.{idle, item, row, state, Sound}
use Rattle.scheduler.proofs.States.{same_state}

abbrev pub fresh : ℕ → Tables
fresh first = record {
  jobs = record { slots = replicate 32 free_slot; edges = replicate 32 0 };
  items = replicate 64 idle;
  next = first;
}

all_same : {X : Type 0} (d : X) (n k : ℕ) → get_or (replicate n d) k d ≡ d
all_same d zero k = refl
all_same d (suc n) zero = refl
all_same d (suc n) (suc k) = all_same d n k

none_belongs : (j k : ℕ) → belongs j (slot (replicate 32 free_slot) k) ≡ false
none_belongs j k = ap (belongs j) (all_same free_slot 32 k)

no_mark : (b a : ℕ) → has (row (replicate 32 0) b) a ≡ false
no_mark b a = ap (λ w. has w a) (all_same 0 32 b) ∙ bit_none a

no_reader : (x a : ℕ) → has (item (replicate 64 idle) x).readers a ≡ false
no_reader x a = ap (λ (i : ItemState). has i.readers a) (all_same idle 64 x) ∙ bit_none a

no_writer : (x a : ℕ) → has (item (replicate 64 idle) x).writers a ≡ false
no_writer x a = ap (λ (i : ItemState). has i.writers a) (all_same idle 64 x) ∙ bit_none a

pub fresh_sound : (first : ℕ) → first ≤ 4294967296 → Sound (fresh first)
fresh_sound first h = (
  (refl, refl, refl, h),
  ((λ a b j e f. absurd (both_ways _ (none_belongs j a) e)), (λ a j e. absurd (both_ways _ (none_belongs j a) e))),
  ((λ a b e. absurd (both_ways _ (no_mark b a) e)), (λ x a e. absurd (both_ways _ (no_reader x a) e)), (λ x a e. absurd (both_ways _ (no_writer x a) e))),
)

pub fresh_state : (first : ℕ) (values : List ℕ) (room : ℕ) → state (fresh first) values room ≡ made 32 first values room
unfolding state made
fresh_state first values room = same_state _ _ (record {
  slots = refl;
  next = refl;
  status = λ j. ap (λ (s : Slot). status_of s.status) (all_same free_slot 32 (slot_of j (replicate 32 free_slot)));
  held = λ x. ap (λ (i : ItemState). i.held) (all_same idle 64 x);
  readers = λ x j. no_reader x (slot_of j (replicate 32 free_slot));
  writers = λ x j. no_writer x (slot_of j (replicate 32 free_slot));
  edges = λ i j. no_mark (slot_of j (replicate 32 free_slot)) (slot_of i (replicate 32 free_slot));
  values = refl;
  room = refl;
})
