-- Commit: how many items the job holds, and what the tables stand for afterwards. Assumes nothing.
use Rattle.std.proofs.Common.{◌≡◌, ℕ, zero, suc, ◌+◌, ◌≤◌, min, Bool, true, false, cond, ◌&&◌, eqb, List, [], ◌∷◌, ◌++◌, length, take, set, sym, refl, ap, ◌∙◌, subst, inl, inr, add-zero, add-one, arith}
use Rattle.std.proofs.lemmas.Bool.{cases_Bool, cases_eq, eq-eqb, ne_eqb, both_ways}
use Rattle.std.proofs.lemmas.List.{get_or-set_same, get_or-set_other, length-set, length-append}
use Rattle.std.proofs.lemmas.List.Sums.{count_by_more_yes, count_by_more_no}
use Rattle.std.specs.List.{count_by}
use Rattle.graph.specs.Nodes.{has}
use Rattle.history.specs.Machine.{Status, committed, those, rising, holds, holdings, has_ended, put_all, put_at}
use Rattle.scheduler.specs.declared.slots.Slot.{Slot}
use Rattle.scheduler.specs.declared.slots.SlotStatus.TheVariants.{Committed}
use Rattle.scheduler.specs.declared.tables.ItemState.{ItemState}
use Rattle.scheduler.specs.declared.tables.Tables.{Tables}
use Rattle.scheduler.specs.Slots.{status_of, taken, belongs, free_slot, slot, slot_of}
use Rattle.scheduler.specs.Reading.{idle, item, row, state, Sound, RunsAt, held_below}
use Rattle.scheduler.specs.Marks.{ItemsLetGo}
use Rattle.scheduler.proofs.Draws.{tell}
use Rattle.scheduler.proofs.JobSlots.{first_same}
use Rattle.scheduler.proofs.States.{same_state, put_same, put_other}

-- rising numbers, one more at the end

rising_more : (a n : ℕ) → rising a (suc n) ≡ rising a n ++ (a + n) ∷ []
unfolding rising
rising_more a zero = ap (λ m. m ∷ []) (sym (add-zero a))
rising_more a (suc n) = let e : suc a + n ≡ a + suc n = omega arith in ap (λ l. a ∷ l) (rising_more (suc a) n ∙ ap (λ m. rising (suc a) n ++ m ∷ []) e)

those_both : (p : ℕ → Bool) (xs ys : List ℕ) → those p (xs ++ ys) ≡ those p xs ++ those p ys
unfolding those
those_both p [] ys = refl
those_both p (x ∷ xs) ys = elim (cases_Bool (p x)) [
  | inl e ↦ ap (λ b. cond b (x ∷ those p (xs ++ ys)) (those p (xs ++ ys))) e ∙ ap (λ l. x ∷ l) (those_both p xs ys) ∙ sym (ap (λ b. cond b (x ∷ those p xs) (those p xs) ++ those p ys) e)
  | inr e ↦ ap (λ b. cond b (x ∷ those p (xs ++ ys)) (those p (xs ++ ys))) e ∙ those_both p xs ys ∙ sym (ap (λ b. cond b (x ∷ those p xs) (those p xs) ++ those p ys) e)
]

those_one : (p : ℕ → Bool) (x : ℕ) → those p (x ∷ []) ≡ cond (p x) (x ∷ []) []
unfolding those
those_one p x = refl

module _ (p : ℕ → Bool) (n : ℕ) where
  pub those_next : those p (rising 0 (n + 1)) ≡ those p (rising 0 n) ++ cond (p n) (n ∷ []) []
  those_next =
      let e : 0 + n ≡ n = omega arith in
      ap (λ m. those p (rising 0 m)) (add-one n) ∙ ap (those p) (rising_more 0 n ∙ ap (λ m. rising 0 n ++ m ∷ []) e) ∙ those_both p (rising 0 n) (n ∷ []) ∙ ap (λ l. those p (rising 0 n) ++ l) (those_one p n)

  pub those_next_in : p n ≡ true → those p (rising 0 (n + 1)) ≡ those p (rising 0 n) ++ n ∷ []
  those_next_in e = those_next ∙ ap (λ b. those p (rising 0 n) ++ cond b (n ∷ []) []) e

  pub those_next_out : p n ≡ false → those p (rising 0 (n + 1)) ≡ those p (rising 0 n)
  those_next_out e = those_next ∙ ap (λ b. those p (rising 0 n) ++ cond b (n ∷ []) []) e ∙ nothing (those p (rising 0 n))
    where
      nothing : (l : List ℕ) → l ++ [] ≡ l
      nothing [] = refl
      nothing (x ∷ l) = ap (λ m. x ∷ m) (nothing l)

-- the items that a job holds, counted
pub count_held : (t : Tables) (j n : ℕ) → n ≤ length t.items → count_by (λ (it : ItemState). holds j it.held) (take n t.items) ≡ length (held_below t j n)
unfolding those rising
count_held t j zero h = refl
count_held t j (suc n) h =
    let rest = count_held t j n (omega arith) in
    let test = λ (it : ItemState). holds j it.held in
    subst (λ m. count_by (λ (it : ItemState). holds j it.held) (take m t.items) ≡ length (held_below t j m)) (add-one n)
    (elim (cases_Bool (holds j (item t.items n).held)) [
      | inl e ↦
          (let next = ap length (those_next_in (λ x. holds j (item t.items x).held) n e) ∙ length-append (held_below t j n) (n ∷ []) in
          count_by_more_yes test t.items n idle (omega arith) e ∙ omega arith)
      | inr e ↦ count_by_more_no test t.items n idle (omega arith) e ∙ rest ∙ sym (ap length (those_next_out (λ x. holds j (item t.items x).held) n e))
    ])

-- the items of a store with so many that a job holds
pub held_holdings : (t : Tables) (j n count : ℕ) (values : List ℕ) (room : ℕ) → n ≡ length values → count ≡ length (held_below t j (min n 64)) → count ≡ length (holdings (state t values room) j)
unfolding holdings state
held_holdings t j n count values room e f =
    let same : min n 64 ≡ min 64 (length values) = omega arith in
    f ∙ ap (λ m. length (held_below t j m)) same

-- the tables with slot k committed, and these items
abbrev pub closed : Tables → ℕ → ℕ → List ItemState → Tables
closed t k number items = record {
  jobs = record { slots = set t.jobs.slots k (record { job = number; status = Committed }); edges = t.jobs.edges };
  items = items;
  next = t.next;
}

module _ (t : Tables) (sound : Sound t) (j k : ℕ) (runs : RunsAt t j k) where
  new : Slot
  new = record { job = (slot t.jobs.slots k).job; status = Committed }

  slots' : List Slot
  slots' = set t.jobs.slots k new

  at_k : slot slots' k ≡ new
  unfolding slots'
  at_k = get_or-set_same t.jobs.slots k new free_slot (omega (arith, sound.0.0))

  at_other : (a : ℕ) → (a ≡ k → ⊥) → slot slots' a ≡ slot t.jobs.slots a
  unfolding slots'
  at_other a d = get_or-set_other t.jobs.slots k a new free_slot d

  length' : length slots' ≡ 32
  unfolding slots'
  length' = length-set t.jobs.slots k new ∙ sound.0.0

  -- a slot belongs to whom it belonged
  same_owner : (i a : ℕ) → belongs i (slot slots' a) ≡ belongs i (slot t.jobs.slots a)
  unfolding new
  same_owner i a = elim (cases_eq a k) [
    | inl e ↦
        ap (belongs i) (ap (slot slots') e ∙ at_k)
        ∙ sym (ap (belongs i) (ap (slot t.jobs.slots) e) ∙ ap (λ st. taken st && eqb (slot t.jobs.slots k).job i) runs.2)
    | inr d ↦ ap (belongs i) (at_other a d)
  ]

  same_slot : (i : ℕ) → slot_of i slots' ≡ slot_of i t.jobs.slots
  same_slot i = first_same (belongs i) slots' t.jobs.slots (length' ∙ sym sound.0.0) (λ a _. same_owner i a)

  abbrev by_slot : ℕ → Status
  by_slot i = status_of (slot t.jobs.slots (slot_of i t.jobs.slots)).status

  status' : (i : ℕ) → status_of (slot slots' (slot_of i slots')).status ≡ put_at j committed by_slot i
  unfolding new
  status' i = elim (cases_eq i j) [
    | inl e ↦
        ap (λ (s : Slot). status_of s.status) (ap (slot slots') (same_slot i ∙ ap (λ n. slot_of n t.jobs.slots) e ∙ sym runs.0) ∙ at_k)
        ∙ sym (put_same j committed by_slot i e)
    | inr d ↦
        ap (λ (s : Slot). status_of s.status) (ap (slot slots') (same_slot i) ∙ at_other _ (λ e. both_ways (eqb i j) (ne_eqb i j d) (sym (tell t sound j k runs.0 runs.1 i) ∙ eq-eqb _ _ e)))
        ∙ sym (put_other j committed by_slot i d)
  ]

  module _ (items' : List ItemState) (let_go : ItemsLetGo j t.items items') where
    pub ended_state : (values : List ℕ) (room left : ℕ) → state (closed t k (slot t.jobs.slots k).job items') (put_all (state t values room).held (holdings (state t values room) j) values) left ≡ has_ended j left (state t values room)
    unfolding state has_ended slots' new
    ended_state values room left = same_state _ _ (record {
      slots = refl;
      next = refl;
      status = status';
      held = λ x. (let_go.1 x).0;
      readers = λ x i. ap (λ w. has w (slot_of i slots')) (let_go.1 x).1 ∙ ap (has (item t.items x).readers) (same_slot i);
      writers = λ x i. ap (λ w. has w (slot_of i slots')) (let_go.1 x).2 ∙ ap (has (item t.items x).writers) (same_slot i);
      edges = λ a b. ap (λ n. has (row t.jobs.edges n) (slot_of a slots')) (same_slot b) ∙ ap (has (row t.jobs.edges (slot_of b t.jobs.slots))) (same_slot a);
      values = refl;
      room = refl;
    })
