-- There are as many present jobs as taken slots. Assumes nothing.
use Rattle.std.proofs.Common.{◌≡◌, ℕ, zero, suc, ◌+◌, ◌<◌, ◌≤◌, Bool, true, false, cond, not, ◌&&◌, ◌||◌, eqb, leb, List, [], ◌∷◌, length, sym, refl, ap, ◌∙◌, inl, inr, arith}
use Rattle.std.proofs.lemmas.Bool.{cases_Bool, cases_eq, eq-eqb, ne_eqb, and_parts, lt-leb, le-leb}
use Rattle.history.specs.Machine.{those, rising, present}
use Rattle.scheduler.specs.declared.slots.Slot.{Slot}
use Rattle.scheduler.specs.declared.slots.SlotStatus.{SlotStatus}
use Rattle.scheduler.specs.declared.slots.SlotStatus.TheVariants.{Free, Running, Committed}
use Rattle.scheduler.specs.Slots.{taken, status_of, belongs, slot, first, slot_of, is_free}

-- tests over rising numbers

those_cons : (p : ℕ → Bool) (x : ℕ) (xs : List ℕ) → those p (x ∷ xs) ≡ cond (p x) (x ∷ those p xs) (those p xs)
unfolding those
those_cons p x xs = refl

pub those_same : (p q : ℕ → Bool) (a n : ℕ) → ((j : ℕ) → a ≤ j → p j ≡ q j) → those p (rising a n) ≡ those q (rising a n)
unfolding those rising
those_same p q a zero h = refl
those_same p q a (suc n) h =
    let rest = those_same p q (suc a) n (λ j l. h j (omega arith)) in
    ap (λ b. cond b (a ∷ those p (rising (suc a) n)) (those p (rising (suc a) n))) (h a (omega arith)) ∙ ap (λ l. cond (q a) (a ∷ l) l) rest

-- one number more passes
those_one_more : (p : ℕ → Bool) (m a n : ℕ) → p m ≡ false → a ≤ m → m < a + n → length (those (λ j. eqb m j || p j) (rising a n)) ≡ suc (length (those p (rising a n)))
unfolding those rising
those_one_more p m a zero e l h = absurd (omega arith)
those_one_more p m a (suc n) e l h =
    let q : ℕ → Bool = λ j. eqb m j || p j in
    elim (cases_eq m a) [
      | inl here ↦
          let passes : q a ≡ true = ap (λ b. b || p a) (eq-eqb m a here) in
          let fails : p a ≡ false = ap p (sym here) ∙ e in
          let rest = those_same q p (suc a) n (λ j k. ap (λ b. b || p j) (ne_eqb m j (λ s. absurd (omega arith)))) in
          ap (λ b. length (cond b (a ∷ those q (rising (suc a) n)) (those q (rising (suc a) n)))) passes
          ∙ ap (λ l. suc (length l)) rest
          ∙ sym (ap (λ b. suc (length (cond b (a ∷ those p (rising (suc a) n)) (those p (rising (suc a) n))))) fails)
      | inr other ↦
          let same : q a ≡ p a = ap (λ b. b || p a) (ne_eqb m a other) in
          let rest = those_one_more p m (suc a) n e (omega arith) (omega arith) in
          ap (λ b. length (cond b (a ∷ those q (rising (suc a) n)) (those q (rising (suc a) n)))) same
          ∙ grow (p a) (those q (rising (suc a) n)) (those p (rising (suc a) n)) rest
    ]
  where
    grow : (b : Bool) (xs ys : List ℕ) → length xs ≡ suc (length ys) → length (cond b (a ∷ xs) xs) ≡ suc (length (cond b (a ∷ ys) ys))
    grow true xs ys r = ap suc r
    grow false xs ys r = r

-- some slot belongs to job j
occupied : List Slot → ℕ → Bool
occupied [] j = false
occupied (s ∷ ss) j = belongs j s || occupied ss j

-- how many slots are taken
taken_count : List Slot → ℕ
taken_count [] = 0
taken_count (s ∷ ss) = cond (taken s.status) (suc (taken_count ss)) (taken_count ss)

pub present_taken : (st : SlotStatus) → present (status_of st) ≡ taken st
present_taken Free = refl
present_taken Running = refl
present_taken Committed = refl

present_occupied : (j : ℕ) (ss : List Slot) → taken (slot ss (slot_of j ss)).status ≡ occupied ss j
unfolding occupied
present_occupied j [] = refl
present_occupied j (s ∷ ss) =
    elim (cases_Bool (belongs j s)) [
      | inl e ↦
          ap (λ b. taken (slot (s ∷ ss) (cond b 0 (suc (slot_of j ss)))).status) e ∙ (and_parts (taken s.status) (eqb s.job j) e).0
          ∙ sym (ap (λ b. b || occupied ss j) e)
      | inr e ↦
          ap (λ b. taken (slot (s ∷ ss) (cond b 0 (suc (slot_of j ss)))).status) e ∙ present_occupied j ss
          ∙ sym (ap (λ b. b || occupied ss j) e)
    ]

-- the slots have numbers below n, no two the same
abbrev Numbers : ℕ → List Slot → Type 0
Numbers n ss =
    ((a b j : ℕ) → belongs j (slot ss a) ≡ true → belongs j (slot ss b) ≡ true → a ≡ b)
    × ((a j : ℕ) → belongs j (slot ss a) ≡ true → j < n)

numbers_rest : (n : ℕ) (s : Slot) (ss : List Slot) → Numbers n (s ∷ ss) → Numbers n ss
numbers_rest n s ss h = ((λ a b j e f. let z = h.0 (suc a) (suc b) j e f in omega arith), (λ a j e. h.1 (suc a) j e))

-- the job of the first slot has no other
not_occupied : (n j : ℕ) (s : Slot) (ss : List Slot) → Numbers n (s ∷ ss) → belongs j s ≡ true → (k : ℕ) → belongs j (slot ss k) ≡ false
not_occupied n j s ss h e k = elim (cases_Bool (belongs j (slot ss k))) [ inl f ↦ (let z = h.0 0 (suc k) j e f in absurd (omega arith)) | inr f ↦ f ]

none_occupied : (j : ℕ) (ss : List Slot) → ((k : ℕ) → belongs j (slot ss k) ≡ false) → occupied ss j ≡ false
unfolding occupied
none_occupied j [] h = refl
none_occupied j (s ∷ ss) h = ap (λ b. b || occupied ss j) (h 0) ∙ none_occupied j ss (λ k. h (suc k))

none_pass : (n a : ℕ) → length (those (λ j. false) (rising a n)) ≡ 0
unfolding those rising
none_pass zero a = refl
none_pass (suc n) a = none_pass n (suc a)

count_occupied : (n : ℕ) (ss : List Slot) → Numbers n ss → length (those (occupied ss) (rising 0 n)) ≡ taken_count ss
unfolding occupied taken_count
count_occupied n [] h = none_pass n 0
count_occupied n (s ∷ ss) h =
    let rest = count_occupied n ss (numbers_rest n s ss h) in
    elim (cases_Bool (taken s.status)) [
      | inl e ↦
          let mine : belongs s.job s ≡ true = ap (λ b. b && eqb s.job s.job) e ∙ eq-eqb s.job s.job refl in
          let more = those_one_more (occupied ss) s.job 0 n (none_occupied s.job ss (not_occupied n s.job s ss h mine)) (omega arith) (omega (arith, h.1 0 s.job mine)) in
          let same = those_same (occupied (s ∷ ss)) (λ j. eqb s.job j || occupied ss j) 0 n (λ j _. ap (λ b. (b && eqb s.job j) || occupied ss j) e) in
          ap length same ∙ more ∙ ap suc rest ∙ sym (ap (λ b. cond b (suc (taken_count ss)) (taken_count ss)) e)
      | inr e ↦
          let same = those_same (occupied (s ∷ ss)) (occupied ss) 0 n (λ j _. ap (λ b. (b && eqb s.job j) || occupied ss j) e) in
          ap length same ∙ rest ∙ sym (ap (λ b. cond b (suc (taken_count ss)) (taken_count ss)) e)
    ]

-- one slot more is free, or taken
count_first : (st : SlotStatus) (first rest whole : ℕ) → ((first ≡ whole) → rest ≡ whole) → cond (not (taken st)) 0 (suc first) ≡ suc whole → cond (taken st) (suc rest) rest ≡ suc whole
count_first Free first rest whole h e = absurd (omega arith)
count_first Running first rest whole h e = ap suc (h (omega arith))
count_first Committed first rest whole h e = ap suc (h (omega arith))

room_first : (st : SlotStatus) (first rest whole : ℕ) → rest ≤ whole → (first < whole → rest < whole) → cond (not (taken st)) 0 (suc first) < suc whole → cond (taken st) (suc rest) rest < suc whole
room_first Free first rest whole l h e = omega arith
room_first Running first rest whole l h e = let z : rest < whole = h (omega arith) in omega arith
room_first Committed first rest whole l h e = let z : rest < whole = h (omega arith) in omega arith

within_first : (st : SlotStatus) (rest whole : ℕ) → rest ≤ whole → cond (taken st) (suc rest) rest ≤ suc whole
within_first Free rest whole h = omega arith
within_first Running rest whole h = omega arith
within_first Committed rest whole h = omega arith

count_within : (ss : List Slot) → taken_count ss ≤ length ss
unfolding taken_count
count_within [] = omega arith
count_within (s ∷ ss) = within_first s.status (taken_count ss) (length ss) (count_within ss)

count_full : (ss : List Slot) → first is_free ss ≡ length ss → taken_count ss ≡ length ss
unfolding taken_count
count_full [] h = refl
count_full (s ∷ ss) h = count_first s.status (first is_free ss) (taken_count ss) (length ss) (count_full ss) h

count_not_full : (ss : List Slot) → first is_free ss < length ss → taken_count ss < length ss
unfolding taken_count
count_not_full [] h = absurd (omega arith)
count_not_full (s ∷ ss) h = room_first s.status (first is_free ss) (taken_count ss) (length ss) (count_within ss) (count_not_full ss) h

-- how many jobs are present by the slots
module _ (n : ℕ) (ss : List Slot) (numbers : Numbers n ss) where
  present_count : length (those (λ j. present (status_of (slot ss (slot_of j ss)).status)) (rising 0 n)) ≡ taken_count ss
  present_count =
      ap length (those_same (λ j. present (status_of (slot ss (slot_of j ss)).status)) (occupied ss) 0 n (λ j _. present_taken (slot ss (slot_of j ss)).status ∙ present_occupied j ss))
      ∙ count_occupied n ss numbers

  -- no slot is free exactly when so many jobs are present
  pub table_full : first is_free ss ≡ length ss → leb (length ss) (length (those (λ j. present (status_of (slot ss (slot_of j ss)).status)) (rising 0 n))) ≡ true
  table_full h = let e = present_count in let f = count_full ss h in le-leb _ _ (omega arith)

  pub table_has_room : first is_free ss < length ss → leb (length ss) (length (those (λ j. present (status_of (slot ss (slot_of j ss)).status)) (rising 0 n))) ≡ false
  table_has_room h = let e = present_count in let f = count_not_full ss h in lt-leb _ _ (omega arith)
