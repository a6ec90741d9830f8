-- How the records of a list of bytes are counted and what they hold when one is appended.
use Rattle.std.proofs.Common.{◌≡◌, ℕ, zero, suc, ◌+◌, ◌-◌, ◌*◌, ◌/◌, ◌%◌, ◌^◌, ◌<◌, ◌≤◌, cond, eqb, List, [], ◌∷◌, ◌++◌, length, get_or, take, drop, set, Some, None, sym, refl, ap, ◌∙◌, inl, inr, ◌==◌, reverse, add-one, arith, get_or-set_other, get_or-set_same, rules, below_more}
use Rattle.std.proofs.lemmas.List.{places, drop-drop, reverse-append, get_or_append_left, get_or-append_right, same_lists, length-set}
use Rattle.std.proofs.lemmas.Grind.{common_steps}
use Rattle.std.proofs.lemmas.Bool.{cases_eq, cond-true, cond-false, cond_both, eqb-true, eqb-false, lt-ltb, le-ltb, eq-eqb, ne_eqb}
use Rattle.std.proofs.lemmas.Nat.{shr-shr, shr_split}
use Rattle.std.proofs.lemmas.List.FromFn.{length-map-range_with_len, get_or-map-range_with_len}
use Rattle.std.specs.List.{prefix_len, find}
use Rattle.std.specs.Option.{option_map_or}
use Rattle.store.specs.Stores.{at}
use Rattle.store.specs.Records.{whole, records, byte_of, mark_of, item_of, value_of, unmarked_from, used_in, UsedFront, held, Latest, contents, written, with_record}

-- a byte below the record that is appended stays
pub below_record : (bytes : List ℕ) (n item value : ℕ) → n < whole bytes → (k : ℕ) → k < n * 8 → get_or (with_record bytes n item value) k 0 ≡ get_or bytes k 0
below_record bytes n item value h k l = search (rules, places)

pub in_record : (bytes : List ℕ) (n item value : ℕ) → n < whole bytes → (k : ℕ) → k < 8 → byte_of (with_record bytes n item value) n k ≡ get_or (written item value) k 0
in_record bytes n item value h k l =
    let front : length (take (n * 8) bytes) ≡ n * 8 = search (rules, places) in
    let back = drop (n * 8 + 8) bytes in
    let k_is : n * 8 + k - n * 8 ≡ k = omega arith in
    get_or-append_right (take (n * 8) bytes) (written item value ++ back) (n * 8) (n * 8 + k) 0 front (omega arith) ∙ ap (λ i. get_or (written item value ++ back) i 0) k_is ∙ get_or_append_left (written item value) back 0 k l

pub length_with_record : (bytes : List ℕ) (n item value : ℕ) → n < whole bytes → length (with_record bytes n item value) ≡ length bytes
length_with_record bytes n item value h = search (rules, places)

value_split : (v : ℕ) → v < 2 ^ 32 → v / 16777216 % 256 * 16777216 + v / 65536 % 256 * 65536 + v / 256 % 256 * 256 + v % 256 ≡ v
value_split v h =
    let low = shr_split v 8 in
    let middle = rw (shr-shr v 8 8) at (shr_split (v / 256) 8) in
    let high = rw (shr-shr v 16 8) at (shr_split (v / 65536) 8) in
    omega arith

-- what an item holds by the first n records rests on their bytes alone
pub held_below : (b c : List ℕ) (item n : ℕ) → ((k : ℕ) → k < n * 8 → get_or b k 0 ≡ get_or c k 0) → held b item n ≡ held c item n
held_below b c item zero same = refl
held_below b c item (suc n) same =
    let byte : (k : ℕ) → k < 8 → byte_of b n k ≡ byte_of c n k = λ k l. same (n * 8 + k) (omega arith) in
    let before = held_below b c item n (λ k l. same k (omega arith)) in
    cc (byte 1 (omega arith), byte 4 (omega arith), byte 5 (omega arith), byte 6 (omega arith), byte 7 (omega arith))

-- with one record more, its item holds its value and the others what they held
pub held_appended : (bytes : List ℕ) (n item value x : ℕ) → n < whole bytes → value < 2 ^ 32 → held (with_record bytes n item value) x (suc n) ≡ cond (eqb item x) value (held bytes x n)
held_appended bytes n item value x h v =
    let new = with_record bytes n item value in
    let byte = in_record bytes n item value h in
    let before = held_below new bytes x n (below_record bytes n item value h) in
    cc (byte 1 (omega arith), byte 4 (omega arith), byte 5 (omega arith), byte 6 (omega arith), byte 7 (omega arith), value_split value v)

-- appending a record replaces the value of its item
pub contents_appended : (bytes : List ℕ) (items n item value : ℕ) → n < whole bytes → value < 2 ^ 32 → item < items → contents (with_record bytes n item value) items (n + 1) ≡ set (contents bytes items n) item value
contents_appended bytes items n item value h v l =
    let new = with_record bytes n item value in
    let before : ℕ → ℕ = λ x. held bytes x n in
    let after : ℕ → ℕ = λ x. held new x (n + 1) in
    let here : (x : ℕ) → after x ≡ cond (eqb item x) value (before x) = λ x. rw add-one (held_appended bytes n item value x h v) in
    let long : length (contents bytes items n) ≡ items = length-map-range_with_len before 0 items in
    same_lists _ _ (length-map-range_with_len after 0 items ∙ sym long ∙ sym (length-set (contents bytes items n) item value)) (λ k d kl.
    let k_in : k < items = rw (length-map-range_with_len after 0 items) at kl in
    get_or-map-range_with_len after 0 items k k d k_in (omega arith) ∙ here k ∙ elim (cases_eq item k) [
      | inl e ↦ cond-true (eqb item k) value (before k) (eq-eqb item k e) ∙ sym (rw e (get_or-set_same (contents bytes items n) k value d (rw long k_in)))
      | inr ne ↦ cond-false (eqb item k) value (before k) (ne_eqb item k ne) ∙ sym (get_or-set_other (contents bytes items n) item k value d (λ e. ne (sym e)) ∙ get_or-map-range_with_len before 0 items k k d k_in (omega arith))
    ])

-- there is a value for each item
pub length_contents : (bytes : List ℕ) (items n : ℕ) → length (contents bytes items n) ≡ items
length_contents bytes items n = length-map-range_with_len (λ item. held bytes item n) 0 items

-- what a store with these contents answers inside
pub at_contents : (bytes : List ℕ) (items n item : ℕ) → item < items → at (contents bytes items n) item ≡ Some (held bytes item n)
at_contents bytes items n item l =
    rw (length_contents bytes items n, lt-ltb item items l, get_or-map-range_with_len (λ x. held bytes x n) 0 items item item 0 l (omega arith)) refl

-- and outside
pub at_contents_outside : (bytes : List ℕ) (items n item : ℕ) → items ≤ item → at (contents bytes items n) item ≡ None
at_contents_outside bytes items n item l = rw (length_contents bytes items n, le-ltb item items l) refl

used_front_from : (bytes : List ℕ) (n k : ℕ) → n + k ≡ whole bytes → ((i : ℕ) → i < n → mark_of bytes i ≡ 165) → UsedFront bytes (unmarked_from bytes n k)
used_front_from bytes n zero w marks = record { within = omega arith; marks = marks; stops = λ l. absurd (omega arith) }
used_front_from bytes n (suc k) w marks =
    cond_both (eqb (mark_of bytes n) 165) (unmarked_from bytes (n + 1) k) n (UsedFront bytes) (λ e.
    used_front_from bytes (n + 1) k (omega arith) (below_more (λ i. mark_of bytes i ≡ 165) n marks (eqb-true (mark_of bytes n) 165 e))) (λ e.
    record { within = omega arith; marks = marks; stops = λ l. eqb-false (mark_of bytes n) 165 e })

-- the count of used records keeps its rule
pub used_front : (bytes : List ℕ) → UsedFront bytes (used_in bytes)
used_front bytes = used_front_from bytes 0 (whole bytes) (omega arith) (λ i l. absurd (omega arith))

-- a record of another item leaves the last one of the item
last_of_more : (bytes : List ℕ) (item n : ℕ) → (item_of bytes n ≡ item → ⊥) → (P : ℕ → Type 0) → ((j : ℕ) → P j → j < n → item_of bytes j ≡ item → ⊥) → (j : ℕ) → P j → j < suc n → item_of bytes j ≡ item → ⊥
last_of_more bytes item n other P before j p l e =
    elim (cases_eq j n) [ inl at_n ↦ other (ap (item_of bytes) (sym at_n) ∙ e) | inr ne ↦ before j p (omega arith) e ]

-- what is held stands in the last record of the item
pub held_latest : (bytes : List ℕ) (item n : ℕ) → Latest bytes item n (held bytes item n)
held_latest bytes item zero = inr (λ k l. absurd (omega arith), refl)
held_latest bytes item (suc n) =
    cond_both (eqb (item_of bytes n) item) (value_of bytes n) (held bytes item n) (Latest bytes item (suc n)) (λ e.
    inl (n, (omega arith, eqb-true (item_of bytes n) item e, λ j l m. absurd (omega arith)), refl)) (λ e.
    let other = eqb-false (item_of bytes n) item e in
    elim (held_latest bytes item n) [
      | inl found ↦ inl (found.0, (omega (arith, found.1.0), found.1.1, last_of_more bytes item n other (λ j. found.0 < j) found.1.2), found.2)
      | inr none ↦ inr (λ k l. last_of_more bytes item n other (λ j. Unit {0}) (λ j _. none.0 j) k tt l, none.1)
    ])

-- a byte of a record, cut out
pub byte_in : (bytes : List ℕ) (n k : ℕ) → k < 8 → get_or (take 8 (drop (n * 8) bytes)) k 0 ≡ byte_of bytes n k
byte_in bytes n k l = search (rules, places)

-- the first of the first records
pub first_records : (bytes : List ℕ) (k n : ℕ) → k ≤ n → take k (records bytes n) ≡ records bytes k
first_records bytes zero n l = refl
first_records bytes (suc k) zero l = absurd (omega arith)
first_records bytes (suc k) (suc n) l = ap (λ rs. take 8 bytes ∷ rs) (first_records (drop 8 bytes) k n (omega arith))

-- one record more
pub records_more : (bytes : List ℕ) (n : ℕ) → records bytes (suc n) ≡ records bytes n ++ (take 8 (drop (n * 8) bytes) ∷ [])
records_more bytes zero = refl
records_more bytes (suc n) =
    let at : 8 + n * 8 ≡ suc n * 8 = omega arith in
    ap (λ rs. take 8 bytes ∷ rs) (records_more (drop 8 bytes) n ∙ ap (λ xs. records (drop 8 bytes) n ++ (take 8 xs ∷ [])) (drop-drop (n * 8) 8 bytes ∙ ap (λ k. drop k bytes) at))

-- how many records from record n on are marked
marked_records : (bytes : List ℕ) (n k : ℕ) → n + prefix_len (λ r. get_or r 0 0 == 165) (records (drop (n * 8) bytes) k) ≡ unmarked_from bytes n k
marked_records bytes n zero = omega arith
marked_records bytes n (suc k) =
    let mark : get_or (take 8 (drop (n * 8) bytes)) 0 0 ≡ mark_of bytes n = byte_in bytes n 0 (omega arith) ∙ ap (λ j. get_or bytes j 0) (omega arith) in
    let next : drop 8 (drop (n * 8) bytes) ≡ drop ((n + 1) * 8) bytes = drop-drop 8 (n * 8) bytes ∙ ap (λ j. drop j bytes) (omega arith) in
    let rest : n + 1 + prefix_len (λ r. get_or r 0 0 == 165) (records (drop 8 (drop (n * 8) bytes)) k) ≡ unmarked_from bytes (n + 1) k = rw next (marked_records bytes (n + 1) k) in
    rw mark (grind (arith, common_steps, rest))

-- how many records are used
pub count_marked : (bytes : List ℕ) → prefix_len (λ r. get_or r 0 0 == 165) (records bytes (whole bytes)) ≡ used_in bytes
count_marked bytes = omega (arith, marked_records bytes 0 (whole bytes))

-- what an item holds by the first n records, looked for from the back
pub last_record : (bytes : List ℕ) (item n : ℕ) → held bytes item n ≡ option_map_or (λ r. value_of r 0) (find (λ r. get_or r 1 0 == item) (reverse (records bytes n))) 0
last_record bytes item zero = refl
last_record bytes item (suc n) =
    let byte = byte_in bytes n in
    let back : reverse (records bytes (suc n)) ≡ take 8 (drop (n * 8) bytes) ∷ reverse (records bytes n) = ap (λ rs. reverse rs) (records_more bytes n) ∙ reverse-append (records bytes n) (take 8 (drop (n * 8) bytes) ∷ []) in
    rw (back, byte 1 (omega arith)) (cond_both (item_of bytes n == item) (value_of bytes n) (held bytes item n) (λ v. v ≡ option_map_or (λ r. value_of r 0) (cond (item_of bytes n == item) (Some (take 8 (drop (n * 8) bytes))) (find (λ r. get_or r 1 0 == item) (reverse (records bytes n)))) 0) (λ e.
    rw (e, byte 4 (omega arith), byte 5 (omega arith), byte 6 (omega arith), byte 7 (omega arith)) refl) (λ e. rw e (last_record bytes item n)))
