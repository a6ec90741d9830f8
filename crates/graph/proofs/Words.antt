-- The bits of words: what a union, an added and a removed node do to each one.
use Rattle.std.proofs.Common.{◌≡◌, ℕ, zero, suc, ◌+◌, ◌-◌, ◌*◌, ◌/◌, ◌%◌, ◌^◌, ◌<◌, ◌≤◌, min, max, true, false, not, ◌&&◌, ◌||◌, eqb, ltb, ◌⊎◌, sym, refl, ap, ◌∙◌, inl, inr, pow-suc, one-add, arith, pow_pos, Decides}
use lib.Bits.{bit_and, bit_or, and_step, or_step, and_shr, or_shr, and_mask, and_lt, or_lt, or_disjoint}
use lib.Count.{count_trailing_zeros}
use lib.Dec.{eqb-suc-zero, eqb-zero-suc, eqb-suc-suc}
use Rattle.std.proofs.Math.Bool.{and-true}
use Rattle.std.proofs.lemmas.Nat.{pow_below, shr-shr, one_shl}
use Rattle.std.proofs.lemmas.Bool.{le-ltb, lt-ltb, cases_order, cases_lt, cases_eq, eq-eqb, eqb-true, ne_eqb, true≢false, false≢true}
use Rattle.graph.specs.Nodes.{has}

-- a digit is 0 or 1
digit : (n : ℕ) → (n % 2 ≡ 0) ⊎ (n % 2 ≡ 1)
digit n = elim (cases_order (n % 2) 1) [ inl e ↦ inr e | inr h ↦ elim h [ inl l ↦ inl (omega arith) | inr g ↦ absurd (omega arith) ] ]

or_digit : (a b : ℕ) → bit_or a b % 2 ≡ max (a % 2) (b % 2)
or_digit a b = omega (arith, or_step a b)

and_digit : (a b : ℕ) → bit_and a b % 2 ≡ min (a % 2) (b % 2)
and_digit a b = omega (arith, and_step a b)

or_test : (x y : ℕ) → eqb (bit_or x y % 2) 1 ≡ (eqb (x % 2) 1 || eqb (y % 2) 1)
or_test x y = rw or_digit (
    elim (digit x) [
      | inl p ↦ elim (digit y) [ inl q ↦ rw (p, q) | inr q ↦ rw (p, q) ]
      | inr p ↦ elim (digit y) [ inl q ↦ rw (p, q) | inr q ↦ rw (p, q) ]
    ])

and_test : (x y : ℕ) → eqb (bit_and x y % 2) 1 ≡ (eqb (x % 2) 1 && eqb (y % 2) 1)
and_test x y = rw and_digit (
    elim (digit x) [
      | inl p ↦ elim (digit y) [ inl q ↦ rw (p, q) | inr q ↦ rw (p, q) ]
      | inr p ↦ elim (digit y) [ inl q ↦ rw (p, q) | inr q ↦ rw (p, q) ]
    ])

-- a node is in a union if it is in one of the two
pub bit_either : (a b k : ℕ) → has (bit_or a b) k ≡ (has a k || has b k)
unfolding has
bit_either a b k = rw or_shr (or_test (a / 2 ^ k) (b / 2 ^ k))

-- a node is in what two sets have in common if it is in both
pub bit_both : (a b k : ℕ) → has (bit_and a b) k ≡ (has a k && has b k)
unfolding has
bit_both a b k = rw and_shr (and_test (a / 2 ^ k) (b / 2 ^ k))

-- the bits of a word past the lowest are those of its half
has_step : (x k : ℕ) → has x (suc k) ≡ has (x / 2) k
unfolding has
has_step x k = rw (← one-add k, ← shr-shr x 1 k)

-- the empty set has no node
pub bit_none : (k : ℕ) → has 0 k ≡ false
unfolding has
bit_none zero = refl
bit_none (suc k) = has_step 0 k ∙ bit_none k

-- the set of one node has that node alone
pub bit_one : (n k : ℕ) → has (2 ^ n) k ≡ eqb k n
unfolding has
bit_one zero zero = refl
bit_one zero (suc k) = has_step 1 k ∙ bit_none k ∙ sym (eqb-suc-zero k)
bit_one (suc n) zero = let e : 2 ^ suc n / 2 ^ 0 % 2 ≡ 0 = omega (arith, pow-suc 2 n) in rw e (sym (eqb-zero-suc n))
bit_one (suc n) (suc k) =
    let e : 2 ^ suc n / 2 ≡ 2 ^ n = omega (arith, pow-suc 2 n) in
    has_step (2 ^ suc n) k ∙ ap (λ x. has x k) e ∙ bit_one n k ∙ sym (eqb-suc-suc k n)

-- a word has no bit past its width
pub bit_past : (w set k : ℕ) → set < 2 ^ w → w ≤ k → has set k ≡ false
unfolding has
bit_past zero set k s l = let e : set ≡ 0 = omega arith in rw e (bit_none k)
bit_past (suc w) set zero s l = absurd (omega arith)
bit_past (suc w) set (suc k) s l =
    has_step set k ∙ bit_past w (set / 2) k (omega (arith, pow-suc 2 w)) (omega arith)

-- the complement of a word has the bits that the word has not
pub bit_not : (w set k : ℕ) → set < 2 ^ w → k < w → has (2 ^ w - 1 - set) k ≡ not (has set k)
unfolding has
bit_not zero set k s l = absurd (omega arith)
bit_not (suc w) set zero s l =
    let e : (2 ^ suc w - 1 - set) / 2 ^ 0 % 2 ≡ 1 - set / 2 ^ 0 % 2 = omega (arith, pow-suc 2 w, pow_pos w) in
    rw e (elim (digit (set / 2 ^ 0)) [ inl p ↦ rw p | inr p ↦ rw p ])
bit_not (suc w) set (suc k) s l =
    let e : (2 ^ suc w - 1 - set) / 2 ≡ 2 ^ w - 1 - set / 2 = omega (arith, pow-suc 2 w) in
    has_step (2 ^ suc w - 1 - set) k ∙ ap (λ x. has x k) e
    ∙ bit_not w (set / 2) k (omega (arith, pow-suc 2 w)) (omega arith) ∙ ap not (sym (has_step set k))

-- a node is in a set without another if it is in the first alone
pub bit_minus : (w a b k : ℕ) → a < 2 ^ w → b < 2 ^ w → has (bit_and a (2 ^ w - 1 - b)) k ≡ (has a k && not (has b k))
bit_minus w a b k s t = elim (cases_lt k w) [
  | inl l ↦ bit_both a (2 ^ w - 1 - b) k ∙ ap (λ x. has a k && x) (bit_not w b k t l)
  | inr l ↦ rw (bit_both a (2 ^ w - 1 - b) k, bit_past w a k s l)
]

-- a node is in a set that it was added to, and any other stays
pub bit_set : (w set n k : ℕ) → n < w → has (bit_or set ((1 * 2 ^ n) % 2 ^ w)) k ≡ (has set k || eqb k n)
bit_set w set n k l = rw (one_shl n w l, bit_either set (2 ^ n) k, bit_one n k)

-- a node is not in a set that it was taken from, and any other stays
pub bit_clear : (w set n k : ℕ) → set < 2 ^ w → n < w
    → has (bit_and set (2 ^ w - 1 - (1 * 2 ^ n) % 2 ^ w)) k ≡ (has set k && not (eqb k n))
bit_clear w set n k s l =
    rw (one_shl n w l) (bit_minus w set (2 ^ n) k s (pow_below n w l) ∙ ap (λ x. has set k && not x) (bit_one n k))

less_more : (k n : ℕ) → ltb (suc k) (suc n) ≡ ltb k n
less_more k n = elim (cases_lt k n) [
  | inl l ↦ lt-ltb (suc k) (suc n) (omega arith) ∙ sym (lt-ltb k n l)
  | inr l ↦ le-ltb (suc k) (suc n) (omega arith) ∙ sym (le-ltb k n l)
]

-- a power of two less one has the nodes below its exponent
pub bit_low : (n k : ℕ) → has (2 ^ n - 1) k ≡ ltb k n
unfolding has
bit_low zero k = bit_none k ∙ sym (le-ltb k 0 (omega arith))
bit_low (suc n) zero =
    let e : (2 ^ suc n - 1) / 2 ^ 0 % 2 ≡ 1 = omega (arith, pow-suc 2 n, pow_pos n) in rw e (sym (lt-ltb 0 (suc n) (omega arith)))
bit_low (suc n) (suc k) =
    let e : (2 ^ suc n - 1) / 2 ≡ 2 ^ n - 1 = omega (arith, pow-suc 2 n, pow_pos n) in
    has_step (2 ^ suc n - 1) k ∙ ap (λ x. has x k) e ∙ bit_low n k ∙ sym (less_more k n)

-- the test of a bit by a shift and a mask
pub bit_mask : (set k : ℕ) → eqb (bit_and (set / 2 ^ k) 1) 1 ≡ has set k
unfolding has
bit_mask set k = rw (and_mask (set / 2 ^ k) 1)

same_digit : (a b : ℕ) → eqb (a % 2) 1 ≡ eqb (b % 2) 1 → a % 2 ≡ b % 2
same_digit a b e = elim (digit a) [
  | inl p ↦ elim (digit b) [ inl q ↦ p ∙ sym q | inr q ↦ absurd (false≢true (simp (p, q) at e)) ]
  | inr p ↦ elim (digit b) [ inl q ↦ absurd (true≢false (simp (p, q) at e)) | inr q ↦ p ∙ sym q ]
]

-- words with the same bits are equal
pub bits_tell : (w a b : ℕ) → a < 2 ^ w → b < 2 ^ w → ((k : ℕ) → has a k ≡ has b k) → a ≡ b
unfolding has
bits_tell zero a b s t h = omega arith
bits_tell (suc w) a b s t h =
    let e : a / 2 ≡ b / 2 =
    bits_tell w (a / 2) (b / 2) (omega (arith, pow-suc 2 w)) (omega (arith, pow-suc 2 w)) (λ k. sym (has_step a k) ∙ h (suc k) ∙ has_step b k) in
    let d : a % 2 ≡ b % 2 = omega (arith, same_digit (a / 1) (b / 1) (h 0)) in
    omega arith

-- the lowest bit of a word that is not 0
pub bit_lowest : (w set : ℕ) → set < 2 ^ w → (set ≡ 0 → ⊥) → (count_trailing_zeros w set < w) × (has set (count_trailing_zeros w set) ≡ true)
unfolding has count_trailing_zeros
bit_lowest zero set s ne = absurd (ne (omega arith))
bit_lowest (suc w) set s ne = elim (digit set) [
  | inl p ↦
      let h = bit_lowest w (set / 2) (omega (arith, pow-suc 2 w)) (λ e. ne (omega arith)) in
      rw p (omega (arith, h.0), has_step set (count_trailing_zeros w (set / 2)) ∙ h.1)
  | inr p ↦ rw p (omega arith, let e : set / 2 ^ 0 % 2 ≡ 1 = omega arith in rw e)
]

-- a word that has the bits of two others, which share none, is their sum
pub bit_sum : (w a b c : ℕ) → a < 2 ^ w → b < 2 ^ w → c < 2 ^ w → ((k : ℕ) → has c k ≡ (has a k || has b k))
    → ((k : ℕ) → (has a k && has b k) ≡ false) → c ≡ a + b
bit_sum w a b c s t u h n =
    let apart : bit_and a b ≡ 0 = bits_tell w (bit_and a b) 0 (and_lt w a b s t) (pow_pos w) (λ k. bit_both a b k ∙ n k ∙ sym (bit_none k)) in
    bits_tell w c (bit_or a b) u (or_lt w a b s t) (λ k. h k ∙ sym (bit_either a b k)) ∙ or_disjoint a b apart

-- a word with no bit is 0
pub bit_empty : (w set : ℕ) → set < 2 ^ w → ((k : ℕ) → has set k ≡ false) → set ≡ 0
bit_empty w set s h = bits_tell w set 0 s (pow_pos w) (λ k. h k ∙ sym (bit_none k))

-- to take a node past the width out of a set changes nothing
pub past_kept : (w set n : ℕ) → set < 2 ^ w → w ≤ n → (k : ℕ) → has set k ≡ (has set k && not (eqb k n))
past_kept w set n s l k = elim (cases_eq k n) [
  | inl e ↦ rw (e, bit_past w set n s l)
  | inr d ↦ rw (ne_eqb k n d, and-true (has set k))
]

-- the same of words of 64 bits, as the code of `nodes` has them
pub word_minus : (a b k : ℕ) → a < 2 ^ 64 → b < 2 ^ 64 → has (bit_and a (2 ^ 64 - 1 - b)) k ≡ (has a k && not (has b k))
word_minus a b k = bit_minus 64 a b k

pub word_empty : (set : ℕ) → set < 2 ^ 64 → Decides (eqb set 0) ((k : ℕ) → has set k ≡ false)
word_empty set s = (λ e k. rw (eqb-true set 0 e) (bit_none k), λ none. eq-eqb set 0 (bit_empty 64 set s none))

pub word_with : (set n k : ℕ) → n < 64 → has (bit_or set ((1 * 2 ^ n) % 2 ^ 64)) k ≡ (has set k || (ltb n 64 && eqb k n))
word_with set n k l = rw (lt-ltb n 64 l) (bit_set 64 set n k l)

pub word_without : (set n k : ℕ) → set < 2 ^ 64 → n < 64
    → has (bit_and set (2 ^ 64 - 1 - (1 * 2 ^ n) % 2 ^ 64)) k ≡ (has set k && not (eqb k n))
word_without set n k = bit_clear 64 set n k

pub word_past : (set k : ℕ) → set < 2 ^ 64 → 64 ≤ k → has set k ≡ false
word_past set k = bit_past 64 set k

pub word_kept : (set n k : ℕ) → set < 2 ^ 64 → 64 ≤ n → (has set k && not (eqb k n)) ≡ has set k
word_kept set n k s l = sym (past_kept 64 set n s l k)

pub word_below : (n k : ℕ) → n < 64 → has ((1 * 2 ^ n) % 2 ^ 64 - 1) k ≡ ltb k n
word_below n k l = rw (one_shl n 64 l) (bit_low n k)

pub word_full : (k : ℕ) → has (2 ^ 64 - 1) k ≡ ltb k 64
word_full k = bit_low 64 k
