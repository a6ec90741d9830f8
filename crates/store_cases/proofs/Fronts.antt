-- What a store holds while values are put to its items from item 0 on.
use Rattle.std.proofs.Common.{◌≡◌, ℕ, ◌+◌, ◌-◌, ◌<◌, ◌≤◌, List, [], ◌∷◌, ◌++◌, length, get_or, take, drop, set, Ok, Err, Result, is_err, false, true≢false, sym, ap, ◌∙◌, append_assoc, arith, rules}
use Rattle.std.proofs.lemmas.List.{set-append_right, drop_more, take_more, places, length-append, length-take, length-drop}
use Rattle.store.specs.Stores.{Puts}
use Rattle.store.specs.declared.store.PutRefused.{PutRefused}

-- the first i values were put over the old ones, and took at most i of the room
pub record Front (old new : List ℕ) (room : ℕ) (i : ℕ) (values : List ℕ) (left : ℕ) : Type 0 where
  pub is : values ≡ take i new ++ drop i old
  pub inside : i ≤ length old
  pub taken : room ≤ left + i

-- a value set behind the front is the next one of it
set_next : (old new : List ℕ) (i : ℕ) → i < length old → i < length new → set (take i new ++ drop i old) i (get_or new i 0) ≡ take (i + 1) new ++ drop (i + 1) old
set_next old new i lo ln =
    let v = get_or new i 0 in
    let front : length (take i new) ≡ i = search (rules, places) in
    let at_front : i - i ≡ 0 = omega arith in
    set-append_right (take i new) (drop i old) i i v front (omega arith)
    ∙ ap (λ k. take i new ++ set (drop i old) k v) at_front
    ∙ ap (λ vs. take i new ++ set vs 0 v) (drop_more old i 0 lo)
    ∙ sym (append_assoc (take i new) (v ∷ []) (drop (i + 1) old))
    ∙ ap (λ vs. vs ++ drop (i + 1) old) (sym (take_more new i 0 ln))

module _ {old new values : List ℕ} {room i left : ℕ} (front : Front old new room i values left) (within : i < length new) where
  front_length : length values ≡ length old
  front_length = ap length front.is ∙ simp (length-append, length-take, length-drop) (omega (arith, front.inside))

  -- a granted put adds a value to the front
  pub front_more : {values' : List ℕ} {left' : ℕ} → Puts values left i (get_or new i 0) (Ok tt) values' left' → Front old new room (i + 1) values' left'
  front_more p =
      let lo : i < length old = omega (arith, front_length, p.0) in
      record {
        is = p.2 ∙ ap (λ vs. set vs i (get_or new i 0)) front.is ∙ set_next old new i lo within;
        inside = omega arith;
        taken = omega (arith, front.taken, p.3);
      }

  -- the same, told by the answer
  pub front_granted : (r : Result (Unit {0}) PutRefused) {values' : List ℕ} {left' : ℕ} → is_err r ≡ false → Puts values left i (get_or new i 0) r values' left' → Front old new room (i + 1) values' left'
  front_granted (Ok _) e p = front_more p
  front_granted (Err _) e p = absurd (true≢false e)
