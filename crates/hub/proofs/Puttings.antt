-- What a job holds, put into a store item by item. Assumes nothing.
use Rattle.std.proofs.Common.{◌≡◌, ℕ, zero, suc, ◌+◌, ◌-◌, ◌<◌, ◌≤◌, min, Bool, true, false, List, [], ◌∷◌, ◌++◌, map, length, set, Some, None, Option, Result, sym, refl, ap, ◌∙◌, subst, arith}
use Rattle.std.proofs.lemmas.List.{length-set, length-append, append-nil, map-append}
use Rattle.history.specs.declared.holding.Holding.{Holding}
use Rattle.history.specs.Machine.{State, those, rising, holds, held_value, holdings, put_all}
use Rattle.scheduler.specs.Cores.{value_of}
use Rattle.store.specs.Stores.{Puts, Turns}
use Rattle.store.specs.declared.store.PutRefused.{PutRefused}
use Rattle.store.specs.declared.store.Store.{Ghosts}
use Rattle.hub.specs.Putting.{PutInTurn, held_pairs, with_values}

-- the store has these values and this room after what job j held in the state s was put into it: each put
-- took at most one of the room, and nothing else did
abbrev pub PutAll : State → ℕ → List ℕ → ℕ → Type 0
PutAll s j values room =
    (values ≡ put_all s.held (holdings s j) s.values)
    × (s.room ≤ room + length (holdings s j))
    × (length (holdings s j) ≡ 0 → room ≡ s.room)

-- the items below n that job j holds, rising
unfoldable pub held_below : (ℕ → Option Holding) → ℕ → ℕ → List ℕ
held_below held j n = those (λ x. holds j (held x)) (rising 0 n)

-- on the way: of the first items, as many as are served, the store has got what job j holds of those below
-- n, in turn; there is room for all of it
pub record OnTheWay {S : Type 0} (meaning : Ghosts S) (held : ℕ → Option Holding) (j served n : ℕ) (before after : S) : Type 0 where
  pub inside : served ≤ length (meaning.values before)
  pub enough : length (held_below held j served) ≤ meaning.room before
  pub put : meaning.values after ≡ put_all held (held_below held j n) (meaning.values before)
  pub takes : meaning.room before ≤ meaning.room after + length (held_below held j n)
  pub keeps : length (held_below held j n) ≡ 0 → meaning.room after ≡ meaning.room before
  pub turns : PutInTurn meaning.becomes before (with_values held (held_below held j n)) after

-- what the value that a job holds says of the holding

value_held : (j : ℕ) (h : Option Holding) (v : ℕ) → value_of j h ≡ Some v → (holds j h ≡ true) × (held_value h 0 ≡ v)
value_held j h v e = grind arith

value_none : (j : ℕ) (h : Option Holding) → value_of j h ≡ None → holds j h ≡ false
value_none j h e = grind arith

put_all_more : (held : ℕ → Option Holding) (xs : List ℕ) (x : ℕ) (values : List ℕ) → put_all held (xs ++ x ∷ []) values ≡ set (put_all held xs values) x (held_value (held x) 0)
unfolding put_all
put_all_more held [] x values = refl
put_all_more held (y ∷ xs) x values = put_all_more held xs x (set values y (held_value (held y) 0))

put_all_long : (held : ℕ → Option Holding) (xs : List ℕ) (values : List ℕ) → length (put_all held xs values) ≡ length values
unfolding put_all
put_all_long held [] values = refl
put_all_long held (y ∷ xs) values = put_all_long held xs (set values y (held_value (held y) 0)) ∙ length-set values y (held_value (held y) 0)

those_more : (p : ℕ → Bool) (a n : ℕ) → those p (rising a (suc n)) ≡ those p (rising a n) ++ those p ((a + n) ∷ [])
unfolding those rising
those_more p a zero = grind arith
those_more p a (suc n) = let more = those_more p (suc a) n in grind arith

module _ (held : ℕ → Option Holding) (j : ℕ) where
  below_in : (n : ℕ) → holds j (held n) ≡ true → held_below held j (n + 1) ≡ held_below held j n ++ n ∷ []
  unfolding held_below those
  below_in n e = let more = those_more (λ x. holds j (held x)) 0 n in grind arith

  below_out : (n : ℕ) → holds j (held n) ≡ false → held_below held j (n + 1) ≡ held_below held j n
  unfolding held_below those
  below_out n e = let more = those_more (λ x. holds j (held x)) 0 n in grind (arith, append-nil)

  below_rises : (n : ℕ) → length (held_below held j n) ≤ length (held_below held j (n + 1))
  below_rises n = let inside = below_in n in let out = below_out n in grind (arith, length-append)

  below_more : (n m : ℕ) → length (held_below held j n) ≤ length (held_below held j (n + m))
  below_more n zero = grind arith
  below_more n (suc m) = let a = below_more n m in let b = below_rises (n + m) in grind arith

-- one put more at the end of those in turn
put_in_turn_more : {S : Type 0} (becomes : S → ℕ → ℕ → S → Type 0) (before : S) (puts : List (ℕ × ℕ)) (store after : S) (x v : ℕ) → PutInTurn becomes before puts store → becomes store x v after → PutInTurn becomes before (puts ++ (x, v) ∷ []) after
put_in_turn_more becomes before [] store after x v e p = (after, subst (λ s. becomes s x v after) e p, refl)
put_in_turn_more becomes before (put ∷ puts) store after x v e p = (e.0, e.1, put_in_turn_more becomes e.0 puts store after x v e.2 p)

module _ {S : Type 0} (meaning : Ghosts S) (held : ℕ → Option Holding) (j served : ℕ) (before : S) where
  pub put_none : served ≤ length (meaning.values before) → length (held_below held j served) ≤ meaning.room before → OnTheWay meaning held j served 0 before before
  unfolding held_below those rising put_all
  put_none inside enough = record { inside = inside; enough = enough; put = refl; takes = omega arith; keeps = λ _. refl; turns = refl }

  module _ (n : ℕ) (store : S) (so_far : OnTheWay meaning held j served n before store) where
    pub put_past : None ≡ value_of j (held n) → OnTheWay meaning held j served (n + 1) before store
    put_past e = let out = below_out held j n (value_none j (held n) (sym e)) in grind arith

    module _ (v : ℕ) (told : Some v ≡ value_of j (held n)) (below : n < served) where
      e : value_of j (held n) ≡ Some v
      e = sym told

      grows : length (held_below held j (n + 1)) ≡ length (held_below held j n) + 1
      grows = ap length (below_in held j n (value_held j (held n) v e).0) ∙ length-append (held_below held j n) (n ∷ [])

      put_inside : n < length (meaning.values store)
      put_inside = let f = ap length so_far.put ∙ put_all_long held (held_below held j n) (meaning.values before) in omega (arith, so_far.inside)

      put_has_room : 0 < meaning.room store
      put_has_room = let more = below_more held j (n + 1) (served - (n + 1)) in let next = grows in grind arith

      -- with the value of item n at the end
      one_more : with_values held (held_below held j (n + 1)) ≡ with_values held (held_below held j n) ++ (n, v) ∷ []
      one_more =
          let is = value_held j (held n) v e in
          let pair : ℕ → ℕ × ℕ = λ x. (x, held_value (held x) 0) in
          ap (map pair) (below_in held j n is.0) ∙ map-append pair (held_below held j n) (n ∷ [])
          ∙ ap (λ u. with_values held (held_below held j n) ++ (n, u) ∷ []) is.1

      put_granted_here : (after : S) (r : Result (Unit {0}) PutRefused) → Puts (meaning.values store) (meaning.room store) n v r (meaning.values after) (meaning.room after) → Turns meaning.becomes store n v r after → (meaning.values after ≡ set (meaning.values store) n v) × (meaning.room store ≤ meaning.room after + 1) × meaning.becomes store n v after
      put_granted_here after r p t = let inside = put_inside in let enough = put_has_room in grind arith

      pub put_one : (after : S) (r : Result (Unit {0}) PutRefused) → Puts (meaning.values store) (meaning.room store) n v r (meaning.values after) (meaning.room after) → Turns meaning.becomes store n v r after → OnTheWay meaning held j served (n + 1) before after
      put_one after r p t =
          let is = value_held j (held n) v e in
          let got = put_granted_here after r p t in
          let more = below_in held j n is.0 in
          let all = put_all_more held (held_below held j n) n (meaning.values before) in
          let last = one_more in
          let turns = put_in_turn_more meaning.becomes before _ store after n v so_far.turns got.2 in
          grind (arith, length-append)

-- all that the job holds, of the items that are served
pub holdings_below : (s : State) (j n : ℕ) → n ≡ min 64 (length s.values) → length (held_below s.held j n) ≡ length (holdings s j)
unfolding held_below holdings
holdings_below s j n e = ap (λ k. length (those (λ x. holds j (s.held x)) (rising 0 k))) e

module _ {S : Type 0} (meaning : Ghosts S) (s : State) (j n served : ℕ) (before after : S) (e : n ≡ min 64 (length s.values)) (vs : s.values ≡ meaning.values before) (r : s.room ≡ meaning.room before) (p : OnTheWay meaning s.held j served n before after) where
  same_items : held_below s.held j n ≡ holdings s j
  unfolding held_below holdings
  same_items = ap (λ k. those (λ x. holds j (s.held x)) (rising 0 k)) e

  pub put_below_all : PutAll s j (meaning.values after) (meaning.room after)
  put_below_all = let same = same_items in grind arith

  pub put_below_turns : PutInTurn meaning.becomes before (held_pairs s j) after
  put_below_turns = subst (λ l. PutInTurn meaning.becomes before (with_values s.held l) after) same_items p.turns
