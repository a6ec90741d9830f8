-- What the questions to a store answer and what a put does, over the store's values, one for each item
-- from item 0, and its room. Rests on nothing.
use Rattle.std.specs.Prelude.{◌≡◌, ℕ, ◌+◌, ◌<◌, ◌≤◌, cond, List, length, Some, None, Ok, Err, Option, Result, nat_lt, slice_index, slice_set}
use Rattle.store.specs.declared.store.PutRefused.{PutRefused}
use Rattle.store.specs.declared.store.PutRefused.TheVariants.{Outside, NoRoom}

-- the value of an item, or nothing where the list has no such item
abbrev pub at : List ℕ → ℕ → Option ℕ
at values item = cond (nat_lt item (length values)) (Some (slice_index values item)) None

-- a put to an item, by its answer: granted, it replaces the item's value and takes one of the room at
-- most; refused, it changes nothing
abbrev pub Puts : List ℕ → ℕ → ℕ → ℕ → Result (Unit {0}) PutRefused → List ℕ → ℕ → Type 0
Puts values room item value (Ok _) values' room' =
    (item < length values) × (0 < room) × (values' ≡ slice_set values item value) × (room ≤ room' + 1)
Puts values room item value (Err Outside) values' room' =
    (length values ≤ item) × (values' ≡ values) × (room' ≡ room)
Puts values room item value (Err NoRoom) values' room' =
    (item < length values) × (room ≡ 0) × (values' ≡ values) × (room' ≡ room)

-- what a put makes of a store, by its answer: granted, the store becomes another by it, in the store's own
-- meaning of that; refused, it stays the one that it was
abbrev pub Turns : {S : Type 0} → (S → ℕ → ℕ → S → Type 0) → S → ℕ → ℕ → Result (Unit {0}) PutRefused → S → Type 0
Turns becomes store item value (Ok _) store' = becomes store item value store'
Turns becomes store item value (Err _) store' = store' ≡ store
