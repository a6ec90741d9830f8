-- Which answer a put gives. For code that is generic in its store.
use Rattle.std.proofs.Common.{◌≡◌, ℕ, ◌+◌, ◌<◌, ◌≤◌, List, length, set, Ok, Err, Result, refl, arith}
use Rattle.store.specs.Stores.{Puts}
use Rattle.store.specs.declared.store.PutRefused.{PutRefused}
use Rattle.store.specs.declared.store.PutRefused.TheVariants.{Outside, NoRoom}

module _ (values values' : List ℕ) (room room' item value : ℕ) where
  -- to an item of the store, with room
  pub put_granted : (r : Result (Unit {0}) PutRefused) → Puts values room item value r values' room' → item < length values → 0 < room → (r ≡ Ok tt) × (values' ≡ set values item value) × (room ≤ room' + 1)
  put_granted (Ok _) p inside free = (refl, p.2, p.3)
  put_granted (Err Outside) p inside free = absurd (omega (arith, p.0))
  put_granted (Err NoRoom) p inside free = absurd (omega (arith, p.1))

  -- to another item
  pub put_outside : (r : Result (Unit {0}) PutRefused) → Puts values room item value r values' room' → length values ≤ item → (r ≡ Err Outside) × (values' ≡ values) × (room' ≡ room)
  put_outside (Ok _) p outside = absurd (omega (arith, p.0))
  put_outside (Err Outside) p outside = (refl, p.1, p.2)
  put_outside (Err NoRoom) p outside = absurd (omega (arith, p.0))

  -- to an item of the store, without room
  pub put_no_room : (r : Result (Unit {0}) PutRefused) → Puts values room item value r values' room' → item < length values → room ≡ 0 → (r ≡ Err NoRoom) × (values' ≡ values) × (room' ≡ room)
  put_no_room (Ok _) p inside full = absurd (omega (arith, p.1))
  put_no_room (Err Outside) p inside full = absurd (omega (arith, p.0))
  put_no_room (Err NoRoom) p inside full = (refl, p.2, p.3)
