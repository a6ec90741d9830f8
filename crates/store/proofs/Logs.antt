-- What a put makes of a log.
use Rattle.std.proofs.Common.{◌≡◌, ℕ, ◌+◌, ◌-◌, ◌/◌, ◌^◌, ◌<◌, min, List, set, Ok, Err, refl, ap, ◌∙◌, arith}
use Rattle.store.specs.Stores.{Puts}
use Rattle.store.specs.Records.{whole, contents, with_record}
use Rattle.store.specs.Logs.{NextFree}
use Rattle.store.specs.declared.store.PutRefused.{PutRefused}
use Rattle.store.specs.declared.store.PutRefused.TheVariants.{Outside, NoRoom}
use Rattle.store.proofs.Records.{length_with_record, contents_appended, length_contents}

-- where there is no record to write, the put is refused
pub puts_refused : (bytes : List ℕ) (items used item value : ℕ) (e : PutRefused) → NextFree (whole bytes) items used item (Err e) → let values = contents bytes items (min used (whole bytes)) in let room = whole bytes - min used (whole bytes) in Puts values room item value (Err e) values room
puts_refused bytes items used item value Outside l = (rw length_contents l, refl, refl)
puts_refused bytes items used item value NoRoom (l, full) = (rw length_contents l, omega arith, refl, refl)

module _
    (before after : List ℕ) (items used n item value : ℕ) (next : NextFree (whole before) items used item (Ok n))
    (appended : after ≡ with_record before n item value)
  where
    same_whole : whole after ≡ whole before
    same_whole =
        ap (λ bytes. whole bytes) appended ∙ ap (λ l. l / 8) (length_with_record before n item value (omega arith))

    pub clipped : n ≡ min used (whole before)
    clipped = omega arith

    -- the record behind the used ones is written
    pub appended_last : after ≡ with_record before (min used (whole before)) item value
    appended_last = appended ∙ ap (λ k. with_record before k item value) clipped

    -- one more record is used
    pub one_more : min (n + 1) (whole after) ≡ min used (whole before) + 1
    one_more = omega (arith, same_whole)

    -- the item's value is replaced, and one of the room is taken
    pub puts_appended : value < 2 ^ 32 → Puts (contents before items (min used (whole before))) (whole before - min used (whole before)) item value (Ok tt) (contents after items (min (n + 1) (whole after))) (whole after - min (n + 1) (whole after))
    puts_appended v =
        let next_used : min (n + 1) (whole after) ≡ n + 1 = omega (arith, same_whole) in
        let replaced = contents_appended before items n item value (omega arith) v next.0 in (
          rw length_contents next.0,
          omega arith,
          ap (contents after items) next_used ∙ ap (λ bytes. contents bytes items (n + 1)) appended ∙ replaced ∙ ap (λ k. set (contents before items k) item value) clipped,
          omega (arith, same_whole),
        )
