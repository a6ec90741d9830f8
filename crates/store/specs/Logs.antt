-- What a store in a log of records means. Rests on Records.
use Rattle.std.specs.Prelude.{◌≡◌, ℕ, ◌+◌, ◌-◌, ◌<◌, ◌≤◌, min, List, Ok, Err, Result}
use Rattle.store.specs.Records.{whole, contents, with_record}
use Rattle.store.specs.declared.log.LogStore.{LogStore}
use Rattle.store.specs.declared.store.PutRefused.{PutRefused}
use Rattle.store.specs.declared.store.PutRefused.TheVariants.{Outside, NoRoom}

-- how many of its records are used: as many as it has counted, and no more than there are
abbrev pub log_used : LogStore → ℕ
log_used log = min log.used (whole log.bytes.now)

-- the values of its items
abbrev pub log_values : LogStore → List ℕ
log_values log = contents log.bytes.now log.items (log_used log)

-- its room: the whole records that are not used
abbrev pub log_room : LogStore → ℕ
log_room log = whole log.bytes.now - log_used log

-- which of so many records a put to an item writes, by the answer: the first that is not used, or none
-- where the item is outside or every record is used
abbrev pub NextFree : ℕ → ℕ → ℕ → ℕ → Result ℕ PutRefused → Type 0
NextFree records items used item (Ok n) = (item < items) × (used < records) × (n ≡ used)
NextFree records items used item (Err Outside) = items ≤ item
NextFree records items used item (Err NoRoom) = (item < items) × (records ≤ used)

-- what a put does to the bytes, by its answer: granted, it writes one record behind the used ones, and no
-- other byte; refused, it changes nothing
abbrev pub Appends : LogStore → ℕ → ℕ → Result (Unit {0}) PutRefused → LogStore → Type 0
Appends log item value (Ok _) log' =
    (log'.bytes.now ≡ with_record log.bytes.now (log_used log) item value)
    × (log'.items ≡ log.items)
    × (log_used log' ≡ log_used log + 1)
Appends log item value (Err _) log' =
    (log'.bytes.now ≡ log.bytes.now) × (log'.items ≡ log.items) × (log_used log' ≡ log_used log)

-- what it becomes by a put: it stands in the same lent bytes, with one record more behind the used ones
abbrev pub log_becomes : LogStore → ℕ → ℕ → LogStore → Type 0
log_becomes log item value log' = Appends log item value (Ok tt) log' × (log'.bytes.ghost_name ≡ log.bytes.ghost_name)
