-- Records of 8 bytes, one after another from the front of a list of bytes. Bytes that do not fill a
-- last record belong to none. Rests on nothing.
use Rattle.std.specs.Prelude.{◌≡◌, ℕ, zero, suc, ◌+◌, ◌*◌, ◌/◌, ◌%◌, ◌<◌, ◌≤◌, cond, ◌⊎◌, List, [], ◌∷◌, ◌++◌, map, length, take, drop, ◌==◌, ◌≢◌, slice_index}
use Rattle.std.specs.List.{range_with_len}

-- how many whole records there are
abbrev pub whole : List ℕ → ℕ
whole bytes = length bytes / 8

-- byte k of record n
abbrev pub byte_of : List ℕ → ℕ → ℕ → ℕ
byte_of bytes n k = slice_index bytes (n * 8 + k)

-- byte 0 of record n, which is 0xA5 in a used record
abbrev pub mark_of : List ℕ → ℕ → ℕ
mark_of bytes n = slice_index bytes (n * 8)

-- the item that record n is of
abbrev pub item_of : List ℕ → ℕ → ℕ
item_of bytes n = byte_of bytes n 1

-- the value in record n, high byte first
abbrev pub value_of : List ℕ → ℕ → ℕ
value_of bytes n =
    byte_of bytes n 4 * 16777216 + byte_of bytes n 5 * 65536 + byte_of bytes n 6 * 256 + byte_of bytes n 7

-- the first n records, from the front: the list cut into its records, each the bytes of one, which are a
-- list of bytes with a record 0
abbrev pub records : List ℕ → ℕ → List (List ℕ)
records bytes zero = []
records bytes (suc n) = take 8 bytes ∷ records (drop 8 bytes) n

-- the number of the first record, from record n on, whose mark is not 0xA5, or n + k if
-- the k records there all have it
abbrev pub unmarked_from : List ℕ → ℕ → ℕ → ℕ
unmarked_from bytes n zero = n
unmarked_from bytes n (suc k) = cond (mark_of bytes n == 165) (unmarked_from bytes (n + 1) k) n

-- how many records are used in bytes that are found so: the marked ones at the front, as far as they go
-- without a gap
abbrev pub used_in : List ℕ → ℕ
used_in bytes = unmarked_from bytes 0 (whole bytes)

-- the rule that this count keeps: so many records from the front are marked, and the next one, if there
-- is one, is not
pub record UsedFront (bytes : List ℕ) (n : ℕ) : Type 0 where
  pub within : n ≤ whole bytes
  pub marks : (k : ℕ) → k < n → mark_of bytes k ≡ 165
  pub stops : n < whole bytes → mark_of bytes n ≢ 165

-- what an item holds by the first n records: the value in the last one of them that is of the item, or 0
abbrev pub held : List ℕ → ℕ → ℕ → ℕ
held bytes item zero = 0
held bytes item (suc n) = cond (item_of bytes n == item) (value_of bytes n) (held bytes item n)

-- record k is the last of the first n that is of the item
abbrev pub LastOf : List ℕ → ℕ → ℕ → ℕ → Type 0
LastOf bytes item n k = (k < n) × (item_of bytes k ≡ item) × ((j : ℕ) → k < j → j < n → item_of bytes j ≢ item)

-- the rule that this value keeps: it stands in the last of the first n records that is of the item, or is
-- 0 and no record is
abbrev pub Latest : List ℕ → ℕ → ℕ → ℕ → Type 0
Latest bytes item n value =
    ((k : ℕ) × LastOf bytes item n k × (value ≡ value_of bytes k))
    ⊎ (((k : ℕ) → k < n → item_of bytes k ≢ item) × (value ≡ 0))

-- what each item from 0 on holds by the first n records
abbrev pub contents : List ℕ → ℕ → ℕ → List ℕ
contents bytes items n = map (λ item. held bytes item n) (range_with_len 0 items)

-- the bytes of a used record
abbrev pub written : ℕ → ℕ → List ℕ
written item value =
    165 ∷ item ∷ 0 ∷ 0 ∷ (value / 16777216 % 256) ∷ (value / 65536 % 256) ∷ (value / 256 % 256) ∷ (value % 256) ∷ []

-- the bytes with record n replaced by a used one, and no other byte
abbrev pub with_record : List ℕ → ℕ → ℕ → ℕ → List ℕ
with_record bytes n item value = take (n * 8) bytes ++ (written item value ++ drop (n * 8 + 8) bytes)
