use Rattle.std.proofs.Common.{ℕ, zero, suc, List, Option, Some, None, MatchOption, ◌==◌, ◌≡◌, length, get_or, take, drop, refl, ap, ◌∙◌, rules, sym}
use borrow.Author.Tests.{tests}
use Rattle.std.specs.Option.{option_map, option_map_or}
use Rattle.std.proofs.lemmas.Iterator.Adapters.{YieldsList-from_rev_slice}
use Rattle.std.specs.Slice.Iter.{iter_rest}
use Rattle.std.proofs.lemmas.Iterator.Search.{find_from_yields_List}
use Rattle.store.specs.Records.{records, value_of}
use Rattle.store.proofs.Records.{first_records, last_record}
use Rattle.store.proofs.log_bytes.last_value.Goals as goal

length_records : (bytes : List ℕ) (n : ℕ) → length (records bytes n) ≡ n
length_records bytes zero = refl
length_records bytes (suc n) = ap (λ k. suc k) (length_records (drop 8 bytes) n)

read_found : {T : Type 0} (now : T → List ℕ) (r : Option T) (found : Option (List ℕ)) (value : ℕ) → option_map now r ≡ found → MatchOption r (value ≡ 0) (λ x. value ≡ value_of (now x) 0) → value ≡ option_map_or (λ r. value_of r 0) found 0
read_found now None found value e is = rw (← e) is
read_found now (Some x) found value e is = rw (← e) is

pub slice_bounds-iter-end : goal.slice_bounds-iter-end
slice_bounds-iter-end c = rw (c.records.ensures, first_records _ _ _ c.requires) (sym (length_records _ _))

pub returns : goal.returns
returns c =
    let item = c.args.item in
    let found = find_from_yields_List (λ r. get_or r 1 0 == item) _ _ c.find.result c.find.ensures.ran (YieldsList-from_rev_slice (records c.args.bytes.now c.args.used) (ap (λ s. iter_rest s) c.rev.ensures.source ∙ c.iter.ensures.rest ∙ ap (λ rs. take c.args.used rs) c.records.ensures ∙ first_records _ _ _ c.requires)) (λ x b q k. search (rules, tests)) in
    read_found _ _ _ _ found (search rules) ∙ sym (last_record c.args.bytes.now c.args.item c.args.used)
