-- A line that is read is the line that is written, and the other way round. Rests on the laws of
-- pieces and of digits.
use Rattle.std.proofs.Common.{◌≡◌, ℕ, ◌^◌, ◌<◌, ◌≤◌, true, false, cond, not, ◌&&◌, eqb, ltb, leb, List, [], ◌∷◌, ◌++◌, length, get_or, Some, None, Ok, Err, decimal, Option, Result, sym, refl, ap, ◌∙◌, subst, inl, inr, arith}
use Rattle.std.specs.Str.Parse.{AllDigits, digits_value as value}
use Rattle.std.specs.Str.{all_ascii_digits}
use Rattle.std.proofs.lemmas.List.{append_assoc}
use Rattle.std.proofs.lemmas.Fmt.{decimal_is_IsNumeral, decimal_nonempty, decimal_digit, first_decimal, digits_decimal, digits_value-decimal, decimal-digits_value}
use Rattle.std.proofs.lemmas.Str.Parse.{IsNumeralModel, numerals_by_value, tells_all_ascii_digits, digit_from_value}
use Rattle.std.proofs.lemmas.Bool.{cases_Bool, cases_eq, and_parts, and_from, not-true, and_left, and_right, not_from_false, ne_eqb, lt-ltb, le-ltb, le-leb, leb-true, ltb-true, eqb-true, ltb-false, eqb-false, and_cases}
use Rattle.trace.specs.declared.act.Act.{Act}
use Rattle.trace.specs.declared.act.Act.TheVariants as act
use Rattle.trace.specs.declared.kind.Kind.{Kind}
use Rattle.trace.specs.declared.kind.Kind.TheVariants.{Open, Read, Write, Commit, Abort, Peek, Retire}
use Rattle.trace.specs.declared.fault.Column.{Column}
use Rattle.trace.specs.declared.fault.Column.TheVariants.{Job, Item, Value}
use Rattle.trace.specs.declared.fault.NumberFault.{NumberFault}
use Rattle.trace.specs.declared.fault.NumberFault.TheVariants.{AboveLimit, NotANumber}
use Rattle.trace.specs.declared.fault.FieldFault.{FieldFault}
use Rattle.trace.specs.Kinds.{kind_of, letter}
use Rattle.trace.specs.Limits.{limit}
use Rattle.trace.specs.Lines.{and_then, in_field, filled, vacant, job_alone, all_three, all_but_job, none_filled, act_of, act_as, act_in, act_on, in_line, kind_in, job_of, item_of, value_of, kind_of_act, field_text, line_of, Sayable, Within}
use Rattle.trace.specs.Numbers.{number_of, is_number, leading_zero}
use Rattle.trace.specs.Pieces.{parted}
use Rattle.trace.proofs.Parting.{Free, free_append, parted_at, parted_none, rejoined, rejoin}

pub apart' : {X Y : Type 0} (x : X) (y : Y) → Err y ≡ Ok x → ⊥
apart' x y e = cc

pub same_ok : {X F : Type 0} (x y : X) → ◌≡◌ {A = Result X F} (Ok x) (Ok y) → x ≡ y
same_ok x y e = cc

-- numbers

-- the library's laws of digits, for the words that the specs use
pub own : IsNumeralModel (λ ds. all_ascii_digits ds ≡ true) (value 10)
own = numerals_by_value _ tells_all_ascii_digits

abbrev taken : ℕ → List ℕ → Result ℕ NumberFault
taken most ds = cond (leb (value 10 ds) most) (Ok (value 10 ds)) (Err AboveLimit)

-- a first digit 0 stands alone
lone_zero : (ds : List ℕ) → not (leading_zero ds) ≡ true → 0 < length ds → get_or ds 0 0 ≡ 48 → length ds ≡ 1
lone_zero ds h some zero =
    elim (and_cases (eqb (get_or ds 0 0) 48) (ltb 1 (length ds)) (not-true (leading_zero ds) h)) [
      | inl e ↦ absurd (eqb-false (get_or ds 0 0) 48 e zero)
      | inr e ↦ omega (arith, ltb-false 1 (length ds) e)
    ]

value_said : (most : ℕ) (ds : List ℕ) (n : ℕ) → most < 2 ^ 32 → is_number ds ≡ true → leb (value 10 ds) most ≡ true → value 10 ds ≡ n → (decimal n ≡ ds) × (n ≤ most)
value_said most ds n small e l v =
    let p = and_parts (ltb 0 (length ds) && all_ascii_digits ds) (not (leading_zero ds)) e in
    let q = and_parts (ltb 0 (length ds)) (all_ascii_digits ds) p.0 in
    let some = ltb-true 0 (length ds) q.0 in
    let below = leb-true (value 10 ds) most l in
    (ap decimal (sym v) ∙ decimal-digits_value own ds q.1 some (lone_zero ds p.1 some) (omega arith), omega arith)

-- digits that are read as a number are the digits that are written for it
number_said : (most : ℕ) (ds : List ℕ) (n : ℕ) → most < 2 ^ 32 → number_of most ds ≡ Ok n → (decimal n ≡ ds) × (n ≤ most)
number_said most ds n small h =
    elim (cases_Bool (is_number ds)) [
      | inr e ↦ absurd (apart' _ _ (sym (ap (λ b. cond b (taken most ds) (Err NotANumber)) e) ∙ h))
      | inl e ↦
          let g : taken most ds ≡ Ok n = sym (ap (λ b. cond b (taken most ds) (Err NotANumber)) e) ∙ h in
          elim (cases_Bool (leb (value 10 ds) most)) [
            | inr l ↦ absurd (apart' _ _ (sym (ap (λ b. cond b (Ok (value 10 ds)) (Err AboveLimit)) l) ∙ g))
            | inl l ↦ value_said most ds n small e l (same_ok _ _ (sym (ap (λ b. cond b (Ok (value 10 ds)) (Err AboveLimit)) l) ∙ g))
          ]
    ]

not_leading : (n : ℕ) → n < 2 ^ 64 → leading_zero (decimal n) ≡ false
not_leading n small =
    elim (cases_eq n 0) [
      | inl e ↦ and_right (eqb (get_or (decimal n) 0 0) 48) (ltb 1 (length (decimal n))) (le-ltb 1 (length (decimal n)) (omega (arith, ap length (decimal_digit n (omega arith)))))
      | inr e ↦ and_left (eqb (get_or (decimal n) 0 0) 48) (ltb 1 (length (decimal n))) (ne_eqb (get_or (decimal n) 0 0) 48 (λ q. omega (arith, first_decimal n (omega arith) small)))
    ]

-- and the other way round
number_written : (most n : ℕ) → most < 2 ^ 32 → n ≤ most → number_of most (decimal n) ≡ Ok n
number_written most n small h =
    let fits : n < 2 ^ 64 = omega arith in
    let some = lt-ltb 0 (length (decimal n)) (decimal_nonempty n fits) in
    let all = digits_decimal own n fits in
    let is : is_number (decimal n) ≡ true = and_from (ltb 0 (length (decimal n)) && all_ascii_digits (decimal n)) (not (leading_zero (decimal n))) (and_from _ _ some all) (not_from_false (leading_zero (decimal n)) (not_leading n fits)) in
    let v : value 10 (decimal n) ≡ n = digits_value-decimal own n fits in
    let below : leb (value 10 (decimal n)) most ≡ true = le-leb _ _ (omega arith) in
    ap (λ b. cond b (taken most (decimal n)) (Err NotANumber)) is ∙ ap (λ b. cond b (Ok (value 10 (decimal n))) (Err AboveLimit)) below ∙ ap Ok v

-- fields

limit_small : (column : Column) → limit column < 2 ^ 32
limit_small Job = omega arith
limit_small Item = omega arith
limit_small Value = omega arith

filled_said : (column : Column) (bs : List ℕ) (n : ℕ) → filled column bs ≡ Ok n → (decimal n ≡ bs) × (n ≤ limit column)
filled_said column [] n h = absurd (apart' _ _ h)
filled_said column (b ∷ bs) n h = go (number_of (limit column) (b ∷ bs)) refl
  where
    go : (r : Result ℕ NumberFault) → number_of (limit column) (b ∷ bs) ≡ r → (decimal n ≡ b ∷ bs) × (n ≤ limit column)
    go (Ok m) e = number_said (limit column) (b ∷ bs) n (limit_small column) (e ∙ ap Ok (same (sym (ap (in_field column) e) ∙ h)))
      where
        same : ◌≡◌ {A = Result ℕ FieldFault} (Ok m) (Ok n) → m ≡ n
        same q = cc
    go (Err f) e = absurd (apart' _ _ (sym (ap (in_field column) e) ∙ h))

filled_some : (column : Column) (bs : List ℕ) → 0 < length bs → filled column bs ≡ in_field column (number_of (limit column) bs)
filled_some column [] h = absurd (omega arith)
filled_some column (b ∷ bs) h = refl

filled_written : (column : Column) (n : ℕ) → n ≤ limit column → filled column (decimal n) ≡ Ok n
filled_written column n h =
    let l = limit_small column in
    filled_some column (decimal n) (decimal_nonempty n (omega arith)) ∙ ap (in_field column) (number_written (limit column) n l h)

vacant_said : (column : Column) (bs : List ℕ) (u : Unit {0}) → vacant column bs ≡ Ok u → [] ≡ bs
vacant_said column [] u h = refl
vacant_said column (b ∷ bs) u h = absurd (apart' _ _ h)

-- a good result that was carried on
carried : {X Y F : Type 0} (r : Result X F) (f : X → Result Y F) (y : Y) → and_then r f ≡ Ok y → (x : X) × (r ≡ Ok x) × (f x ≡ Ok y)
carried (Ok x) f y h = (x, refl, h)
carried (Err e) f y h = absurd (apart' _ _ h)

-- what the four shapes of a line say

job_alone_said : (job item value : List ℕ) (n : ℕ) → job_alone job item value ≡ Ok n → (decimal n ≡ job) × ([] ≡ item) × ([] ≡ value)
job_alone_said job item value n h =
    let a = carried (filled Job job) _ n h in
    let b = carried (vacant Item item) _ n a.2 in
    let c = carried (vacant Value value) _ n b.2 in
    (ap decimal (sym (same_ok _ _ c.2)) ∙ (filled_said Job job _ a.1).0, vacant_said Item item _ b.1, vacant_said Value value _ c.1)

all_three_said : (job item value : List ℕ) (t : ℕ × ℕ × ℕ) → all_three job item value ≡ Ok t → (decimal t.0 ≡ job) × (decimal t.1 ≡ item) × (decimal t.2 ≡ value)
all_three_said job item value t h =
    let a = carried (filled Job job) _ t h in
    let b = carried (filled Item item) _ t a.2 in
    let c = carried (filled Value value) _ t b.2 in
    let e = sym (same_ok _ _ c.2) in
    (ap (λ t. decimal t.0) e ∙ (filled_said Job job _ a.1).0, ap (λ t. decimal t.1) e ∙ (filled_said Item item _ b.1).0, ap (λ t. decimal t.2) e ∙ (filled_said Value value _ c.1).0)

all_but_job_said : (job item value : List ℕ) (t : ℕ × ℕ) → all_but_job job item value ≡ Ok t → ([] ≡ job) × (decimal t.0 ≡ item) × (decimal t.1 ≡ value)
all_but_job_said job item value t h =
    let a = carried (vacant Job job) _ t h in
    let b = carried (filled Item item) _ t a.2 in
    let c = carried (filled Value value) _ t b.2 in
    let e = sym (same_ok _ _ c.2) in
    (vacant_said Job job _ a.1, ap (λ t. decimal t.0) e ∙ (filled_said Item item _ b.1).0, ap (λ t. decimal t.1) e ∙ (filled_said Value value _ c.1).0)

none_filled_said : (job item value : List ℕ) (u : Unit {0}) → none_filled job item value ≡ Ok u → ([] ≡ job) × ([] ≡ item) × ([] ≡ value)
none_filled_said job item value u h =
    let a = carried (vacant Job job) _ u h in
    let b = carried (vacant Item item) _ u a.2 in
    (vacant_said Job job _ a.1, vacant_said Item item _ b.1, vacant_said Value value u b.2)

-- the fields are those that are written for the act
abbrev Said : Kind → List ℕ → List ℕ → List ℕ → Act → Type 0
Said kind job item value a = (kind_of_act a ≡ kind) × (field_text (job_of a) ≡ job) × (field_text (item_of a) ≡ item) × (field_text (value_of a) ≡ value)

said_by : {X : Type 0} (kind : Kind) (job item value : List ℕ) (a : Act) (r : Result X FieldFault) (make : X → Act) → and_then r (λ x. Ok (make x)) ≡ Ok a → ((x : X) → r ≡ Ok x → Said kind job item value (make x)) → Said kind job item value a
said_by kind job item value a r make h f =
    let c = carried r (λ x. Ok (make x)) a h in
    subst (Said kind job item value) (same_ok _ _ c.2) (f c.0 c.1)

said : (kind : Kind) (job item value : List ℕ) (a : Act) → act_of kind job item value ≡ Ok a → Said kind job item value a
said Open job item value a h = said_by Open job item value a _ (λ j. act.Open j) h (λ j e. let p = job_alone_said job item value j e in (refl, p.0, p.1, p.2))
said Commit job item value a h = said_by Commit job item value a _ (λ j. act.Commit j) h (λ j e. let p = job_alone_said job item value j e in (refl, p.0, p.1, p.2))
said Abort job item value a h = said_by Abort job item value a _ (λ j. act.Abort j) h (λ j e. let p = job_alone_said job item value j e in (refl, p.0, p.1, p.2))
said Read job item value a h = said_by Read job item value a _ (λ t. act.Read t.0 t.1 t.2) h (λ t e. let p = all_three_said job item value t e in (refl, p.0, p.1, p.2))
said Write job item value a h = said_by Write job item value a _ (λ t. act.Write t.0 t.1 t.2) h (λ t e. let p = all_three_said job item value t e in (refl, p.0, p.1, p.2))
said Peek job item value a h = said_by Peek job item value a _ (λ t. act.Peek t.0 t.1) h (λ t e. let p = all_but_job_said job item value t e in (refl, p.0, p.1, p.2))
said Retire job item value a h = said_by Retire job item value a _ (λ _. act.Retire) h (λ u e. let p = none_filled_said job item value u e in (refl, p.0, p.1, p.2))

-- kinds

no_kind : (c : ℕ) (k : Kind) → None ≡ Some k → letter k ≡ c
no_kind c k e = let z : ◌≡◌ {A = ℕ} 0 1 = cc in absurd (omega arith)

some_same : (k l : Kind) → Some k ≡ Some l → k ≡ l
some_same k l e = cc

-- one case of the letters
one_of : (c : ℕ) (k tried : Kind) (others : Option Kind) → (others ≡ Some k → letter k ≡ c) → cond (eqb c (letter tried)) (Some tried) others ≡ Some k → letter k ≡ c
one_of c k tried others f h =
    elim (cases_Bool (eqb c (letter tried))) [
      | inl e ↦ ap letter (sym (some_same tried k (sym (ap (λ b. cond b (Some tried) others) e) ∙ h))) ∙ sym (eqb-true c (letter tried) e)
      | inr e ↦ f (sym (ap (λ b. cond b (Some tried) others) e) ∙ h)
    ]

letter_said : (c : ℕ) (k : Kind) → kind_of c ≡ Some k → letter k ≡ c
letter_said c k =
    one_of c k Open _ (one_of c k Read _ (one_of c k Write _ (one_of c k Commit _ (one_of c k Abort _ (one_of c k Peek _ (one_of c k Retire _ (no_kind c k)))))))

kind_written : (k : Kind) → kind_of (letter k) ≡ Some k
kind_written Open = refl
kind_written Read = refl
kind_written Write = refl
kind_written Commit = refl
kind_written Abort = refl
kind_written Peek = refl
kind_written Retire = refl

-- lines

in_line_said : (r : Result Act FieldFault) (a : Act) → in_line r ≡ Ok a → r ≡ Ok a
in_line_said (Ok b) a h = ap Ok (same_ok _ _ h)
in_line_said (Err f) a h = absurd (apart' _ _ h)

four_said : (k job item value : List ℕ) (a : Act) → act_as (kind_in k) job item value ≡ Ok a → (kind : Kind) × (letter kind ∷ [] ≡ k) × Said kind job item value a
four_said [] job item value a h = absurd (apart' _ _ h)
four_said (c ∷ d ∷ k) job item value a h = absurd (apart' _ _ h)
four_said (c ∷ []) job item value a h = go (kind_of c) refl
  where
    go : (o : Option Kind) → kind_of c ≡ o → (kind : Kind) × (letter kind ∷ [] ≡ c ∷ []) × Said kind job item value a
    go None e = absurd (apart' _ _ (sym (ap (λ o. act_as o job item value) e) ∙ h))
    go (Some kind) e = (kind, ap (λ c. c ∷ []) (letter_said c kind e), said kind job item value a (sym (ap (λ o. act_as o job item value) e) ∙ h))

-- a line, by its letter and fields
abbrev pub lined : ℕ → List ℕ → List ℕ → List ℕ → List ℕ
lined b j x v = b ∷ 44 ∷ (j ++ 44 ∷ (x ++ 44 ∷ (v ++ 10 ∷ [])))

ended : (b : ℕ) (job item value : List ℕ) → (b ∷ 44 ∷ (job ++ 44 ∷ (item ++ 44 ∷ value))) ++ 10 ∷ [] ≡ lined b job item value
ended b job item value = simp append_assoc

fields_said : (ps : List (List ℕ)) (a : Act) → act_in ps ≡ Ok a → rejoined 44 ps ++ 10 ∷ [] ≡ line_of a
fields_said [] a h = absurd (apart' _ _ h)
fields_said (k ∷ []) a h = absurd (apart' _ _ h)
fields_said (k ∷ j ∷ []) a h = absurd (apart' _ _ h)
fields_said (k ∷ j ∷ x ∷ []) a h = absurd (apart' _ _ h)
fields_said (k ∷ j ∷ x ∷ v ∷ []) a h =
    let f = four_said k j x v a (in_line_said _ a h) in
    let s = f.2 in
    ap (λ k. (k ++ 44 ∷ (j ++ 44 ∷ (x ++ 44 ∷ v))) ++ 10 ∷ []) (sym f.1) ∙ ended (letter f.0) j x v ∙ sym (λ i. lined (letter (s.0 i)) (s.1 i) (s.2 i) (s.3 i))
fields_said (k ∷ j ∷ x ∷ v ∷ w ∷ ps) a h = absurd (apart' _ _ h)

-- a line that says an act is the line that is written for it
pub line_said : (line : List ℕ) (a : Act) → act_on line ≡ Ok a → line ++ 10 ∷ [] ≡ line_of a
line_said line a h = ap (λ l. l ++ 10 ∷ []) (sym (rejoin 44 line)) ∙ fields_said (parted 44 line) a h

-- bytes that are no digits stand in no field

free_digits : (sep : ℕ) (ds : List ℕ) → sep < 48 → AllDigits 10 ds → Free sep ds
free_digits sep [] low d = tt
free_digits sep (c ∷ ds) low d = (λ e. omega (arith, digit_from_value c d.0), free_digits sep ds low d.1)

free_text : (sep : ℕ) (column : Column) (o : Option ℕ) → sep < 48 → Within column o → Free sep (field_text o)
free_text sep column None low h = tt
free_text sep column (Some n) low h =
    let l = limit_small column in
    free_digits sep (decimal n) low (decimal_is_IsNumeral n (omega arith)).0.1

letter_high : (k : Kind) → 48 ≤ letter k
letter_high Open = omega arith
letter_high Read = omega arith
letter_high Write = omega arith
letter_high Commit = omega arith
letter_high Abort = omega arith
letter_high Peek = omega arith
letter_high Retire = omega arith

free_letter : (sep : ℕ) (k : Kind) → sep < 48 → Free sep (letter k ∷ [])
free_letter sep k low = (λ e. omega (arith, letter_high k), tt)

-- the line of an act without its line end
abbrev pub body : Act → List ℕ
body a = letter (kind_of_act a) ∷ 44 ∷ (field_text (job_of a) ++ 44 ∷ (field_text (item_of a) ++ 44 ∷ field_text (value_of a)))

pub body_ended : (a : Act) → body a ++ 10 ∷ [] ≡ line_of a
body_ended a = ended (letter (kind_of_act a)) (field_text (job_of a)) (field_text (item_of a)) (field_text (value_of a))

pub free_body : (a : Act) → Sayable a → Free 10 (body a)
free_body a h =
    let low : 10 < 48 = omega arith in
    ((free_letter 10 (kind_of_act a) low).0, (λ e. omega arith, free_append 10 (field_text (job_of a)) (44 ∷ (field_text (item_of a) ++ 44 ∷ field_text (value_of a))) (free_text 10 Job (job_of a) low h.0) (λ e. omega arith, free_append 10 (field_text (item_of a)) (44 ∷ field_text (value_of a)) (free_text 10 Item (item_of a) low h.1) (λ e. omega arith, free_text 10 Value (value_of a) low h.2))))

fields_written : (a : Act) → Sayable a → parted 44 (body a) ≡ (letter (kind_of_act a) ∷ []) ∷ field_text (job_of a) ∷ field_text (item_of a) ∷ field_text (value_of a) ∷ []
fields_written a h =
    let low : 44 < 48 = omega arith in
    parted_at 44 (letter (kind_of_act a) ∷ []) (field_text (job_of a) ++ 44 ∷ (field_text (item_of a) ++ 44 ∷ field_text (value_of a))) (free_letter 44 (kind_of_act a) low)
    ∙ ap (λ ps. (letter (kind_of_act a) ∷ []) ∷ ps) (parted_at 44 (field_text (job_of a)) (field_text (item_of a) ++ 44 ∷ field_text (value_of a)) (free_text 44 Job (job_of a) low h.0)
    ∙ ap (λ ps. field_text (job_of a) ∷ ps) (parted_at 44 (field_text (item_of a)) (field_text (value_of a)) (free_text 44 Item (item_of a) low h.1)
    ∙ ap (λ ps. field_text (item_of a) ∷ ps) (parted_none 44 (field_text (value_of a)) (free_text 44 Value (value_of a) low h.2))))

act_written : (a : Act) → Sayable a → act_of (kind_of_act a) (field_text (job_of a)) (field_text (item_of a)) (field_text (value_of a)) ≡ Ok a
act_written (act.Open j) h = rw (filled_written Job j h.0) refl
act_written (act.Commit j) h = rw (filled_written Job j h.0) refl
act_written (act.Abort j) h = rw (filled_written Job j h.0) refl
act_written (act.Read j x v) h = rw (filled_written Job j h.0, filled_written Item x h.1, filled_written Value v h.2) refl
act_written (act.Write j x v) h = rw (filled_written Job j h.0, filled_written Item x h.1, filled_written Value v h.2) refl
act_written (act.Peek x v) h = rw (filled_written Item x h.1, filled_written Value v h.2) refl
act_written act.Retire h = refl

-- the line that is written for an act says it
pub line_written : (a : Act) → Sayable a → act_on (body a) ≡ Ok a
line_written a h =
    ap act_in (fields_written a h)
    ∙ ap (λ o. in_line (act_as o (field_text (job_of a)) (field_text (item_of a)) (field_text (value_of a)))) (kind_written (kind_of_act a))
    ∙ ap in_line (act_written a h)
