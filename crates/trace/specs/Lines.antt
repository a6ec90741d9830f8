-- One line of a trace: the act that its fields say, and the fields that say an act. Rests on Pieces,
-- Kinds and Numbers.
use Rattle.std.specs.Prelude.{ℕ, ◌≤◌, List, [], ◌∷◌, ◌++◌, Some, None, Ok, Err, decimal, Option, Result}
use Rattle.trace.specs.declared.act.Act.{Act}
use Rattle.trace.specs.declared.act.Act.TheVariants as act
use Rattle.trace.specs.declared.kind.Kind.{Kind}
use Rattle.trace.specs.declared.kind.Kind.TheVariants.{Open, Read, Write, Commit, Abort, Peek, Retire}
use Rattle.trace.specs.declared.fault.NumberFault.{NumberFault}
use Rattle.trace.specs.declared.fault.Column.{Column}
use Rattle.trace.specs.declared.fault.Column.TheVariants.{Job, Item, Value}
use Rattle.trace.specs.declared.fault.FieldFault.{FieldFault}
use Rattle.trace.specs.declared.fault.FieldFault.TheVariants.{NoKind, Number, Empty, Filled}
use Rattle.trace.specs.declared.fault.LineCause.{LineCause}
use Rattle.trace.specs.declared.fault.LineCause.TheVariants.{FewFields, ManyFields, Field}
use Rattle.trace.specs.Kinds.{kind_of, letter}
use Rattle.trace.specs.Limits.{limit}
use Rattle.trace.specs.Numbers.{number_of}
use Rattle.trace.specs.Pieces.{parted}

-- the byte that ends a line
abbrev pub line_end : ℕ
line_end = 10

-- the byte that parts the fields of a line
abbrev pub comma : ℕ
comma = 44

-- a result carried on where it is good
abbrev pub and_then : {X Y F : Type 0} → Result X F → (X → Result Y F) → Result Y F
and_then (Ok x) f = f x
and_then (Err e) f = Err e

-- the fault of a number, in its field
abbrev pub in_field : Column → Result ℕ NumberFault → Result ℕ FieldFault
in_field column (Ok n) = Ok n
in_field column (Err fault) = Err (Number column fault)

-- the number of a field that has to be filled
abbrev pub filled : Column → List ℕ → Result ℕ FieldFault
filled column [] = Err (Empty column)
filled column (b ∷ bs) = in_field column (number_of (limit column) (b ∷ bs))

-- a field that has to be empty
abbrev pub vacant : Column → List ℕ → Result (Unit {0}) FieldFault
vacant column [] = Ok tt
vacant column (b ∷ bs) = Err (Filled column)

-- the job alone is filled
abbrev pub job_alone : List ℕ → List ℕ → List ℕ → Result ℕ FieldFault
job_alone job item value =
    and_then (filled Job job) λ j. and_then (vacant Item item) λ _. and_then (vacant Value value) λ _. Ok j

-- all three are filled
abbrev pub all_three : List ℕ → List ℕ → List ℕ → Result (ℕ × ℕ × ℕ) FieldFault
all_three job item value =
    and_then (filled Job job) λ j. and_then (filled Item item) λ x. and_then (filled Value value) λ v. Ok (j, x, v)

-- all but the job are filled
abbrev pub all_but_job : List ℕ → List ℕ → List ℕ → Result (ℕ × ℕ) FieldFault
all_but_job job item value =
    and_then (vacant Job job) λ _. and_then (filled Item item) λ x. and_then (filled Value value) λ v. Ok (x, v)

-- none is filled
abbrev pub none_filled : List ℕ → List ℕ → List ℕ → Result (Unit {0}) FieldFault
none_filled job item value =
    and_then (vacant Job job) λ _. and_then (vacant Item item) λ _. vacant Value value

-- the act of a kind, by the fields that it fills
abbrev pub act_of : Kind → List ℕ → List ℕ → List ℕ → Result Act FieldFault
act_of Open job item value = and_then (job_alone job item value) λ j. Ok (act.Open j)
act_of Read job item value = and_then (all_three job item value) λ t. Ok (act.Read t.0 t.1 t.2)
act_of Write job item value = and_then (all_three job item value) λ t. Ok (act.Write t.0 t.1 t.2)
act_of Commit job item value = and_then (job_alone job item value) λ j. Ok (act.Commit j)
act_of Abort job item value = and_then (job_alone job item value) λ j. Ok (act.Abort j)
act_of Peek job item value = and_then (all_but_job job item value) λ t. Ok (act.Peek t.0 t.1)
act_of Retire job item value = and_then (none_filled job item value) λ _. Ok act.Retire

-- the kind that the first field names by a lone letter
abbrev pub kind_in : List ℕ → Option Kind
kind_in [] = None
kind_in (c ∷ []) = kind_of c
kind_in (c ∷ d ∷ cs) = None

-- the act that four fields say
abbrev pub act_as : Option Kind → List ℕ → List ℕ → List ℕ → Result Act FieldFault
act_as None job item value = Err NoKind
act_as (Some kind) job item value = act_of kind job item value

-- the fault of a field, in its line
abbrev pub in_line : Result Act FieldFault → Result Act LineCause
in_line (Ok a) = Ok a
in_line (Err fault) = Err (Field fault)

-- the act that the fields of a line say
abbrev pub act_in : List (List ℕ) → Result Act LineCause
act_in [] = Err FewFields
act_in (kind ∷ []) = Err FewFields
act_in (kind ∷ job ∷ []) = Err FewFields
act_in (kind ∷ job ∷ item ∷ []) = Err FewFields
act_in (kind ∷ job ∷ item ∷ value ∷ []) = in_line (act_as (kind_in kind) job item value)
act_in (kind ∷ job ∷ item ∷ value ∷ more ∷ fields) = Err ManyFields

-- the act that a line says, its line end taken off
abbrev pub act_on : List ℕ → Result Act LineCause
act_on line = act_in (parted comma line)

-- the job that an act names
abbrev pub job_of : Act → Option ℕ
job_of (act.Open j) = Some j
job_of (act.Read j x v) = Some j
job_of (act.Write j x v) = Some j
job_of (act.Commit j) = Some j
job_of (act.Abort j) = Some j
job_of (act.Peek x v) = None
job_of act.Retire = None

-- the item that an act names
abbrev pub item_of : Act → Option ℕ
item_of (act.Open j) = None
item_of (act.Read j x v) = Some x
item_of (act.Write j x v) = Some x
item_of (act.Commit j) = None
item_of (act.Abort j) = None
item_of (act.Peek x v) = Some x
item_of act.Retire = None

-- the value that an act carries
abbrev pub value_of : Act → Option ℕ
value_of (act.Open j) = None
value_of (act.Read j x v) = Some v
value_of (act.Write j x v) = Some v
value_of (act.Commit j) = None
value_of (act.Abort j) = None
value_of (act.Peek x v) = Some v
value_of act.Retire = None

-- the kind of an act
abbrev pub kind_of_act : Act → Kind
kind_of_act (act.Open j) = Open
kind_of_act (act.Read j x v) = Read
kind_of_act (act.Write j x v) = Write
kind_of_act (act.Commit j) = Commit
kind_of_act (act.Abort j) = Abort
kind_of_act (act.Peek x v) = Peek
kind_of_act act.Retire = Retire

-- a field: the digits of its number, or nothing
abbrev pub field_text : Option ℕ → List ℕ
field_text None = []
field_text (Some n) = decimal n

-- the line of an act, with its line end
abbrev pub line_of : Act → List ℕ
line_of a =
    letter (kind_of_act a) ∷ comma ∷ (field_text (job_of a) ++ comma ∷ (field_text (item_of a) ++ comma ∷ (field_text (value_of a) ++ line_end ∷ [])))

-- a number that may stand in a field, where there is one
abbrev pub Within : Column → Option ℕ → Type 0
Within column None = Unit {0}
Within column (Some n) = n ≤ limit column

-- an act that a line can say
abbrev pub Sayable : Act → Type 0
Sayable a = Within Job (job_of a) × Within Item (item_of a) × Within Value (value_of a)
