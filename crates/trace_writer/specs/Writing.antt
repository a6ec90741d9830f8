-- What writing acts comes to: what is answered, and what the lent bytes hold. Rests on Lines.
use Rattle.std.specs.Prelude.{◌≡◌, ℕ, ◌+◌, ◌-◌, ◌≤◌, cond, List, [], ◌∷◌, ◌++◌, length, take, drop, Some, None, Ok, Err, Option, Result, nat_le}
use Rattle.trace.specs.declared.act.Act.{Act}
use Rattle.trace.specs.declared.fault.Column.TheVariants.{Item}
use Rattle.trace.specs.declared.fault.WriteRefusal.{WriteRefusal}
use Rattle.trace.specs.declared.fault.WriteRefusal.TheVariants.{ItemAboveLimit, DoesNotFit}
use Rattle.trace.specs.Limits.{limit}
use Rattle.trace.specs.Lines.{item_of, line_of}
use Rattle.trace.specs.Traces.{reading_of}

-- bytes with others put over them from a place on
abbrev pub over : ℕ → List ℕ → List ℕ → List ℕ
over place line out = take place out ++ (line ++ drop (place + length line) out)

-- an item that no line may name is refused
abbrev pub item_checked : {X : Type 0} → Option ℕ → Result X WriteRefusal → Result X WriteRefusal
item_checked None then = then
item_checked (Some x) then = cond (nat_le x (limit Item)) then (Err (ItemAboveLimit x))

-- a line is refused where it is longer than the room
abbrev pub fitted : ℕ → ℕ → Result ℕ WriteRefusal
fitted room n = cond (nat_le n room) (Ok n) (Err (DoesNotFit n))

-- what writing an act answers, with room for so many bytes: the length of its line, or the refusal
abbrev pub writing : Act → ℕ → Result ℕ WriteRefusal
writing a room = item_checked (item_of a) (fitted room (length (line_of a)))

-- a length added to what the lines behind it come to
abbrev pub plus : ℕ → Result ℕ WriteRefusal → Result ℕ WriteRefusal
plus n (Ok m) = Ok (n + m)
plus n (Err why) = Err why

-- a line that is granted goes on with the others
abbrev pub writing_on : Result ℕ WriteRefusal → (ℕ → Result ℕ WriteRefusal) → Result ℕ WriteRefusal
writing_on (Ok n) others = plus n (others n)
writing_on (Err why) others = Err why

-- what writing acts one behind the other answers: the length of all their lines, or the first refusal
abbrev pub writing_all : List Act → ℕ → Result ℕ WriteRefusal
writing_all [] room = Ok 0
writing_all (a ∷ acts) room = writing_on (writing a room) λ n. writing_all acts (room - n)

-- what the bytes hold after it: the lines at the front, or what they held before
abbrev pub laid : Result ℕ WriteRefusal → List ℕ → List ℕ → List ℕ
laid (Ok n) lines out = lines ++ drop (length lines) out
laid (Err why) lines out = out

-- lines that were written are read back as their acts, where there is room for the steps
abbrev pub TraceReadsBack : List Act → List ℕ → Result ℕ WriteRefusal → Type 0
TraceReadsBack acts out r =
    (n : ℕ) → r ≡ Ok n → (room : ℕ) → length acts ≤ room → reading_of (take n out) room ≡ record { acts = acts; stop = None }

-- the same of one line
abbrev pub LineReadsBack : Act → List ℕ → Result ℕ WriteRefusal → Type 0
LineReadsBack a out r = TraceReadsBack (a ∷ []) out r
