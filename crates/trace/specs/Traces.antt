-- Whole traces: what reading one comes to, and what writing acts out comes to. Rests on Lines.
use Rattle.std.specs.Prelude.{ℕ, ◌+◌, ◌-◌, cond, List, [], ◌∷◌, ◌++◌, length, take, drop, Some, None, Ok, Err, Option, Result, ◌==◌, nat_le}
use Rattle.trace.specs.declared.act.Act.{Act}
use Rattle.trace.specs.declared.act.Step.{Step}
use Rattle.trace.specs.declared.fault.LineCause.{LineCause}
use Rattle.trace.specs.declared.fault.LineCause.TheVariants.{Unended}
use Rattle.trace.specs.declared.fault.LinePlace.{LinePlace}
use Rattle.trace.specs.declared.fault.LineFault.{LineFault}
use Rattle.trace.specs.declared.fault.ReadRefusal.{ReadRefusal}
use Rattle.trace.specs.declared.fault.ReadRefusal.TheVariants.{Line, Full}
use Rattle.trace.specs.Lines.{line_end, act_on, line_of, Sayable}
use Rattle.trace.specs.Pieces.{parted, before}

-- what is wrong with a line, and where it stands
abbrev pub in_place : LinePlace → Result Act LineCause → Result Act LineFault
in_place place (Ok a) = Ok a
in_place place (Err what) = Err (record { place = place; what = what })

-- an act with the length of its line, line end and all
abbrev pub with_length : ℕ → Result Act LineFault → Result (Act × ℕ) LineFault
with_length n (Ok a) = Ok (a, n)
with_length n (Err fault) = Err fault

-- the place of the first line end, if there is one
abbrev pub end_of : List ℕ → Option ℕ
end_of bytes =
    cond (length (before line_end bytes) == length bytes) None (Some (length (before line_end bytes)))

-- the line up to its end
abbrev pub line_to : LinePlace → List ℕ → Option ℕ → Result (Act × ℕ) LineFault
line_to place bytes None = Err (record { place = place; what = Unended })
line_to place bytes (Some n) = with_length (n + 1) (in_place place (act_on (take n bytes)))

-- the first line of some bytes
abbrev pub first_line : LinePlace → List ℕ → Result (Act × ℕ) LineFault
first_line place bytes = line_to place bytes (end_of bytes)

-- the acts of the lines that were read, and why reading ended before the trace did, if it did
pub record Reading : Type 0 where
  pub acts : List Act
  pub stop : Option ReadRefusal

-- nothing more is read
abbrev pub ends : Option ReadRefusal → Reading
ends why = record { acts = []; stop = why }

-- an act read before the others
abbrev pub also : Act → Reading → Reading
also a later = record { acts = a ∷ later.acts; stop = later.stop }

-- line n, whose first byte has this place
abbrev pub place_of : ℕ → ℕ → LinePlace
place_of n start = record { line = n; start = start }

-- the refusal of a line at fault
abbrev pub at_fault : LinePlace → LineCause → ReadRefusal
at_fault place what = Line (record { place = place; what = what })

-- what stands behind the last line end has to be nothing
abbrev pub last : LinePlace → List ℕ → Reading
last place [] = ends None
last place (b ∷ bs) = ends (Some (at_fault place Unended))

-- a line at fault ends the reading, and so does a good one with no room for its step
abbrev pub line_read : ℕ → LinePlace → Result Act LineCause → Reading → Reading
line_read room place (Err what) later = ends (Some (at_fault place what))
line_read room place (Ok a) later = cond (room == 0) (ends (Some (Full place.line))) (also a later)

-- the reading of lines from line n on, with room for so many steps
abbrev pub reading : ℕ → ℕ → ℕ → List (List ℕ) → Reading
reading room n start [] = ends None
reading room n start (rest ∷ []) = last (place_of n start) rest
reading room n start (line ∷ next ∷ lines) =
    line_read room (place_of n start) (act_on line) (reading (room - 1) (n + 1) (start + (length line + 1)) (next ∷ lines))

-- the reading of a whole trace
abbrev pub reading_of : List ℕ → ℕ → Reading
reading_of bytes room = reading room 1 0 (parted line_end bytes)

-- the longest input that is read
abbrev pub longest_input : ℕ
longest_input = 32768

-- the reading of a whole input: one that is too long counts as a list that is full before any line
abbrev pub reading_of_input : List ℕ → ℕ → Reading
reading_of_input bytes room = cond (nat_le (length bytes) longest_input) (reading_of bytes room) (ends (Some (Full 0)))

-- acts as steps, each with its line
abbrev pub numbered : ℕ → List Act → List Step
numbered n [] = []
numbered n (a ∷ acts) = record { line = n; act = a } ∷ numbered (n + 1) acts

-- what is answered: how many steps, or the refusal
abbrev pub answered : ℕ → Option ReadRefusal → Result ℕ ReadRefusal
answered count None = Ok count
answered count (Some why) = Err why

-- what a reading answers
abbrev pub answer : Reading → Result ℕ ReadRefusal
answer r = answered (length r.acts) r.stop

-- what the lent list holds: the steps read, then what it held before
abbrev pub list_after : List Step → Reading → List Step
list_after list r = numbered 1 r.acts ++ drop (length r.acts) list

-- acts written out, line after line
abbrev pub written : List Act → List ℕ
written [] = []
written (a ∷ acts) = line_of a ++ written acts

-- acts that lines can say
abbrev pub AllSayable : List Act → Type 0
AllSayable [] = Unit {0}
AllSayable (a ∷ acts) = Sayable a × AllSayable acts
