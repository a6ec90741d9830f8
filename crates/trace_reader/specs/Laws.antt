-- Laws of reading whole traces. Rests on the specs of traces.
use Rattle.std.specs.Prelude.{◌≡◌, ℕ, ◌+◌, ◌<◌, ◌≤◌, List, [], ◌∷◌, ◌++◌, length, take, drop, Ok, Err, Result}
use Rattle.trace.specs.declared.act.Act.{Act}
use Rattle.trace.specs.declared.act.Step.{Step}
use Rattle.trace.specs.declared.fault.ReadRefusal.{ReadRefusal}
use Rattle.trace.specs.declared.fault.ReadRefusal.TheVariants.{Line, Full}
use Rattle.trace.specs.Traces.{first_line, place_of, numbered, written, AllSayable}

-- the acts of steps
abbrev pub acts_of : List Step → List Act
acts_of [] = []
acts_of (s ∷ steps) = s.act ∷ acts_of steps

-- why a reading ended before the rest: nothing is left; or all of the room is taken and the rest begins
-- with a good line; or the rest begins with a line that is at fault
abbrev pub Why : List ℕ → ℕ → ℕ → ℕ → Result ℕ ReadRefusal → Type 0
Why rest room count start (Ok n) = (n ≡ count) × (rest ≡ [])
Why rest room count start (Err (Full n)) = (count ≡ room) × (n ≡ count + 1) × ((good : Act × ℕ) × (first_line (place_of n start) rest ≡ Ok good))
Why rest room count start (Err (Line fault)) = (0 < length rest) × (first_line (place_of (count + 1) start) rest ≡ Err fault)

-- the bytes are some acts, written out, and a rest; the list holds those acts as steps and then what it
-- held before; and the first line of the rest says why the reading ended there
pub record FirstBadLineDecides (bytes : List ℕ) (entry exit : List Step) (r : Result ℕ ReadRefusal) : Type 0 where
  pub acts : List Act
  pub rest : List ℕ
  pub split : bytes ≡ written acts ++ rest
  pub listed : exit ≡ numbered 1 acts ++ drop (length acts) entry
  pub room : length acts ≤ length entry
  pub why : Why rest (length entry) (length acts) (length (written acts)) r

-- acts that were written out are read back as they were, each with its line, where there is room
abbrev pub ReadsWhatWasWritten : List ℕ → List Step → List Step → Result ℕ ReadRefusal → Type 0
ReadsWhatWasWritten bytes entry exit r =
    (acts : List Act) → AllSayable acts → length acts ≤ length entry → bytes ≡ written acts → (r ≡ Ok (length acts)) × (exit ≡ numbered 1 acts ++ drop (length acts) entry)

-- a trace that is read is, written out again, the same bytes
abbrev pub WritesBack : List ℕ → List Step → Result ℕ ReadRefusal → Type 0
WritesBack bytes exit r = (n : ℕ) → r ≡ Ok n → written (acts_of (take n exit)) ≡ bytes
