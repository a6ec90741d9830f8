-- A header and lines, as one text. Rests on nothing.
use Rattle.std.specs.Prelude.{◌≡◌, ℕ, List, [], ◌∷◌, ◌++◌, Some, Option}

-- what is written of every value is known
abbrev pub Shown : {T : Type 0} → (T → Option (List ℕ)) → (T → List ℕ) → Type 0
Shown {T = T} shown show = (x : T) → shown x ≡ Some (show x)

-- a line with its end
abbrev pub ended : List ℕ → List ℕ
ended line = line ++ 10 ∷ []

-- the lines, each with its end
abbrev pub lines_text : {T : Type 0} → (T → List ℕ) → List T → List ℕ
lines_text show [] = []
lines_text show (x ∷ xs) = ended (show x) ++ lines_text show xs

-- the header, and below it the lines
abbrev pub sheet_text : {T : Type 0} → (T → List ℕ) → List ℕ → List T → List ℕ
sheet_text show header lines = ended header ++ lines_text show lines
