-- Bytes parted by a separator: lines by the line end, fields by the comma. Rests on nothing.
use Rattle.std.specs.Prelude.{ℕ, ◌+◌, cond, List, [], ◌∷◌, length, drop, ◌==◌}

-- what stands before the first separator, or everything where there is none
abbrev pub before : ℕ → List ℕ → List ℕ
before sep [] = []
before sep (b ∷ bs) = cond (b == sep) [] (b ∷ before sep bs)

-- what stands behind the first separator, or nothing where there is none
abbrev pub behind : ℕ → List ℕ → List ℕ
behind sep bs = drop (length (before sep bs) + 1) bs

-- a byte put in front of the first piece
abbrev pub onto : ℕ → List (List ℕ) → List (List ℕ)
onto b [] = (b ∷ []) ∷ []
onto b (p ∷ ps) = (b ∷ p) ∷ ps

-- the pieces that the separators part, one more than there are separators
abbrev pub parted : ℕ → List ℕ → List (List ℕ)
parted sep [] = [] ∷ []
parted sep (b ∷ bs) = cond (b == sep) ([] ∷ parted sep bs) (onto b (parted sep bs))
