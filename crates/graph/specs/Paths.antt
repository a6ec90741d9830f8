-- Paths and cycles of a relation between numbered nodes, and lists of nodes. Rests on nothing.
use Rattle.std.specs.Prelude.{◌≡◌, ℕ, ◌⊎◌, List, [], ◌∷◌, ◌++◌}

-- a relation between nodes: an edge leads from the first to the second
abbrev pub Relation : Type 1
Relation = ℕ → ℕ → Type 0

-- a path of one edge or more leads from i to j
pub data Path (E : Relation) : ℕ → ℕ → Type 0 where
  edge : {i j : ℕ} → E i j → Path E i j
  ◌then◌ : {i j k : ℕ} → E i j → Path E j k → Path E i k

-- some node has a path back to itself
abbrev pub Cycle : Relation → Type 0
Cycle E = (i : ℕ) × Path E i i

-- a stands in the list
abbrev pub ◌∈◌ : ℕ → List ℕ → Type 0
a ∈ [] = ⊥
a ∈ (x ∷ xs) = (a ≡ x) ⊎ (a ∈ xs)

infix 40 ◌∈◌
infixr 30 ◌then◌
-- no number stands twice in the list
abbrev pub Distinct : List ℕ → Type 0
Distinct [] = Unit {0}
Distinct (x ∷ xs) = (x ∈ xs → ⊥) × Distinct xs

-- each node of the list has an edge to the next one
abbrev pub Linked : Relation → List ℕ → Type 0
Linked E [] = Unit {0}
Linked E (x ∷ []) = Unit {0}
Linked E (x ∷ y ∷ ns) = E x y × Linked E (y ∷ ns)

-- no edge leads from a later node of the list to an earlier one
abbrev pub Forward : Relation → List ℕ → Type 0
Forward E [] = Unit {0}
Forward E (x ∷ xs) = ((y : ℕ) → y ∈ xs → E y x → ⊥) × Forward E xs

-- the nodes of a path from start to goal, without the goal at its end: no node stands twice, but that the
-- goal may be the start
abbrev pub ShowsPath : Relation → ℕ → ℕ → List ℕ → Type 0
ShowsPath E start goal [] = ⊥
ShowsPath E start goal (n ∷ ns) =
    (n ≡ start) × Linked E (n ∷ ns ++ goal ∷ []) × Distinct (n ∷ ns) × (goal ∈ ns → ⊥)

-- the nodes of a cycle: no node stands twice, each has an edge to the next one and the last to the first
abbrev pub ShowsCycle : Relation → List ℕ → Type 0
ShowsCycle E [] = ⊥
ShowsCycle E (n ∷ ns) = Linked E (n ∷ ns ++ n ∷ []) × Distinct (n ∷ ns)
