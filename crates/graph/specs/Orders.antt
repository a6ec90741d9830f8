-- Orders of the nodes of a set: each time the one with the smallest key among those that no node left leads into.
-- Rests on Paths, Edges and Nodes.
use Rattle.std.specs.Prelude.{◌≡◌, ℕ, ◌<◌, ◌≤◌, Bool, true, not, ◌&&◌, T, ◌⊎◌, List, [], ◌∷◌, Some, None, Option, ◌==◌, nat_lt, slice_index}
use Rattle.graph.specs.Edges.{Within}
use Rattle.graph.specs.Nodes.{has}
use Rattle.graph.specs.Paths.{Relation, Cycle, ◌∈◌, Distinct, Forward}

-- which nodes are meant, by a test
abbrev pub Test : Type 0
Test = ℕ → Bool

-- no node that is left has an edge into n
abbrev pub Free : Relation → Test → ℕ → Type 0
Free E left n = (m : ℕ) → T (left m) → E m n → ⊥

-- the key of a node; one that has none counts as 0
abbrev pub key_of : List ℕ → ℕ → ℕ
key_of keys n = slice_index keys n

-- n comes before m: its key is smaller, or their keys are the same and it is the smaller node
abbrev pub Before : List ℕ → ℕ → ℕ → Type 0
Before keys n m = (key_of keys n < key_of keys m) ⊎ ((key_of keys n ≡ key_of keys m) × (n ≤ m))

-- n is the first of the eligible nodes below the bound that no node left leads into
pub record First (E : Relation) (bound : ℕ) (keys : List ℕ) (left eligible : Test) (n : ℕ) : Type 0 where
  pub inside : n < bound
  pub among : T (eligible n)
  pub free : Free E left n
  pub first : (m : ℕ) → m < bound → T (eligible m) → Free E left m → Before keys n m

-- the first of them is answered, or there is none and none is answered
abbrev pub Picks : Relation → ℕ → List ℕ → Test → Test → Option ℕ → Type 0
Picks E bound keys left eligible None = (n : ℕ) → n < bound → T (eligible n) → Free E left n → ⊥
Picks E bound keys left eligible (Some n) = First E bound keys left eligible n

-- the nodes that are left, without n
abbrev pub but : Test → ℕ → Test
but left n m = left m && not (m == n)

-- the list has the first free node of those left, then the first free one of the rest, and so on until none is free
abbrev pub Ordered : Relation → ℕ → List ℕ → Test → List ℕ → Type 0
Ordered E size keys left [] = Picks E size keys left left None
Ordered E size keys left (n ∷ ns) = First E size keys left left n × Ordered E size keys (but left n) ns

-- an edge between two nodes of the set that the list has not
abbrev pub AmongRest : Relation → ℕ → List ℕ → Relation
AmongRest E set ns i j = (i ∈ ns → ⊥) × (j ∈ ns → ⊥) × Within set E i j

-- the order of a set: which nodes it has, that no edge leads back in it, and that it stops short exactly when the
-- nodes of the set that it has not have a cycle
pub record Orders (E : Relation) (size : ℕ) (keys : List ℕ) (set : ℕ) (ns : List ℕ) : Type 0 where
  pub each : Ordered E size keys (has set) ns
  pub distinct : Distinct ns
  pub only : (n : ℕ) → n ∈ ns → (n < size) × T (has set n)
  pub forward : Forward E ns
  pub whole : ((n : ℕ) → n < size → T (has set n) → n ∈ ns) → Cycle (Within set E) → ⊥
  pub short : (n : ℕ) → n < size → T (has set n) → (n ∈ ns → ⊥) → Cycle (AmongRest E set ns)

-- the node goes before the best one so far
abbrev pub goes_first : List ℕ → ℕ → Option ℕ → Bool
goes_first keys n None = true
goes_first keys n (Some m) = nat_lt (key_of keys n) (key_of keys m)
