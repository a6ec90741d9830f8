-- Paths of a relation: put together, carried over to another relation, and shut in.
use Rattle.std.proofs.Common.{◌≡◌, ℕ, List, [], ◌∷◌, ◌++◌, refl}
use Rattle.graph.specs.Paths.{Relation, Path, edge, ◌then◌, Linked}

pub path_map : {E F : Relation} → ((i j : ℕ) → E i j → F i j) → {i j : ℕ} → Path E i j → Path F i j
path_map f (edge e) = edge (f _ _ e)
path_map f (e then p) = f _ _ e then path_map f p

pub linked_map : {E F : Relation} → ((i j : ℕ) → E i j → F i j) → (ns : List ℕ) → Linked E ns → Linked F ns
linked_map f [] l = tt
linked_map f (x ∷ []) l = tt
linked_map f (x ∷ y ∷ ns) l = (f x y l.0, linked_map f (y ∷ ns) l.1)

pub path_join : {E : Relation} {i j k : ℕ} → Path E i j → Path E j k → Path E i k
path_join (edge e) q = e then q
path_join (e then p) q = e then path_join p q

-- what is shut under the edges, and has no edge to the goal, has no path to it
pub no_way_out : {E : Relation} (P : ℕ → Type 0) (goal : ℕ)
    → ((i j : ℕ) → P i → E i j → P j × (j ≡ goal → ⊥)) → {i : ℕ} → P i → Path E i goal → ⊥
no_way_out P goal shut p (edge e) = (shut _ goal p e).1 refl
no_way_out P goal shut p (e then q) = no_way_out P goal shut (shut _ _ p e).0 q

-- the nodes of a path that is shown have a path
pub shown_path : {E : Relation} (n goal : ℕ) (ns : List ℕ) → Linked E (n ∷ ns ++ goal ∷ []) → Path E n goal
shown_path n goal [] l = edge l.0
shown_path n goal (x ∷ ns) l = l.0 then shown_path x goal ns l.1
