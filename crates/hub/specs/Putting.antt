-- What each act does to the store: a commit puts what a job held, or leaves it alone, and no other act touches
-- it. Rests on the machine.
use Rattle.std.specs.Prelude.{◌≡◌, ℕ, List, [], ◌∷◌, map, Ok, Err, Option, Result}
use Rattle.trace.specs.declared.act.Act.{Act}
use Rattle.trace.specs.declared.act.Act.TheVariants.{Open, Read, Write, Commit, Abort, Peek, Retire}
use Rattle.history.specs.declared.holding.Holding.{Holding}
use Rattle.history.specs.Machine.{State, held_value, holdings}

-- where a call was refused, the store is the one that it was before
abbrev pub LeavesIfRefused : {A E S : Type 0} → Result A E → S → S → Type 0
LeavesIfRefused (Ok _) before after = Unit {0}
LeavesIfRefused (Err _) before after = after ≡ before

-- the one store becomes the other by these puts of a value to an item, one after another; what a single
-- put makes of a store is the store's own
abbrev pub PutInTurn : {S : Type 0} → (S → ℕ → ℕ → S → Type 0) → S → List (ℕ × ℕ) → S → Type 0
PutInTurn becomes store [] store' = store' ≡ store
PutInTurn {S} becomes store (put ∷ puts) store' =
    (next : S) × becomes store put.0 put.1 next × PutInTurn becomes next puts store'

-- items with the values that are held there
abbrev pub with_values : (ℕ → Option Holding) → List ℕ → List (ℕ × ℕ)
with_values held items = map (λ x. (x, held_value (held x) 0)) items

-- what job j holds in the state s: each item with its value, rising by item
abbrev pub held_pairs : State → ℕ → List (ℕ × ℕ)
held_pairs s j = with_values s.held (holdings s j)

-- where a commit of job j in the state s was granted, the store became the other one by putting what the
-- job held, smaller items first, and by nothing else
abbrev pub PutsIfGranted : {A E S : Type 0} → (S → ℕ → ℕ → S → Type 0) → State → ℕ → Result A E → S → S → Type 0
PutsIfGranted becomes s j (Ok _) before after = PutInTurn becomes before (held_pairs s j) after
PutsIfGranted becomes s j (Err _) before after = Unit {0}

-- what the call of an act, made in the state s, does to the store: a commit puts what the job held where it
-- is granted, and no other call touches it
abbrev pub PutsFor : {A E S : Type 0} → (S → ℕ → ℕ → S → Type 0) → State → Act → Result A E → S → S → Type 0
PutsFor becomes s (Open j) r before after = after ≡ before
PutsFor becomes s (Read j x v) r before after = after ≡ before
PutsFor becomes s (Write j x v) r before after = after ≡ before
PutsFor becomes s (Commit j) r before after = LeavesIfRefused r before after × PutsIfGranted becomes s j r before after
PutsFor becomes s (Abort j) r before after = after ≡ before
PutsFor becomes s (Peek x v) r before after = after ≡ before
PutsFor becomes s Retire r before after = after ≡ before
