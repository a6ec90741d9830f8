-- The nodes of a set that the front of a list has not.
use Rattle.std.proofs.Common.{◌≡◌, ℕ, ◌+◌, ◌<◌, true, false, not, ◌&&◌, eqb, ◌⊎◌, List, [], ◌∷◌, ◌++◌, length, get_or, take, sym, ◌∙◌, inl, inr, ⊎_elim}
use Rattle.std.proofs.lemmas.List.{take_more}
use Rattle.std.proofs.lemmas.Bool.{both_ways, cases_Bool, cases_eq, and_parts, and_from, not_from_false, not_from_true, eq-eqb, ne_eqb}
use Rattle.graph.specs.Nodes.{has}
use Rattle.graph.specs.Paths.{◌∈◌}
use Rattle.graph.proofs.Lists.{in_left, in_right, in_push}

-- those missing are the nodes of the set that do not stand in the list
pub record Missing (set : ℕ) (ns : List ℕ) (missing : ℕ) : Type 0 where
  pub rest : (n : ℕ) → has set n ≡ true → (has missing n ≡ true) ⊎ (n ∈ ns)
  pub only : (n : ℕ) → has missing n ≡ true → (has set n ≡ true) × (n ∈ ns → ⊥)

pub missing_more : (set : ℕ) (xs : List ℕ) (at m next : ℕ) → at < length xs → Missing set (take at xs) m
    → ((k : ℕ) → has next k ≡ (has m k && not (eqb k (get_or xs at 0)))) → Missing set (take (at + 1) xs) next
missing_more set xs at m next l h e =
    let x = get_or xs at 0 in
    let one : take (at + 1) xs ≡ take at xs ++ x ∷ [] = take_more xs at 0 l in
    rw one (record {
      rest = λ n i. elim (cases_eq n x) [
        | inl p ↦ inr (in_right n (take at xs) (x ∷ []) (inl p))
        | inr d ↦ ⊎_elim (λ t. inl (e n ∙ and_from _ _ t (not_from_false _ (ne_eqb n x d)))) (λ t. inr (in_left n (take at xs) (x ∷ []) t)) (h.rest n i)
      ];
      only = λ n i.
          let p = and_parts (has m n) (not (eqb n x)) (sym (e n) ∙ i) in
          ((h.only n p.0).0, λ t. ⊎_elim (h.only n p.0).1 (λ q. both_ways _ (not_from_true _ (eq-eqb n x q)) p.1) (in_push n (take at xs) x t));
    })

-- where none is missing the list has them all
pub missing_none : (set : ℕ) (ns : List ℕ) (m : ℕ) → Missing set ns m → ((k : ℕ) → has m k ≡ false) → (n : ℕ) → has set n ≡ true → n ∈ ns
missing_none set ns m h none n i = ⊎_elim (λ t. absurd (both_ways _ (none n) t)) (λ t. t) (h.rest n i)

-- and where it has them all none is missing
pub all_there : (set : ℕ) (ns : List ℕ) (m : ℕ) → Missing set ns m → ((n : ℕ) → has set n ≡ true → n ∈ ns) → (k : ℕ) → has m k ≡ false
all_there set ns m h all k = elim (cases_Bool (has m k)) [
  | inl t ↦ absurd (let p = h.only k t in p.1 (all k p.0))
  | inr u ↦ u
]
