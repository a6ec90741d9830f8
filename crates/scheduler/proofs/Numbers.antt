-- The numbers in the slots, copied slot by slot. Assumes nothing.
use Rattle.std.proofs.Common.{◌≡◌, ℕ, ◌+◌, ◌<◌, ◌≤◌, List, [], ◌∷◌, ◌++◌, map, length, get_or, take, set, sym, ap, ◌∙◌, arith}
use Rattle.std.proofs.lemmas.List.{take_more_set, map_more, take_all, length-set}
use Rattle.scheduler.specs.declared.slots.Slot.{Slot}

-- the numbers of the slots below n
pub record Copied (slots : List Slot) (n : ℕ) (numbers : List ℕ) : Type 0 where
  pub long : length numbers ≡ 32
  pub front : take n numbers ≡ map (λ (s : Slot). s.job) (take n slots)

pub copied_more : (slots : List Slot) (n : ℕ) (numbers : List ℕ) (d : Slot) → Copied slots n numbers → n < 32 → length slots ≡ 32 → Copied slots (n + 1) (set numbers n (get_or slots n d).job)
copied_more slots n numbers d c low long = record {
  long = length-set numbers n (get_or slots n d).job ∙ c.long;
  front =
      take_more_set numbers n (get_or slots n d).job (omega (arith, c.long))
      ∙ ap (λ l. l ++ (get_or slots n d).job ∷ []) c.front
      ∙ sym (map_more (λ (s : Slot). s.job) slots n d (omega arith));
}

pub copied_all : (slots : List Slot) (n : ℕ) (numbers : List ℕ) → Copied slots n numbers → 32 ≤ n → length slots ≡ 32 → numbers ≡ map (λ (s : Slot). s.job) slots
copied_all slots n numbers c h long =
    sym (take_all n numbers (omega (arith, c.long))) ∙ c.front ∙ ap (map (λ (s : Slot). s.job)) (take_all n slots (omega arith))
