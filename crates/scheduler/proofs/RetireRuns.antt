-- One job after another retires. Assumes nothing.
use Rattle.std.proofs.Common.{◌≡◌, ℕ, zero, suc, ◌+◌, ◌-◌, ◌<◌, ◌≤◌, List, [], ◌∷◌, ◌++◌, length, take, drop, set, sym, refl, ap, ◌∙◌, append_assoc, append-nil, arith}
use Rattle.std.proofs.lemmas.List.{take_more_set, drop-set-lt, length-set, length-take-le, take-append-drop, drop-drop}
use Rattle.history.specs.Machine.{State, retirable, retiring, removed, all_removed, retire, wrote, refusal, granted_answer, granted_state, put_count, Steps, Retires}
use Rattle.scheduler.specs.declared.tables.Tables.{Tables}
use Rattle.scheduler.specs.Reading.{state}
use Rattle.scheduler.proofs.States.{steps_granted}

retiring_none : (n : ℕ) (s : State) → retirable s ≡ [] → retiring n s ≡ []
unfolding retiring
retiring_none zero s e = refl
retiring_none (suc n) s e = ap (λ (l : List ℕ). elim l [ [] ↦ [] | j ∷ js ↦ j ∷ retiring n (removed j s) ]) e

retiring_zero : (s : State) → retiring 0 s ≡ []
unfolding retiring
retiring_zero s = refl

retiring_more : (n j : ℕ) (js : List ℕ) (s : State) → retirable s ≡ j ∷ js → retiring (suc n) s ≡ j ∷ retiring n (removed j s)
unfolding retiring
retiring_more n j js s e = ap (λ (l : List ℕ). elim l [ [] ↦ [] | j ∷ js ↦ j ∷ retiring n (removed j s) ]) e

all_removed_more : (j : ℕ) (js : List ℕ) (s : State) → all_removed (j ∷ js) s ≡ all_removed js (removed j s)
unfolding all_removed
all_removed_more j js s = refl

all_removed_none : (s : State) → all_removed [] s ≡ s
unfolding all_removed
all_removed_none s = refl

-- so many jobs have retired since the tables were t₀ and the list was as it was lent
pub record Retired (t₀ : Tables) (lent : List ℕ) (count : ℕ) (t : Tables) (list : List ℕ) : Type 0 where
  pub long : length list ≡ length lent
  pub within : count ≤ length lent
  pub rest : drop count list ≡ drop count lent
  pub written : (values : List ℕ) (room : ℕ) → retiring (length lent) (state t₀ values room) ≡ take count list ++ retiring (length lent - count) (state t values room)
  pub left : (values : List ℕ) (room : ℕ) → all_removed (retiring (length lent) (state t₀ values room)) (state t₀ values room) ≡ all_removed (retiring (length lent - count) (state t values room)) (state t values room)

pub none_retired : (t : Tables) (lent : List ℕ) → Retired t lent 0 t lent
none_retired t lent = record {
  long = refl;
  within = omega arith;
  rest = refl;
  written = λ values room. ap (λ n. retiring n (state t values room)) (whole (length lent));
  left = λ values room. ap (λ n. all_removed (retiring n (state t values room)) (state t values room)) (whole (length lent));
}
  where
    whole : (n : ℕ) → n ≡ n - 0
    whole n = omega arith

module _ (t₀ : Tables) (lent : List ℕ) (count : ℕ) (t : Tables) (list : List ℕ) (so_far : Retired t₀ lent count t list) where
  module _ (j : ℕ) (t' : Tables) (below : count < length lent) (next : (values : List ℕ) (room : ℕ) → (js : List ℕ) × (retirable (state t values room) ≡ j ∷ js)) (out : (values : List ℕ) (room : ℕ) → state t' values room ≡ removed j (state t values room)) where
    -- what is still to retire begins with job j
    one_of_rest : (values : List ℕ) (room : ℕ) → retiring (length lent - count) (state t values room) ≡ j ∷ retiring (length lent - (count + 1)) (state t' values room)
    one_of_rest values room =
        let n : length lent - count ≡ suc (length lent - (count + 1)) = omega arith in
        ap (λ m. retiring m (state t values room)) n
        ∙ retiring_more _ j (next values room).0 (state t values room) (next values room).1
        ∙ ap (λ s. j ∷ retiring (length lent - (count + 1)) s) (sym (out values room))

    pub one_retired : Retired t₀ lent (count + 1) t' (set list count j)
    one_retired = record {
      long = length-set list count j ∙ so_far.long;
      within = omega arith;
      rest =
          drop-set-lt (count + 1) list count j (omega arith)
          ∙ sym (drop-drop 1 count list) ∙ ap (drop 1) so_far.rest ∙ drop-drop 1 count lent;
      written = λ values room.
          so_far.written values room ∙ ap (λ l. take count list ++ l) (one_of_rest values room)
          ∙ sym (append_assoc (take count list) (j ∷ []) (retiring (length lent - (count + 1)) (state t' values room)))
          ∙ sym (ap (λ l. l ++ retiring (length lent - (count + 1)) (state t' values room)) (take_more_set list count j (omega (arith, so_far.long))));
      left = λ values room.
          so_far.left values room
          ∙ ap (λ l. all_removed l (state t values room)) (one_of_rest values room)
          ∙ all_removed_more j (retiring (length lent - (count + 1)) (state t' values room)) (state t values room)
          ∙ ap (all_removed (retiring (length lent - (count + 1)) (state t' values room))) (sym (out values room));
    }

  -- nothing more retires
  module _ (over : (values : List ℕ) (room : ℕ) → retiring (length lent - count) (state t values room) ≡ []) (values : List ℕ) (room : ℕ) where
    all_written : retiring (length lent) (state t₀ values room) ≡ take count list
    all_written = so_far.written values room ∙ ap (λ l. take count list ++ l) (over values room) ∙ append-nil (take count list)

    count_is : length (take count list) ≡ count
    count_is = length-take-le count list (omega (arith, so_far.long, so_far.within))

    over_steps : Steps (state t₀ values room) (retire (length lent)) (wrote (take count list)) (state t values room)
    unfolding refusal granted_answer granted_state put_count state
    over_steps =
        steps_granted (state t₀ values room) (retire (length lent)) (state t values room) (wrote (take count list)) refl
        (ap wrote (sym all_written))
        (sym (so_far.left values room ∙ ap (λ l. all_removed l (state t values room)) (over values room) ∙ all_removed_none (state t values room)))
        (λ _. refl) (omega arith)

    pub retired_all : Retires (state t₀ values room) lent count (state t values room) list
    retired_all = (
      take count list,
      over_steps,
      sym count_is,
      sym (take-append-drop count list) ∙ ap (λ l. take count list ++ l) (so_far.rest ∙ ap (λ n. drop n lent) (sym count_is)),
    )

  pub retired_full : length lent ≤ count → (values : List ℕ) (room : ℕ) → Retires (state t₀ values room) lent count (state t values room) list
  retired_full full = retired_all (λ values room. let none : length lent - count ≡ 0 = omega arith in ap (λ n. retiring n (state t values room)) none ∙ retiring_zero (state t values room))

  pub retired_rest : ((values : List ℕ) (room : ℕ) → retirable (state t values room) ≡ []) → (values : List ℕ) (room : ℕ) → Retires (state t₀ values room) lent count (state t values room) list
  retired_rest none = retired_all (λ values room. retiring_none _ (state t values room) (none values room))
