-- A run of calls, made one after another.
use Rattle.std.proofs.Common.{◌≡◌, ℕ, List, [], ◌∷◌, ◌++◌, refl, ap, ◌∙◌, subst}
use Rattle.std.proofs.lemmas.List.{append_assoc}
use Rattle.history.specs.Machine.{State, Call, Answer, answer, after_call, Steps}
use Rattle.history.specs.Runs.{Turn, Runs}
use Rattle.history.specs.Acting.{run_from}
use Rattle.history.proofs.Joining.{runs_more}

-- so far this run, made by calls of the list, has led from the state s to the state h, and the calls in rest
-- are left
pub record Going (room : ℕ) (s : State) (all : List Call) (made : List Turn) (h : State) (rest : List Call) : Type 0 where
  pub runs : Runs s made h
  pub left : made ++ run_from room h rest ≡ run_from room s all

pub going_begin : (room : ℕ) (s : State) (all : List Call) → Going room s all [] s all
going_begin room s all = record { runs = refl; left = refl }

module _ {room : ℕ} {s : State} {all : List Call} {made : List Turn} {h : State} where
  -- one call more
  pub going_turn : (c : Call) (rest : List Call) (a : Answer) (t : State) → t.room ≡ room → Steps h c a t
      → Going room s all made h (c ∷ rest) → Going room s all (made ++ record { call = c; answer = answer h c } ∷ []) t rest
  going_turn c rest a t e q go =
      let u : Turn = record { call = c; answer = answer h c } in
      let next : t ≡ after_call h c room = q.becomes ∙ ap (after_call h c) e in
      record {
        runs = runs_more made s h t u go.runs (subst (λ (z : Answer). Steps h c z t) q.answers q);
        left =
            append_assoc made (u ∷ []) (run_from room t rest)
            ∙ ap (λ (z : State). made ++ (u ∷ run_from room z rest)) next
            ∙ go.left;
      }
