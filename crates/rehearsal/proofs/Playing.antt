-- Steps played one after another.
use Rattle.std.proofs.Common.{◌≡◌, ℕ, ◌+◌, ◌<◌, List, [], ◌∷◌, ◌++◌, length, get_or, drop, refl, ap, ◌∙◌, subst, arith}
use Rattle.std.proofs.lemmas.List.{append_assoc, drop_more}
use Rattle.trace.specs.declared.act.Act.TheVariants.{Open}
use Rattle.trace.specs.declared.act.Step.{Step}
use Rattle.history.specs.Machine.{State, made, Call, Answer, answer, after_call}
use Rattle.history.specs.Runs.{Turn}
use Rattle.history.specs.Acting.{call_of, run_from}
use Rattle.history.specs.Promises.{EveryRunFrom}
use Rattle.history.proofs.Acting.{Going, going_turn}
use Rattle.hub.specs.InMemory.{plenty, start}
use Rattle.lines.specs.declared.line.Line.{Line}
use Rattle.rehearsal.specs.Playing.{calls_of, answer_lines, lines_of, called, run_of, Answered, Played, RehearsedOn}

pub called_run : (s : State) (cs : List Call) → called (run_from plenty s cs) ≡ cs
called_run s [] = refl
called_run s (c ∷ cs) = ap (λ (z : List Call). c ∷ z) (called_run (after_call s c plenty) cs)

-- so far, the hub has come to the state h, the steps in rest are left, and the lines are these
pub record Telling (s : State) (steps : List Step) (before : List Line) (h : State) (rest : List Step) (lines : List Line) : Type 0 where
  pub made : List Turn
  pub going : Going plenty s (calls_of steps) made h (calls_of rest)
  pub told : lines ++ lines_of rest (run_from plenty h (calls_of rest)) ≡ before ++ lines_of steps (run_from plenty s (calls_of steps))

module _ (s : State) (steps : List Step) (before : List Line) (h : State) where
  telling_turn : (t : State) (step : Step) (rest : List Step) (lines lines' : List Line)
      → t.room ≡ plenty → Answered h step lines t lines'
      → Telling s steps before h (step ∷ rest) lines → Telling s steps before t rest lines'
  telling_turn t step rest lines lines' e q so_far =
      let c = call_of 32 step.act in
      let next : t ≡ after_call h c plenty = q.steps.becomes ∙ ap (after_call h c) e in
      let said : lines' ≡ lines ++ answer_lines step.line (answer h c) =
      q.lines ∙ ap (λ (a : Answer). lines ++ answer_lines step.line a) q.steps.answers in
      let going = going_turn c (calls_of rest) q.told t e q.steps so_far.going in
      record { made = so_far.made ++ record { call = c; answer = answer h c } ∷ []; going = going; told = grind (arith, append_assoc) }

  -- the same at the i-th step of the list
  pub telling_more : (t : State) (i : ℕ) (lines lines' : List Line) → i < length steps → t.room ≡ plenty
      → Answered h (get_or steps i (record { line = 0; act = Open 0 })) lines t lines'
      → Telling s steps before h (drop i steps) lines → Telling s steps before t (drop (i + 1) steps) lines'
  telling_more t i lines lines' l e q so_far =
      let step = get_or steps i (record { line = 0; act = Open 0 }) in
      telling_turn t step (drop (i + 1) steps) lines lines' e q
      (subst (λ (z : List Step). Telling s steps before h z lines) (drop_more steps i (record { line = 0; act = Open 0 }) l) so_far)

-- a hub that was just made, with what it promises of every run, and the steps played on it
pub rehearsed : (s t : State) (first room : ℕ) (values opening : List ℕ) (steps : List Step) (before lines : List Line)
    → s ≡ made 32 first values room → values ≡ opening → room ≡ plenty → EveryRunFrom s values → before ≡ []
    → Played s steps before t lines → RehearsedOn first opening steps lines
rehearsed s t first room values opening steps before lines e o r every b p =
    let begun : s ≡ start first opening = e ∙ ap (λ (z : List ℕ). made 32 first z room) o ∙ ap (made 32 first opening) r in
    let all : EveryRunFrom (start first opening) opening = subst (λ (z : State). EveryRunFrom z opening) begun (subst (λ (z : List ℕ). EveryRunFrom s z) o every) in
    let q : Played (start first opening) steps [] t lines = grind arith in
    record {
      ending = t;
      calls = called_run (start first opening) (calls_of steps);
      runs = q.runs;
      tell = q.lines;
      serializable = all (run_of first opening steps) t q.runs;
    }
