-- Runs that follow one another are one run, and their records stand one after the other.
use Rattle.std.proofs.Common.{◌≡◌, ℕ, List, [], ◌∷◌, ◌++◌, sym, refl, ap, ◌∙◌, subst}
use Rattle.std.proofs.lemmas.List.{append_assoc}
use Rattle.trace.specs.declared.act.Act.{Act}
use Rattle.history.specs.Machine.{State, made, Steps}
use Rattle.history.specs.Runs.{Turn, Runs, acts, acts_of, retired_by, retired_of}
use Rattle.history.specs.Promises.{EveryRunFrom}
use Rattle.history.proofs.Serializability.{every_run_serializable}

pub runs_join : (us vs : List Turn) (s m t : State) → Runs s us m → Runs m vs t → Runs s (us ++ vs) t
runs_join [] vs s m t e r = subst (λ (z : State). Runs z vs t) e r
runs_join (u ∷ us) vs s m t (n, q, p) r = (n, q, runs_join us vs n m t p r)

-- one turn more
pub runs_more : (us : List Turn) (s m t : State) (u : Turn) → Runs s us m → Steps m u.call u.answer t
    → Runs s (us ++ u ∷ []) t
runs_more us s m t u r q = runs_join us (u ∷ []) s m t r (t, q, refl)

pub acts_of_join : (us vs : List Turn) → acts_of (us ++ vs) ≡ acts_of us ++ acts_of vs
acts_of_join [] vs = refl
acts_of_join (u ∷ us) vs =
    ap (λ (H : List Act). acts u.call u.answer ++ H) (acts_of_join us vs)
    ∙ sym (append_assoc (acts u.call u.answer) (acts_of us) (acts_of vs))

pub retired_of_join : (us vs : List Turn) → retired_of (us ++ vs) ≡ retired_of us ++ retired_of vs
retired_of_join [] vs = refl
retired_of_join (u ∷ us) vs =
    ap (λ (R : List ℕ). retired_by u.answer ++ R) (retired_of_join us vs)
    ∙ sym (append_assoc (retired_by u.answer) (retired_of us) (retired_of vs))

-- every run from a state that was just made is serializable
pub every_run_from_made : (s : State) (slots first room : ℕ) (opening : List ℕ) → s ≡ made slots first opening room
    → EveryRunFrom s opening
every_run_from_made s slots first room opening e =
    subst (λ (z : State). EveryRunFrom z opening) (sym e) (every_run_serializable slots first room opening)
