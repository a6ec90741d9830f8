-- The acts of the first steps, one step more.
use Rattle.std.proofs.Common.{◌≡◌, ℕ, ◌+◌, ◌<◌, ◌≤◌, List, [], ◌∷◌, ◌++◌, length, get_or, take, Ok, Err, Result, sym, refl, ap, ◌∙◌, subst, arith, below_more}
use Rattle.std.proofs.lemmas.Bool.{both_ways}
use Rattle.std.proofs.lemmas.List.{get_or-map, take-map, take_more, take_all, length-map, length-take-le}
use Rattle.graph.specs.Nodes.{has}
use Rattle.graph.proofs.Lists.{all_same}
use Rattle.graph.proofs.Words.{bit_none}
use Rattle.trace.specs.declared.act.Act.TheVariants.{Retire}
use Rattle.trace.specs.declared.act.Step.{Step}
use Rattle.verdict.specs.declared.ledger.Ledger.{Ledger}
use Rattle.verdict.specs.declared.refusal.JudgeRefusal.{JudgeRefusal}
use Rattle.verdict.specs.declared.refusal.JudgeRefusal.TheVariants.{OutOfTurn, TooManyJobs, ListTooShort}
use Rattle.verdict.specs.Turns.{acts, InTurn, HasRoom, Sound, Refuses}
use Rattle.verdict.specs.Users.{no_users}
use Rattle.verdict.specs.Ledgers.{blank, UsersOf, Keeps, Takes, ReadsSteps}
use Rattle.verdict.proofs.Marks.{users_none}

pub act_at : (steps : List Step) (i : ℕ) (d : Step) → i < length steps → get_or (acts steps) i Retire ≡ (get_or steps i d).act
act_at steps i d b = get_or-map (λ (s : Step). s.act) steps i d Retire b

pub acts_take : (steps : List Step) (i : ℕ) → acts (take i steps) ≡ take i (acts steps)
acts_take steps i = sym (take-map (λ (s : Step). s.act) i steps)

acts_length : (steps : List Step) → length (acts steps) ≡ length steps
acts_length steps = length-map steps (λ (s : Step). s.act)

next_acts : (steps : List Step) (i : ℕ) → i < length steps → acts (take (i + 1) steps) ≡ acts (take i steps) ++ get_or (acts steps) i Retire ∷ []
next_acts steps i b =
    acts_take steps (i + 1) ∙ take_more (acts steps) i Retire (omega (arith, acts_length steps)) ∙ ap (λ H. H ++ get_or (acts steps) i Retire ∷ []) (sym (acts_take steps i))

-- no act is taken
pub keeps_none : Keeps [] blank
keeps_none = record {
  few = omega arith;
  places = (refl, refl);
  jobs = refl;
  once = tt;
  unopened = λ j n. refl;
  opened_once = λ j i e. i;
  users = λ w x i u. u;
  running = record { only = λ p t. absurd (both_ways (has 0 p) (bit_none p) t); all = λ p b q. absurd (omega arith) };
  kept = record { only = λ p t. absurd (both_ways (has 0 p) (bit_none p) t); all = λ p b q. absurd (omega arith) };
  edges = λ q b. absurd (omega arith);
  empty = λ p q b. ap (λ row. has row p) (all_same 64 q 0) ∙ bit_none p;
  items = λ x b. subst (UsersOf [] [] x) (sym (all_same 64 x no_users)) (users_none [] x);
}

-- what has been read when the first i steps are taken
abbrev pub ReadUpto : List Step → ℕ → Ledger → Type 0
ReadUpto steps i l = Sound (acts steps) i × Keeps (acts (take i steps)) l

pub read_none : (steps : List Step) → ReadUpto steps 0 blank
read_none steps = ((λ k b. absurd (omega arith)), keeps_none)

module _ (steps : List Step) (i : ℕ) (d : Step) (l m : Ledger) (b : i < length steps) (r : ReadUpto steps i l) where
  -- what becomes of the act at the place, said of the list of acts
  becomes : (f : Result (Unit {0}) JudgeRefusal) → Takes (acts (take i steps)) (get_or steps i d).act (length (take i steps)) f m
      → Takes (acts (take i steps)) (get_or (acts steps) i Retire) i f m
  becomes f t =
      subst (λ act. Takes (acts (take i steps)) act i f m) (sym (act_at steps i d b))
      (subst (λ n. Takes (acts (take i steps)) (get_or steps i d).act n f m) (length-take-le i steps (omega arith)) t)

  pub read_more : (u : Unit {0}) → Takes (acts (take i steps)) (get_or steps i d).act (length (take i steps)) (Ok u) m → ReadUpto steps (i + 1) m
  read_more u s = let t = becomes (Ok u) s in (
    below_more (λ k. InTurn (take k (acts steps)) (get_or (acts steps) k Retire) × HasRoom (take k (acts steps)) (get_or (acts steps) k Retire)) i r.0
        (subst (λ H. InTurn H (get_or (acts steps) i Retire) × HasRoom H (get_or (acts steps) i Retire)) (acts_take steps i) (t.0, t.1)),
    subst (λ H. Keeps H m) (sym (next_acts steps i b)) t.2,
  )

  refused : (f : JudgeRefusal) → Takes (acts (take i steps)) (get_or (acts steps) i Retire) i (Err f) m → (places : ℕ) → Refuses (acts steps) places f
  refused (OutOfTurn k) t places =
      subst (λ n. Refuses (acts steps) places (OutOfTurn n)) (sym t.0)
      (omega (arith, acts_length steps), r.0, λ h. t.1 (subst (λ H. InTurn H (get_or (acts steps) i Retire)) (sym (acts_take steps i)) h))
  refused TooManyJobs t places = (
    i,
    omega (arith, acts_length steps),
    r.0,
    subst (λ H. InTurn H (get_or (acts steps) i Retire)) (acts_take steps i) t.0,
    λ h. t.1 (subst (λ H. HasRoom H (get_or (acts steps) i Retire)) (sym (acts_take steps i)) h),
  )
  refused ListTooShort t places = absurd t

  pub read_refused : (f : JudgeRefusal) → Takes (acts (take i steps)) (get_or steps i d).act (length (take i steps)) (Err f) m → (places : ℕ) → Refuses (acts steps) places f
  read_refused f t = refused f (becomes (Err f) t)

pub read_all : (steps : List Step) (i : ℕ) (l : Ledger) → length steps ≤ i → i ≤ length steps → ReadUpto steps i l → ReadsSteps (acts steps) (Ok l)
read_all steps i l b c r =
    let e : length steps ≡ i = omega arith in (
      subst (Sound (acts steps)) (sym (acts_length steps ∙ e)) r.0,
      subst (λ H. Keeps H l) (acts_take steps i ∙ take_all i (acts steps) (omega (arith, acts_length steps))) r.1,
    )
