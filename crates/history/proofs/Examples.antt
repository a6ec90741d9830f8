-- The worked examples, evaluated.
use Rattle.std.proofs.Common.{◌≡◌, ℕ, ◌-◌, Bool, not, T, eqb, List, [], ◌∷◌, map, sym, refl, subst, inl, inr, arith, T_not}
use Rattle.std.proofs.lemmas.Bool.{eq-eqb}
use Rattle.history.specs.Acts.{not_aborted}
use Rattle.history.specs.Conflicts.{Edge}
use Rattle.history.specs.Machine.{State, made, rising, those, any, jobs, holdings, path, retirable, opened, has_read, has_written, put_all, has_ended, removed, all_removed, retiring, Call, Answer, refusal, granted_answer, granted_state, refused_state, answer, after_call, put_count, Steps}
use Rattle.history.specs.Runs.{Turn, Runs}
use Rattle.history.specs.Cases.{Case, played, in_order, in_cycle, Holds, AllHold, blind, cases, WorkedExamples}
use Rattle.history.proofs.Laws.{steps}

-- the answers of calls made one after another, where each put takes one of the room
play : State → List Call → List Answer
play s [] = []
play s (c ∷ cs) = answer s c ∷ play (after_call s c (s.room - put_count s c)) cs

-- turns with these answers are a run
plays : (s : State) (us : List Turn) → play s (map (λ (u : Turn). u.call) us) ≡ map (λ (u : Turn). u.answer) us
    → (t : State) × Runs s us t
unfolding play
plays s [] e = (s, refl)
plays s (u ∷ us) e =
    let c = u.call in
    let m = after_call s c (s.room - put_count s c) in
    let one : answer s c ≡ u.answer = cc in
    let r = plays m us (cc) in (
      r.0,
      (
        m,
        subst (λ (a : Answer). Steps s c a m) one (steps s c (s.room - put_count s c) (λ z. omega arith) (omega arith)),
        r.1,
      ),
    )

-- what is to be evaluated of a case
abbrev Evaluates : Case → Type 0
Evaluates (played values room turns) =
    play (made 32 1 values room) (map (λ (u : Turn). u.call) turns) ≡ map (λ (u : Turn). u.answer) turns
Evaluates (in_order H order) = Holds (in_order H order)
Evaluates (in_cycle H j js) = Holds (in_cycle H j js)

abbrev AllEvaluate : List Case → Type 0
AllEvaluate [] = Unit {0}
AllEvaluate (c ∷ cs) = Evaluates c × AllEvaluate cs

case_holds : (c : Case) → Evaluates c → Holds c
case_holds (played values room turns) e = plays (made 32 1 values room) turns e
case_holds (in_order H order) e = e
case_holds (in_cycle H j js) e = e

all_hold : (cs : List Case) → AllEvaluate cs → AllHold cs
all_hold [] e = tt
all_hold (c ∷ cs) e = (case_holds c e.0, all_hold cs e.1)

infixr 20 ◌also◌
abbrev ◌also◌ : {A B : Type 0} → A → B → A × B
a also b = (a, b)

apart : (i j : ℕ) → T (not (eqb i j)) → i ≡ j → ⊥
apart i j t e = T_not (eqb i j) t (subst (λ (b : Bool). T b) (sym (eq-eqb i j e)) tt)

pub worked_examples : WorkedExamples
unfolding play made rising those any jobs holdings path retirable opened has_read has_written put_all has_ended removed all_removed retiring refusal granted_answer granted_state refused_state answer after_call put_count
worked_examples =
    all_hold cases
    (refl
    also refl
    also refl
    also refl
    also refl
    also refl
    also refl
    also refl
    also refl
    also refl
    also record { distinct = tt; all = λ j k. absurd k; only = λ j h. absurd h; forward = tt }
    also (((λ h. elim h [ inl e ↦ apart 1 2 tt e | inr k ↦ k ]), ((λ h. h), tt)), (one_two, (two_one, tt)))
    also tt)
  where
    one_two : Edge not_aborted blind 1 2
    one_two = (tt, tt, inl (refl, inl (refl, (apart 1 2 tt, refl, tt))))

    two_one : Edge not_aborted blind 2 1
    two_one = (tt, tt, inr (inl (refl, inl (refl, (apart 2 1 tt, refl, tt)))))
