-- Equality of states, and how a call steps. Assumes nothing.
use Rattle.std.proofs.Common.{◌≡◌, ℕ, ◌+◌, ◌≤◌, cond, Some, None, sym, ap, ◌∙◌, arith}
use Rattle.std.proofs.lemmas.Bool.{eq-eqb, ne_eqb}
use Rattle.history.specs.declared.refusal.Refusal.{Refusal}
use Rattle.history.specs.Machine.{State, Call, Answer, refused, refusal, granted_answer, granted_state, refused_state, by_refusal, answer, after_call, put_count, put_at, Steps}

-- states that say the same of every job and item are equal
pub record SameState (s t : State) : Type 0 where
  pub slots : s.slots ≡ t.slots
  pub next : s.next ≡ t.next
  pub status : (j : ℕ) → s.status j ≡ t.status j
  pub held : (x : ℕ) → s.held x ≡ t.held x
  pub readers : (x j : ℕ) → s.readers x j ≡ t.readers x j
  pub writers : (x j : ℕ) → s.writers x j ≡ t.writers x j
  pub edges : (i j : ℕ) → s.edges i j ≡ t.edges i j
  pub values : s.values ≡ t.values
  pub room : s.room ≡ t.room

pub same_state : (s t : State) → SameState s t → s ≡ t
same_state s t p = λ i. record {
  slots = p.slots i;
  next = p.next i;
  status = λ j. p.status j i;
  held = λ x. p.held x i;
  readers = λ x j. p.readers x j i;
  writers = λ x j. p.writers x j i;
  edges = λ a b. p.edges a b i;
  values = p.values i;
  room = p.room i;
}

-- a function changed at one number
pub put_same : {A : Type 0} (n : ℕ) (a : A) (f : ℕ → A) (m : ℕ) → m ≡ n → put_at n a f m ≡ a
put_same n a f m e = ap (λ b. cond b a (f m)) (eq-eqb m n e)

pub put_other : {A : Type 0} (n : ℕ) (a : A) (f : ℕ → A) (m : ℕ) → (m ≡ n → ⊥) → put_at n a f m ≡ f m
put_other n a f m d = ap (λ b. cond b a (f m)) (ne_eqb m n d)

module _ (s : State) (c : Call) (t : State) where
  -- a call that is refused
  pub steps_refused : (r : Refusal) → refusal s c ≡ Some r → t ≡ refused_state s c r → t.room ≡ s.room → Steps s c (refused r) t
  unfolding answer after_call
  steps_refused r e f room = record {
    answers = sym (ap (λ o. by_refusal o (granted_answer s c) (λ q. refused q)) e);
    becomes = f ∙ sym (ap (λ o. by_refusal o (granted_state s c t.room) (λ q. refused_state s c q)) e);
    keeps_room = λ _. room;
    takes_room = omega arith;
  }

  -- a call that is granted
  pub steps_granted : (a : Answer) → refusal s c ≡ None → a ≡ granted_answer s c → t ≡ granted_state s c t.room → (put_count s c ≡ 0 → t.room ≡ s.room) → s.room ≤ t.room + put_count s c → Steps s c a t
  unfolding answer after_call
  steps_granted a e f g keeps takes = record {
    answers = f ∙ sym (ap (λ o. by_refusal o (granted_answer s c) (λ q. refused q)) e);
    becomes = g ∙ sym (ap (λ o. by_refusal o (granted_state s c t.room) (λ q. refused_state s c q)) e);
    keeps_room = keeps;
    takes_room = takes;
  }
