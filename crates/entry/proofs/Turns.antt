-- Requests made on a hub, one after another.
use Rattle.std.proofs.Common.{◌≡◌, ℕ, suc, ◌+◌, ◌<◌, ◌≤◌, min, List, [], ◌∷◌, ◌++◌, length, get_or, take, drop, set, replicate, Some, Result, refl, ap, ◌∙◌, subst, arith, length-append}
use Rattle.std.proofs.lemmas.Grind.{common_steps}
use Rattle.std.proofs.lemmas.List.{append_assoc, drop_more, set-append_right}
use Rattle.trace.specs.declared.act.Act.{Act}
use Rattle.history.specs.declared.answer.Answer.{Answer as Told}
use Rattle.history.specs.declared.refusal.Refusal.{Refusal}
use Rattle.history.specs.Machine.{State, made, Call, Answer, answer, Steps}
use Rattle.history.specs.Runs.{Turn}
use Rattle.history.specs.Acting.{call_of, calls_of, Takes}
use Rattle.history.proofs.Acting.{Going, going_turn}
use Rattle.hub.specs.InMemory.{plenty}
use Rattle.entry.specs.declared.request.Request.{Request}
use Rattle.entry.specs.declared.request.Reply.{Reply}
use Rattle.entry.specs.Requests.{act_of, known}
use Rattle.entry.specs.Playing.{reply, reply_of, replies_of, Plays, PlaysAll}
use Rattle.entry.proofs.Requests.{blank, known_more}

length_replies : (us : List Turn) → length (replies_of us) ≡ length us
length_replies [] = refl
length_replies (u ∷ us) = ap suc (length_replies us)

replies_more : (us : List Turn) (u : Turn) → replies_of (us ++ u ∷ []) ≡ replies_of us ++ reply u.answer ∷ []
replies_more [] u = refl
replies_more (v ∷ us) u = ap (λ (z : List Reply). reply v.answer ∷ z) (replies_more us u)

-- so far the hub has come to the state h by i calls, and the list has their replies; the calls in rest are left
pub record Replying (s : State) (all : List Call) (lent : List Reply) (h : State) (i : ℕ) (rest : List Call) (replies : List Reply) : Type 0 where
  pub made : List Turn
  pub going : Going plenty s all made h rest
  pub count : length made ≡ i
  pub told : replies ≡ replies_of made ++ drop i lent

-- a reply put behind the others
put_next : (front lent : List Reply) (i : ℕ) (r : Reply) → length front ≡ i → i < length lent
    → set (front ++ drop i lent) i r ≡ (front ++ r ∷ []) ++ drop (i + 1) lent
put_next front lent i r e h =
    let here = set-append_right front (drop i lent) i i r e (omega arith) in
    let more = drop_more lent i r h in
    let all = append_assoc front (r ∷ []) (drop (i + 1) lent) in
    grind arith

module _ {s h : State} {all : List Call} {lent replies : List Reply} {i : ℕ} where
  replying_turn : (c : Call) (rest : List Call) (a : Answer) (r : Reply) (t : State) → i < length lent → t.room ≡ plenty → Steps h c a t → r ≡ reply a
      → Replying s all lent h i (c ∷ rest) replies → Replying s all lent t (i + 1) rest (set replies i r)
  replying_turn c rest a r t l e q is so_far =
      let made = so_far.made in
      let u : Turn = record { call = c; answer = answer h c } in
      let said : r ≡ reply (answer h c) = is ∙ ap reply q.answers in
      let counted : length (replies_of made) ≡ i = length_replies made ∙ so_far.count in
      let more = replies_more made u in
      let next = put_next (replies_of made) lent i r counted l in
      let going = going_turn c rest a t e q so_far.going in
      record { made = made ++ u ∷ []; going = going; count = grind (arith, length-append); told = grind arith }

-- the same at the i-th request
abbrev pub ReplyingOn : State → List Request → List Reply → State → ℕ → List Reply → Type 0
ReplyingOn s qs lent h i replies = Replying s (calls_of 32 (known qs)) lent h i (calls_of 32 (known (drop i qs))) replies

module _ (s : State) (qs : List Request) (lent : List Reply) (h : State) (i : ℕ) (replies : List Reply) where
  pub replying_more : (a : Act) (places left : List ℕ) (told : Result Told Refusal) (r : Reply) (t : State) → i < length qs → length qs ≤ length lent
      → Some a ≡ act_of (get_or qs i blank) → length places ≡ 32 → t.room ≡ plenty → Takes h a places told t left → r ≡ reply_of told
      → ReplyingOn s qs lent h i replies → ReplyingOn s qs lent t (i + 1) (set replies i r)
  replying_more a places left told r t l m e n room q is so_far =
      replying_turn (call_of 32 a) (calls_of 32 (known (drop (i + 1) qs))) q.answer r t (omega arith) room
      (subst (λ (k : ℕ). Steps h (call_of k a) q.answer t) n q.steps) (is ∙ ap reply_of q.told)
      (subst (λ (z : List Act). Replying s (calls_of 32 (known qs)) lent h i (calls_of 32 z) replies) (known_more qs i a l e) so_far)

-- the requests that have a place are the front of the list
pub asked_front : (qs : List Request) (places n : ℕ) → n ≡ min (length qs) places → take n qs ≡ take places qs
asked_front qs places n e = grind (arith, common_steps)

-- the requests made on a hub that was just made
pub plays_all : (s t : State) (first : ℕ) (opening : List ℕ) (asked requests : List Request) (before after : List Reply) (count : ℕ)
    → s ≡ made 32 first opening plenty → opening ≡ replicate 64 0 → asked ≡ take (length before) requests
    → Plays s asked before count t after → PlaysAll first requests before count after
plays_all s t first opening asked requests before after count e o a p = (t, grind arith)
