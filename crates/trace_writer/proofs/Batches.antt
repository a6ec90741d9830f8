-- Lines written one behind the other. Rests on Trips.
use Rattle.std.proofs.Common.{◌≡◌, ℕ, ◌+◌, ◌-◌, ◌<◌, ◌≤◌, cond, leb, List, [], ◌∷◌, ◌++◌, length, get_or, take, drop, Some, None, Ok, Err, Option, Result, sym, refl, ap, ◌∙◌, subst, inl, inr, add-zero, add_assoc, zero-add, arith, length-append}
use Rattle.std.proofs.lemmas.List.{append_assoc, take_at, drop_at, length-take-le, drop_all, drop-drop, take_more, drop_more, flat_map_more}
use Rattle.std.proofs.lemmas.Bool.{cases_Bool, leb-true}
use Rattle.trace.specs.declared.act.Act.{Act}
use Rattle.trace.specs.declared.act.Act.TheVariants.{Open}
use Rattle.trace.specs.declared.fault.WriteRefusal.{WriteRefusal}
use Rattle.trace.specs.declared.fault.WriteRefusal.TheVariants.{ItemAboveLimit, DoesNotFit}
use Rattle.trace.specs.Lines.{item_of, line_of, Sayable}
use Rattle.trace.specs.Traces.{reading_of, written, AllSayable}
use Rattle.trace_writer.specs.Writing.{over, item_checked, fitted, writing, writing_on, writing_all, plus}
use borrow.Rule.Slice.PartMut.{put_mid}
use Rattle.trace.proofs.Saying.{apart', same_ok}
use Rattle.trace.proofs.Trips.{reading_written}

-- what a granted length says

fitted_says : (room m n : ℕ) → fitted room m ≡ Ok n → (n ≡ m) × (n ≤ room)
fitted_says room m n h =
    elim (cases_Bool (leb m room)) [
      | inl e ↦ let s = same_ok _ _ (sym (ap (λ b. cond b (Ok m) (Err (DoesNotFit m))) e) ∙ h) in (sym s, omega (arith, leb-true m room e))
      | inr e ↦ absurd (apart' _ _ (sym (ap (λ b. cond b (Ok m) (Err (DoesNotFit m))) e) ∙ h))
    ]

checked_says : (item : Option ℕ) (r : Result ℕ WriteRefusal) (n : ℕ) → item_checked item r ≡ Ok n → r ≡ Ok n
checked_says None r n h = h
checked_says (Some x) r n h =
    elim (cases_Bool (leb x 63)) [
      | inl e ↦ sym (ap (λ b. cond b r (Err (ItemAboveLimit x))) e) ∙ h
      | inr e ↦ absurd (apart' _ _ (sym (ap (λ b. cond b r (Err (ItemAboveLimit x))) e) ∙ h))
    ]

pub writing_says : (a : Act) (room n : ℕ) → writing a room ≡ Ok n → (n ≡ length (line_of a)) × (n ≤ room)
writing_says a room n h = fitted_says room (length (line_of a)) n (checked_says (item_of a) _ n h)

pub writing_all_says : (acts : List Act) (room n : ℕ) → writing_all acts room ≡ Ok n → (n ≡ length (written acts)) × (n ≤ room)
writing_all_says [] room n h = let s = same_ok _ _ h in (sym s, omega arith)
writing_all_says (a ∷ acts) room n h = one (writing a room) refl (writing_all_says acts)
  where
    one : (r : Result ℕ WriteRefusal) → writing a room ≡ r → ((room n : ℕ) → writing_all acts room ≡ Ok n → (n ≡ length (written acts)) × (n ≤ room)) → (n ≡ length (line_of a ++ written acts)) × (n ≤ room)
    one (Err why) e ih = absurd (apart' _ _ (sym (ap (λ r. writing_on r λ k. writing_all acts (room - k)) e) ∙ h))
    one (Ok k) e ih = others (writing_all acts (room - k)) refl
      where
        others : (r : Result ℕ WriteRefusal) → writing_all acts (room - k) ≡ r → (n ≡ length (line_of a ++ written acts)) × (n ≤ room)
        others (Err why) q = absurd (apart' _ _ (sym (ap (λ r. writing_on r λ k. writing_all acts (room - k)) e ∙ ap (plus k) q) ∙ h))
        others (Ok m) q =
            let s = same_ok _ _ (sym (ap (λ r. writing_on r λ k. writing_all acts (room - k)) e ∙ ap (plus k) q) ∙ h) in
            let w = writing_says a room k e in
            let v = ih (room - k) m q in
            omega (arith, length-append (line_of a) (written acts), w.0, w.1, v.0, v.1)

-- lines at the front are read back as their acts
pub trace_reads_back : (acts : List Act) (out last : List ℕ) (n : ℕ) → AllSayable acts → n ≡ length (written acts) → last ≡ written acts ++ drop (length (written acts)) out → (room : ℕ) → length acts ≤ room → reading_of (take n last) room ≡ record { acts = acts; stop = None }
trace_reads_back acts out last n s e l room h =
    let t : take n last ≡ written acts = ap (take n) l ∙ take_at (written acts) (drop (length (written acts)) out) n (sym e) in
    ap (λ b. reading_of b room) t ∙ reading_written room 1 0 acts s h

pub over_front : (s out : List ℕ) → over 0 s out ≡ s ++ drop (length s) out
over_front s out = ap (λ n. s ++ drop n out) (zero-add (length s))

-- measuring on

plus_plus : (n m : ℕ) (r : Result ℕ WriteRefusal) → plus n (plus m r) ≡ plus (n + m) r
plus_plus n m (Ok k) = ap Ok (sym (add_assoc n m k))
plus_plus n m (Err why) = refl

pub measured_more : (rest : List Act) (a : Act) (total room k : ℕ) → total ≤ room → writing a (room - total) ≡ Ok k → (total + k ≤ room) × (plus (total + k) (writing_all rest (room - (total + k))) ≡ plus total (writing_all (a ∷ rest) (room - total)))
measured_more rest a total room k h e =
    let w = writing_says a (room - total) k e in
    let r : room - (total + k) ≡ room - total - k = omega arith in
    (omega (arith, w.1), sym (ap (λ r. plus total (writing_on r λ k. writing_all rest (room - total - k))) e ∙ plus_plus total k (writing_all rest (room - total - k)) ∙ ap (λ m. plus (total + k) (writing_all rest m)) (sym r)))

-- laying on

-- a part put behind another is both put at once
pub over_more : (out s t : List ℕ) (place n : ℕ) → n ≡ place + length s → n + length t ≤ length out → over n t (over place s out) ≡ over place (s ++ t) out
over_more out s t place n e h =
    let front = take place out ++ s in
    let rest = drop (place + length s) out in
    let long : length front ≡ n = length-append (take place out) s ∙ ap (λ m. m + length s) (length-take-le place out (omega arith)) ∙ sym e in
    let whole : over place s out ≡ front ++ rest = sym (append_assoc (take place out) s rest) in
    let a : take n (over place s out) ≡ front = ap (take n) whole ∙ take_at front rest n long in
    let b : drop (n + length t) (over place s out) ≡ drop (place + length (s ++ t)) out = sym (drop-drop (length t) n (over place s out)) ∙ ap (λ l. drop (length t) (drop n l)) whole ∙ ap (drop (length t)) (drop_at front rest n long) ∙ drop-drop (length t) (place + length s) out ∙ ap (λ m. drop m out) (add_assoc place (length s) (length t) ∙ ap (λ m. place + m) (sym (length-append s t))) in
    (λ i. a i ++ (t ++ b i)) ∙ append_assoc (take place out) s (t ++ drop (place + length (s ++ t)) out) ∙ ap (λ l. take place out ++ l) (sym (append_assoc s t (drop (place + length (s ++ t)) out)))

abbrev pub act_at : List Act → ℕ → Act
act_at acts i = get_or acts i (Open 0)

written_more : (acts : List Act) (i : ℕ) → i < length acts → written (take (i + 1) acts) ≡ written (take i acts) ++ line_of (act_at acts i)
written_more acts i h =
    ap written (take_more acts i (Open 0) h) ∙ sym (flat_map_more line_of [] (take i acts) (act_at acts i))

written_left : (acts : List Act) (i : ℕ) → i < length acts → length (written (drop i acts)) ≡ length (line_of (act_at acts i)) + length (written (drop (i + 1) acts))
written_left acts i h =
    ap (λ l. length (written l)) (drop_more acts i (Open 0) h) ∙ length-append (line_of (act_at acts i)) (written (drop (i + 1) acts))

-- so many lines stand at the front, and there is room for the others
pub record Laid (acts : List Act) (entry out : List ℕ) (i place : ℕ) : Type 0 where
  pub within : i ≤ length acts
  pub long : place ≡ length (written (take i acts))
  pub room : place + length (written (drop i acts)) ≤ length entry
  pub held : out ≡ over 0 (written (take i acts)) entry

pub laid_more : (acts : List Act) (entry out last : List ℕ) (i place k : ℕ) → Laid acts entry out i place → i < length acts → k ≡ length (line_of (act_at acts i)) → last ≡ over place (line_of (act_at acts i)) out → Laid acts entry last (i + 1) (place + k)
laid_more acts entry out last i place k s h e l =
    let line = line_of (act_at acts i) in
    let w = written_more acts i h in
    let left = written_left acts i h in
    let d = s.room in
    let p = s.long in
    record {
      within = omega arith;
      long = omega (arith, ap length w, length-append (written (take i acts)) line);
      room = omega arith;
      held = l ∙ ap (over place line) s.held ∙ over_more entry (written (take i acts)) line 0 place (omega arith) (omega arith) ∙ ap (λ b. over 0 b entry) (sym w);
    }

-- a line that was copied into its place lies over what was there
pub put_over : (out line part : List ℕ) (place n : ℕ) → part ≡ line → n ≡ length line → put_mid place n out part ≡ over place line out
put_over out line part place n e l =
    (λ i. take place out ++ (e i ++ drop (l i) (drop place out))) ∙ ap (λ r. take place out ++ (line ++ r)) (drop-drop (length line) place out)

-- so many acts have been measured, and measuring on gives what measuring all of them gives
pub record Measured (acts : List Act) (room i total : ℕ) : Type 0 where
  pub within : i ≤ length acts
  pub fits : total ≤ room
  pub told : plus total (writing_all (drop i acts) (room - total)) ≡ writing_all acts room
  pub said : AllSayable (drop i acts) → AllSayable acts

pub measured_on : (acts : List Act) (room i total k : ℕ) → Measured acts room i total → i < length acts → writing (act_at acts i) (room - total) ≡ Ok k → Sayable (act_at acts i) → Measured acts room (i + 1) (total + k)
measured_on acts room i total k m h e s =
    let d = drop_more acts i (Open 0) h in
    let p = measured_more (drop (i + 1) acts) (act_at acts i) total room k m.fits e in
    record {
      within = omega arith;
      fits = p.0;
      told = p.1 ∙ ap (λ l. plus total (writing_all l (room - total))) (sym d) ∙ m.told;
      said = λ t. m.said (subst AllSayable (sym d) (s, t));
    }

pub measured_all : (acts : List Act) (room i total : ℕ) → Measured acts room i total → length acts ≤ i → (Ok total ≡ writing_all acts room) × AllSayable acts
measured_all acts room i total m h =
    let d = drop_all i acts h in
    (ap Ok (sym (add-zero total)) ∙ ap (λ l. plus total (writing_all l (room - total))) (sym d) ∙ m.told, m.said (subst AllSayable (sym d) tt))
