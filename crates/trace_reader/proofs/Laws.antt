-- The laws of reading whole traces. Rests on the laws of one line.
use Rattle.std.proofs.Common.{◌≡◌, ℕ, zero, suc, ◌+◌, ◌-◌, ◌<◌, ◌≤◌, cond, List, [], ◌∷◌, ◌++◌, length, take, drop, Some, None, Ok, Err, Option, Result, sym, refl, ap, ◌∙◌, subst, inl, inr, zero-add, arith, length-append, length-drop}
use Rattle.std.proofs.lemmas.List.{append_assoc, append-nil, take_at}
use Rattle.std.proofs.lemmas.Bool.{cases_eq, eq-eqb, ne_eqb}
use Rattle.trace.specs.declared.act.Act.{Act}
use Rattle.trace.specs.declared.act.Step.{Step}
use Rattle.trace.specs.declared.fault.LinePlace.{LinePlace}
use Rattle.trace.specs.declared.fault.LineFault.{LineFault}
use Rattle.trace.specs.declared.fault.ReadRefusal.{ReadRefusal}
use Rattle.trace.specs.declared.fault.ReadRefusal.TheVariants.{Line, Full}
use Rattle.trace.specs.Lines.{line_of}
use Rattle.trace.specs.Pieces.{parted, before, behind}
use Rattle.trace.specs.Traces.{first_line, Reading, ends, also, place_of, reading, reading_of, numbered, answer, answered, list_after, written}
use Rattle.trace.proofs.Parting.{split_ended}
use Rattle.trace.proofs.Readings.{first_said, bad_line, good_line}
use Rattle.trace.proofs.Saying.{line_said}
use Rattle.trace.proofs.Trips.{reading_written}
use Rattle.trace_reader.specs.Laws.{acts_of, Why, FirstBadLineDecides, ReadsWhatWasWritten, WritesBack}

-- a good first line is the written line of its act
line_cut : (place : LinePlace) (bs : List ℕ) (a : Act) (k : ℕ) → first_line place bs ≡ Ok (a, k) → (bs ≡ line_of a ++ drop k bs) × (k ≡ length (line_of a))
line_cut place bs a k e =
    let s = first_said place bs a k e in
    let said = line_said (before 10 bs) a s.0 in (
      split_ended 10 bs s.2 ∙ sym (append_assoc (before 10 bs) (10 ∷ []) (behind 10 bs)) ∙ ap (λ l. l ++ behind 10 bs) said ∙ ap (λ m. line_of a ++ drop m bs) (sym s.1),
      s.1 ∙ sym (length-append (before 10 bs) (10 ∷ [])) ∙ ap length said,
    )

-- why a reading stopped, with so many lines before it
abbrev WhyStop : List ℕ → ℕ → ℕ → ℕ → ℕ → Option ReadRefusal → Type 0
WhyStop rest room count n start None = rest ≡ []
WhyStop rest room count n start (Some (Full m)) = (count ≡ room) × (m ≡ n) × ((good : Act × ℕ) × (first_line (place_of m start) rest ≡ Ok good))
WhyStop rest room count n start (Some (Line f)) = (0 < length rest) × (first_line (place_of n start) rest ≡ Err f)

why_moved : (rest : List ℕ) (room count n start room' count' n' start' : ℕ) (stop : Option ReadRefusal) → (count ≡ room → count' ≡ room') → n ≡ n' → start ≡ start' → WhyStop rest room count n start stop → WhyStop rest room' count' n' start' stop
why_moved rest room count n start room' count' n' start' None c en es w = w
why_moved rest room count n start room' count' n' start' (Some (Full m)) c en es w = (c w.0, w.1 ∙ en, (w.2.0, ap (λ s. first_line (place_of m s) rest) (sym es) ∙ w.2.1))
why_moved rest room count n start room' count' n' start' (Some (Line f)) c en es w = (w.0, sym (λ i. first_line (place_of (en i) (es i)) rest) ∙ w.1)

record Law (room n start : ℕ) (bs : List ℕ) (r : Reading) : Type 0 where
  rest : List ℕ
  split : bs ≡ written r.acts ++ rest
  fits : length r.acts ≤ room
  why : WhyStop rest room (length r.acts) (n + length r.acts) (start + length (written r.acts)) r.stop

stops : (room n start : ℕ) (bs : List ℕ) (stop : Option ReadRefusal) → WhyStop bs room 0 n start stop → Law room n start bs (ends stop)
stops room n start bs stop w = record {
  rest = bs;
  split = refl;
  fits = omega arith;
  why = why_moved bs room 0 n start room 0 (n + 0) (start + 0) stop (λ e. e) (omega arith) (omega arith) w;
}

goes_on : (room n start : ℕ) (bs : List ℕ) (a : Act) (k : ℕ) (later : Reading) → first_line (place_of n start) bs ≡ Ok (a, k) → 0 < room → Law (room - 1) (n + 1) (start + k) (drop k bs) later → Law room n start bs (also a later)
goes_on room n start bs a k later e some law =
    let cut = line_cut (place_of n start) bs a k e in
    let l = length-append (line_of a) (written later.acts) in
    let m = cut.1 in
    record {
      rest = law.rest;
      split = cut.0 ∙ ap (λ t. line_of a ++ t) law.split ∙ sym (append_assoc (line_of a) (written later.acts) law.rest);
      fits = omega (arith, law.fits);
      why = why_moved law.rest (room - 1) (length later.acts) ((n + 1) + length later.acts) ((start + k) + length (written later.acts)) room (suc (length later.acts)) (n + suc (length later.acts)) (start + length (line_of a ++ written later.acts)) later.stop (λ q. omega arith) (omega arith) (omega arith) law.why;
    }

law_holds : (m room n start : ℕ) (bs : List ℕ) → length bs ≤ m → Law room n start bs (reading room n start (parted 10 bs))
law_holds zero room n start [] h = stops room n start [] None refl
law_holds zero room n start (b ∷ bs) h = absurd (omega arith)
law_holds (suc m) room n start [] h = stops room n start [] None refl
law_holds (suc m) room n start (b ∷ bs) h = go (first_line (place_of n start) (b ∷ bs)) refl (law_holds m)
  where
    go : (r : Result (Act × ℕ) LineFault) → first_line (place_of n start) (b ∷ bs) ≡ r → ((room n start : ℕ) (bs : List ℕ) → length bs ≤ m → Law room n start bs (reading room n start (parted 10 bs))) → Law room n start (b ∷ bs) (reading room n start (parted 10 (b ∷ bs)))
    go (Err f) e ih = subst (Law room n start (b ∷ bs)) (sym (bad_line room n start (b ∷ bs) f (omega arith) e)) (stops room n start (b ∷ bs) (Some (Line f)) (omega arith, e))
    go (Ok p) e ih =
        let g = good_line room n start (b ∷ bs) p.0 p.1 e in
        let later = reading (room - 1) (n + 1) (start + p.1) (parted 10 (drop p.1 (b ∷ bs))) in
        elim (cases_eq room 0) [
          | inl z ↦ subst (Law room n start (b ∷ bs)) (sym (g.0 ∙ ap (λ t. cond t (ends (Some (Full n))) (also p.0 later)) (eq-eqb room 0 z))) (stops room n start (b ∷ bs) (Some (Full n)) (sym z, refl, (p, e)))
          | inr nz ↦ subst (Law room n start (b ∷ bs)) (sym (g.0 ∙ ap (λ t. cond t (ends (Some (Full n))) (also p.0 later)) (ne_eqb room 0 nz))) (goes_on room n start (b ∷ bs) p.0 p.1 later e (omega arith) (ih (room - 1) (n + 1) (start + p.1) (drop p.1 (b ∷ bs)) (omega (arith, g.1, length-drop p.1 (b ∷ bs)))))
        ]

-- the first bad line decides

why_answer : (rest : List ℕ) (room count start : ℕ) (stop : Option ReadRefusal) → WhyStop rest room count (1 + count) (0 + start) stop → Why rest room count start (answered count stop)
why_answer rest room count start None w = (refl, w)
why_answer rest room count start (Some (Full m)) w = (w.0, w.1 ∙ (omega arith), (w.2.0, ap (λ s. first_line (place_of m s) rest) (sym (zero-add start)) ∙ w.2.1))
why_answer rest room count start (Some (Line f)) w =
    let e : count + 1 ≡ 1 + count = omega arith in
    (w.0, (λ i. first_line (place_of (e i) (sym (zero-add start) i)) rest) ∙ w.1)

pub first_bad_line_decides : (bytes : List ℕ) (entry : List Step) → FirstBadLineDecides bytes entry (list_after entry (reading_of bytes (length entry))) (answer (reading_of bytes (length entry)))
first_bad_line_decides bytes entry =
    let r = reading_of bytes (length entry) in
    let law = law_holds (length bytes) (length entry) 1 0 bytes (omega arith) in
    record {
      acts = r.acts;
      rest = law.rest;
      split = law.split;
      listed = refl;
      room = law.fits;
      why = why_answer law.rest (length entry) (length r.acts) (length (written r.acts)) r.stop law.why;
    }

-- a trace that is read is, written out again, the same bytes

length_numbered : (n : ℕ) (acts : List Act) → length (numbered n acts) ≡ length acts
length_numbered n [] = refl
length_numbered n (a ∷ acts) = ap suc (length_numbered (n + 1) acts)

acts_numbered : (n : ℕ) (acts : List Act) → acts_of (numbered n acts) ≡ acts
acts_numbered n [] = refl
acts_numbered n (a ∷ acts) = ap (λ l. a ∷ l) (acts_numbered (n + 1) acts)

back : (bytes rest : List ℕ) (entry : List Step) (acts : List Act) (n : ℕ) → bytes ≡ written acts ++ rest → n ≡ length acts → rest ≡ [] → written (acts_of (take n (numbered 1 acts ++ drop (length acts) entry))) ≡ bytes
back bytes rest entry acts n s e none =
    ap (λ l. written (acts_of l)) (take_at (numbered 1 acts) (drop (length acts) entry) n (length_numbered 1 acts ∙ sym e))
    ∙ ap written (acts_numbered 1 acts) ∙ sym (append-nil (written acts)) ∙ ap (λ l. written acts ++ l) (sym none) ∙ sym s

pub writes_back : (bytes : List ℕ) (entry : List Step) → WritesBack bytes (list_after entry (reading_of bytes (length entry))) (answer (reading_of bytes (length entry)))
writes_back bytes entry n e =
    let d = first_bad_line_decides bytes entry in
    let w : Why d.rest (length entry) (length d.acts) (length (written d.acts)) (Ok n) = subst (Why d.rest (length entry) (length d.acts) (length (written d.acts))) e d.why in
    ap (λ l. written (acts_of (take n l))) d.listed ∙ back bytes d.rest entry d.acts n d.split w.0 w.1

-- acts that were written out are read back
pub reads_what_was_written : (bytes : List ℕ) (entry : List Step) → ReadsWhatWasWritten bytes entry (list_after entry (reading_of bytes (length entry))) (answer (reading_of bytes (length entry)))
reads_what_was_written bytes entry acts h l e =
    let r : reading_of bytes (length entry) ≡ record { acts = acts; stop = None } = ap (λ b. reading_of b (length entry)) e ∙ reading_written (length entry) 1 0 acts h l in
    (ap answer r, ap (list_after entry) r)
