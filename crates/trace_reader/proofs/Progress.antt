-- The reading of a trace, as the loop of the code goes on with it. Rests on the laws of one line.
use Rattle.std.proofs.Common.{◌≡◌, ℕ, suc, ◌+◌, ◌-◌, ◌<◌, ◌≤◌, true, false, cond, eqb, ◌==◌, position, List, [], ◌∷◌, ◌++◌, length, take, drop, set, Some, None, Ok, Err, Option, Result, sym, ap, ◌∙◌, add-zero, arith, length-drop, length-set, take-append-drop}
use Rattle.std.proofs.lemmas.List.{take_rest, drop_all, drop-drop, take_more_set, drop-set-lt, append_assoc}
use Rattle.std.proofs.lemmas.Bool.{eq-eqb, ne_eqb}
use Rattle.trace.specs.declared.act.Act.{Act}
use Rattle.trace.specs.declared.act.Step.{Step}
use Rattle.trace.specs.declared.fault.LinePlace.{LinePlace}
use Rattle.trace.specs.declared.fault.LineFault.{LineFault}
use Rattle.trace.specs.declared.fault.ReadRefusal.{ReadRefusal}
use Rattle.trace.specs.declared.fault.ReadRefusal.TheVariants.{Line, Full}
use Rattle.trace.specs.Lines.{act_on}
use Rattle.trace.specs.Pieces.{before, parted}
use Rattle.trace.specs.Traces.{in_place, with_length, first_line, Reading, ends, also, place_of, reading, reading_of, numbered, answered, answer, list_after}
use Rattle.trace.proofs.Readings.{first_ended, good_line, bad_line}
use Rattle.trace_reader.proofs.Cutting.{found, cut_front}

-- the first line, as the slice up to its end is read

pub first_told : (place : LinePlace) (bs : List ℕ) (n : ℕ) (r : Result Act LineFault) → Some n ≡ position (λ b. b == 10) bs → r ≡ in_place place (act_on (take n bs)) → with_length (n + 1) r ≡ first_line place bs
first_told place bs n r at h =
    let f = found 10 bs n at in
    ap (with_length (n + 1)) (h ∙ ap (λ l. in_place place (act_on l)) (cut_front 10 bs n f.0))
    ∙ ap (λ m. with_length (m + 1) (in_place place (act_on (before 10 bs)))) f.0
    ∙ sym (first_ended place bs (λ q. omega arith))

-- the first line of what is left, as a slice reads it
pub part_line : (place : LinePlace) (bytes : List ℕ) (start : ℕ) (r : Result (Act × ℕ) LineFault) → r ≡ first_line place (take (length bytes - start) (drop start bytes)) → first_line place (drop start bytes) ≡ r
part_line place bytes start r e = sym (e ∙ ap (first_line place) (take_rest bytes start))

-- a good line has a byte at least, and lies within the bytes
pub line_within : (place : LinePlace) (bytes : List ℕ) (start : ℕ) (a : Act) (k : ℕ) → first_line place (drop start bytes) ≡ Ok (a, k) → start ≤ length bytes → (0 < k) × (start + k ≤ length bytes)
line_within place bytes start a k e h =
    let g = good_line 0 place.line place.start (drop start bytes) a k e in
    omega (arith, g.1, g.2, length-drop start bytes)

-- what is answered and what the list holds, with so many steps read before

abbrev answer_from : ℕ → Reading → Result ℕ ReadRefusal
answer_from count r = answered (count + length r.acts) r.stop

abbrev list_from : ℕ → List Step → Reading → List Step
list_from count list r = take count list ++ (numbered (count + 1) r.acts ++ drop (count + length r.acts) list)

-- the reading of what is left
abbrev left : List ℕ → List Step → ℕ → ℕ → Reading
left bytes list count start = reading (length list - count) (count + 1) start (parted 10 (drop start bytes))

stopped : (count : ℕ) (list : List Step) (why : Option ReadRefusal) → list ≡ list_from count list (ends why)
stopped count list why = rw (add-zero count) (sym (take-append-drop count list))

also_answer : (count : ℕ) (a : Act) (later : Reading) → answer_from (count + 1) later ≡ answer_from count (also a later)
also_answer count a later =
    let e : (count + 1) + length later.acts ≡ count + suc (length later.acts) = omega arith in
    ap (λ n. answered n later.stop) e

also_list : (count : ℕ) (list : List Step) (a : Act) (later : Reading) → count < length list → list_from (count + 1) (set list count (record { line = count + 1; act = a })) later ≡ list_from count list (also a later)
also_list count list a later h =
    let step : Step = record { line = count + 1; act = a } in
    let n = length later.acts in
    let e : (count + 1) + n ≡ count + suc n = omega arith in
    let t = take_more_set list count step h in
    let d : drop ((count + 1) + n) (set list count step) ≡ drop (count + suc n) list = drop-set-lt ((count + 1) + n) list count step (omega arith) ∙ ap (λ m. drop m list) e in
    ap (λ l. l ++ (numbered ((count + 1) + 1) later.acts ++ drop ((count + 1) + n) (set list count step))) t
    ∙ append_assoc (take count list) (step ∷ []) (numbered ((count + 1) + 1) later.acts ++ drop ((count + 1) + n) (set list count step))
    ∙ ap (λ l. take count list ++ (step ∷ (numbered ((count + 1) + 1) later.acts ++ l))) d

-- the lines before a place have been read into the list: reading on gives what reading the whole gives
pub record Sofar (bytes : List ℕ) (entry list : List Step) (count start : ℕ) : Type 0 where
  pub few : count ≤ start
  pub room : count ≤ length list
  pub within : start ≤ length bytes
  pub told : answer_from count (left bytes list count start) ≡ answer (reading_of bytes (length entry))
  pub held : list_from count list (left bytes list count start) ≡ list_after entry (reading_of bytes (length entry))

-- reading on past a good line for which there is room
left_more : (bytes : List ℕ) (list : List Step) (count start : ℕ) (a : Act) (k : ℕ) → count < length list → first_line (place_of (count + 1) start) (drop start bytes) ≡ Ok (a, k) → left bytes list count start ≡ also a (left bytes (set list count (record { line = count + 1; act = a })) (count + 1) (start + k))
left_more bytes list count start a k h e =
    let step : Step = record { line = count + 1; act = a } in
    let g = (good_line (length list - count) (count + 1) start (drop start bytes) a k e).0 in
    let some : eqb (length list - count) 0 ≡ false = ne_eqb _ _ (omega arith) in
    let fewer : length list - count - 1 ≡ length (set list count step) - (count + 1) = simp length-set (omega arith) in
    let on : reading (length list - count - 1) ((count + 1) + 1) (start + k) (parted 10 (drop k (drop start bytes))) ≡ left bytes (set list count step) (count + 1) (start + k) = λ i. reading (fewer i) ((count + 1) + 1) (start + k) (parted 10 (drop-drop k start bytes i)) in
    g ∙ ap (λ b. cond b (ends (Some (Full (count + 1)))) (also a (reading (length list - count - 1) ((count + 1) + 1) (start + k) (parted 10 (drop k (drop start bytes)))))) some ∙ ap (also a) on

pub sofar_more : (bytes : List ℕ) (entry list : List Step) (count start : ℕ) (a : Act) (k : ℕ) → Sofar bytes entry list count start → count < length list → first_line (place_of (count + 1) start) (drop start bytes) ≡ Ok (a, k) → Sofar bytes entry (set list count (record { line = count + 1; act = a })) (count + 1) (start + k)
sofar_more bytes entry list count start a k s h e =
    let g = good_line (length list - count) (count + 1) start (drop start bytes) a k e in
    let m = left_more bytes list count start a k h e in
    let later = left bytes (set list count (record { line = count + 1; act = a })) (count + 1) (start + k) in
    record {
      few = omega (arith, g.1);
      room = simp length-set (omega arith);
      within = omega (arith, g.2, length-drop start bytes);
      told = also_answer count a later ∙ ap (answer_from count) (sym m) ∙ s.told;
      held = also_list count list a later h ∙ ap (list_from count list) (sym m) ∙ s.held;
    }

pub sofar_bad : (bytes : List ℕ) (entry list : List Step) (count start : ℕ) (f : LineFault) → Sofar bytes entry list count start → start < length bytes → first_line (place_of (count + 1) start) (drop start bytes) ≡ Err f → (Err (Line f) ≡ answer (reading_of bytes (length entry))) × (list ≡ list_after entry (reading_of bytes (length entry)))
sofar_bad bytes entry list count start f s h e =
    let g = bad_line (length list - count) (count + 1) start (drop start bytes) f (simp length-drop (omega arith)) e in
    (ap (answer_from count) (sym g) ∙ s.told, stopped count list (Some (Line f)) ∙ ap (list_from count list) (sym g) ∙ s.held)

pub sofar_full : (bytes : List ℕ) (entry list : List Step) (count start : ℕ) (a : Act) (k : ℕ) → Sofar bytes entry list count start → count ≡ length list → first_line (place_of (count + 1) start) (drop start bytes) ≡ Ok (a, k) → (Err (Full (count + 1)) ≡ answer (reading_of bytes (length entry))) × (list ≡ list_after entry (reading_of bytes (length entry)))
sofar_full bytes entry list count start a k s h e =
    let none : eqb (length list - count) 0 ≡ true = eq-eqb _ _ (omega arith) in
    let g : left bytes list count start ≡ ends (Some (Full (count + 1))) = (good_line (length list - count) (count + 1) start (drop start bytes) a k e).0 ∙ ap (λ b. cond b (ends (Some (Full (count + 1)))) (also a (reading (length list - count - 1) ((count + 1) + 1) (start + k) (parted 10 (drop k (drop start bytes)))))) none in
    (ap (answer_from count) (sym g) ∙ s.told, stopped count list (Some (Full (count + 1))) ∙ ap (list_from count list) (sym g) ∙ s.held)

pub sofar_all : (bytes : List ℕ) (entry list : List Step) (count start : ℕ) → Sofar bytes entry list count start → length bytes ≤ start → (Ok count ≡ answer (reading_of bytes (length entry))) × (list ≡ list_after entry (reading_of bytes (length entry)))
sofar_all bytes entry list count start s h =
    let g : left bytes list count start ≡ ends None = ap (λ l. reading (length list - count) (count + 1) start (parted 10 l)) (drop_all start bytes h) in
    (ap Ok (sym (add-zero count)) ∙ ap (answer_from count) (sym g) ∙ s.told, stopped count list None ∙ ap (list_from count list) (sym g) ∙ s.held)
