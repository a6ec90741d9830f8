use Rattle.std.proofs.Common.{◌≡◌, ℕ, ◌+◌, List, length, Result, sym, subst₂, arith}
use Rattle.trace.specs.declared.act.Step.{Step}
use Rattle.trace.specs.declared.fault.ReadRefusal.{ReadRefusal}
use Rattle.trace_reader.proofs.Laws.{first_bad_line_decides, reads_what_was_written, writes_back}
use Rattle.std.proofs.lemmas.Result.{err_from_is_err_and}
use Rattle.trace.specs.Traces.{place_of, answer, reading_of, list_after}
use Rattle.trace_reader.specs.Laws.{FirstBadLineDecides, ReadsWhatWasWritten, WritesBack}
use Rattle.trace_reader.proofs.Progress.{part_line, line_within, sofar_more, sofar_bad, sofar_full, sofar_all}
use Rattle.trace_reader.proofs.reader.read_trace.Goals as goal

-- the laws of the outcome, said of what the code answers and leaves
kept : (bytes : List ℕ) (entry exit : List Step) (r : Result ℕ ReadRefusal) → r ≡ answer (reading_of bytes (length entry)) → exit ≡ list_after entry (reading_of bytes (length entry)) → record {
  answered : r ≡ answer (reading_of bytes (length entry));
  listed : exit ≡ list_after entry (reading_of bytes (length entry));
  first_bad_line_decides : FirstBadLineDecides bytes entry exit r;
  reads_what_was_written : ReadsWhatWasWritten bytes entry exit r;
  writes_back : WritesBack bytes exit r;
}
kept bytes entry exit r e l = record {
  answered = e;
  listed = l;
  first_bad_line_decides = subst₂ (FirstBadLineDecides bytes entry) (sym l) (sym e) (first_bad_line_decides bytes entry);
  reads_what_was_written = subst₂ (ReadsWhatWasWritten bytes entry) (sym l) (sym e) (reads_what_was_written bytes entry);
  writes_back = subst₂ (WritesBack bytes) (sym l) (sym e) (writes_back bytes entry);
}

pub returns-in_err-act : goal.returns-in_err-act
returns-in_err-act c =
    let p = err_from_is_err_and c.from_residual.result c.from_residual.ensures.1 in
    let e = part_line (place_of (c.loop-start.count + 1) c.loop-start.start) c.args.bytes.now c.loop-start.start _ c.in_err-act.ensures in
    let s = sofar_bad c.args.bytes.now c.args.steps.now c.loop-start.steps c.loop-start.count c.loop-start.start _ c.loop-start.invariant c.loop-start-test.true e in
    kept c.args.bytes.now c.args.steps.now _ _ (rw (p.1, p.2) s.0) s.1

pub returns-then-count-steps : goal.returns-then-count-steps
returns-then-count-steps c =
    let e = part_line (place_of (c.loop-start.count + 1) c.loop-start.start) c.args.bytes.now c.loop-start.start _ c.in_ok-act.ensures in
    let s = sofar_full c.args.bytes.now c.args.steps.now c.loop-start.steps c.loop-start.count c.loop-start.start _ _ c.loop-start.invariant c.if-count-steps.true e in
    kept c.args.bytes.now c.args.steps.now _ _ s.0 s.1

pub overflow_add-start : goal.overflow_add-start
overflow_add-start c =
    let e = part_line (place_of (c.loop-start.count + 1) c.loop-start.start) c.args.bytes.now c.loop-start.start _ c.in_ok-act.ensures in
    omega (arith, line_within _ _ _ _ _ e c.loop-start.invariant.within)

pub loop-start-smaller : goal.loop-start-smaller
loop-start-smaller c =
    let e = part_line (place_of (c.loop-start.count + 1) c.loop-start.start) c.args.bytes.now c.loop-start.start _ c.in_ok-act.ensures in
    omega (arith, line_within _ _ _ _ _ e c.loop-start.invariant.within)

pub loop-start-preserved : goal.loop-start-preserved
loop-start-preserved c =
    let e = part_line (place_of (c.loop-start.count + 1) c.loop-start.start) c.args.bytes.now c.loop-start.start _ c.in_ok-act.ensures in
    sofar_more c.args.bytes.now c.args.steps.now c.loop-start.steps c.loop-start.count c.loop-start.start _ _ c.loop-start.invariant (omega arith) e

pub returns : goal.returns
returns c =
    let s = sofar_all c.args.bytes.now c.args.steps.now c.loop-start.steps c.loop-start.count c.loop-start.start c.loop-start.invariant c.loop-start-test.false in
    kept c.args.bytes.now c.args.steps.now _ _ s.0 s.1
