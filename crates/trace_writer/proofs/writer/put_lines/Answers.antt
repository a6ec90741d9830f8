use Rattle.std.proofs.Common.{length, ap, ◌∙◌, arith}
use Rattle.trace_writer.proofs.Batches.{laid_more, put_over}
use Rattle.trace_writer.proofs.writer.put_lines.Goals as goal

pub loop-act-preserved : goal.loop-act-preserved
loop-act-preserved c =
    let long = c.len.ensures.value ∙ ap length c.line-line.ensures.value in
    laid_more c.args.acts.now c.args.out.now c.loop-act.out _ c.loop-act.act-index c.loop-act.place c.len.result c.loop-act.invariant c.loop-act-test.true long
    (put_over c.loop-act.out _ c.copy_from_slice.new.self c.loop-act.place _ (c.copy_from_slice.ensures.after ∙ c.deref.ensures.0 ∙ c.line-line.ensures.value) (omega arith))
