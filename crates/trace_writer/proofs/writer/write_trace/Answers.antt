use Rattle.std.proofs.Common.{length, sym, refl, ◌∙◌}
use Rattle.trace.specs.Traces.{written}
use Rattle.trace_writer.proofs.Batches.{writing_all_says, trace_reads_back, over_front}
use Rattle.trace.proofs.Saying.{same_ok}
use Rattle.trace_writer.proofs.writer.write_trace.Goals as goal

pub returns-clause-reads_back : goal.returns-clause-reads_back
returns-clause-reads_back c =
    let acts = c.args.acts.now in
    let out = c.args.out.now in
    let said = c.in_ok-length.ensures in
    let long = (writing_all_says acts (length out) c.in_ok-length.length (sym said.answered)).0 in
    λ n e. trace_reads_back acts out c.put_lines.new.out n (said.sayable _ refl) (sym (same_ok _ _ e) ∙ long) (c.put_lines.ensures ∙ over_front (written acts) out)
