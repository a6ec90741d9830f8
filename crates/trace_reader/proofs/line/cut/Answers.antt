use Rattle.trace_reader.proofs.Cutting.{found, not_found, cut_front, cut_back, uncut_front, uncut_back}
use Rattle.trace_reader.proofs.line.cut.Goals as goal

pub returns-in-Some : goal.returns-in-Some
returns-in-Some c =
    let end = (found 44 c.args.bytes.now c.in-Some.end c.in-Some.ensures).0 in
    record { front = cut_front 44 c.args.bytes.now _ end; back = cut_back 44 c.args.bytes.now _ end }

pub returns-in-None : goal.returns-in-None
returns-in-None c =
    let end = not_found 44 c.args.bytes.now c.in-None.ensures in
    record { front = uncut_front 44 c.args.bytes.now end; back = uncut_back 44 c.args.bytes.now end }
