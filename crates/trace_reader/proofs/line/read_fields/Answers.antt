use Rattle.std.proofs.Common.{◌≡◌, get_or, Some, rules}
use Rattle.std.proofs.lemmas.List.{take_rest}
use Rattle.trace.specs.Kinds.{kind_of}
use Rattle.trace_reader.proofs.Fields.{no_kind_short, kind_named}
use Rattle.trace_reader.proofs.line.read_fields.Goals as goal

pub returns-in_default : goal.returns-in_default
returns-in_default c = search (rules, no_kind_short)

pub returns : goal.returns
returns c =
    let e : kind_of (get_or c.args.line.now 0 0) ≡ Some c.in_ok-kind.kind = search rules in
    let comma : get_or c.args.line.now 1 0 ≡ 44 = search rules in
    let h = kind_named c.args.line.now c.in_ok-kind.kind c.requires comma e in
    let r = take_rest c.args.line.now 2 in
    cc (c.cut.ensures.front, c.cut.ensures.back, c.cut-2.ensures.front, c.cut-2.ensures.back, c.act_of.ensures)
