use Rattle.std.proofs.Common.{◌≡◌, ◌==◌, rules, arith}
use Rattle.std.specs.List.{count_by}
use Rattle.trace_reader.proofs.Cutting.{pieces}
use Rattle.trace_reader.proofs.line.count_fields.Goals as goal

pub returns : goal.returns
returns c =
    let e : c.count.result ≡ count_by (λ b. b == 44) c.args.line.now = search rules in
    omega (arith, pieces 44 c.args.line.now)
