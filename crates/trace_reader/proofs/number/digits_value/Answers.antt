use Rattle.std.proofs.Common.{get_or, arith}
use Rattle.std.proofs.lemmas.Int.Digits.{digits_more, digits_value_more}
use Rattle.trace_reader.proofs.Figures.{digit_below, no_value, all_value}
use Rattle.trace_reader.proofs.number.digits_value.Goals.{then-b-lt48-via-then-b-lt48, then-b-lt48-via-else-b-lt48+then-b-gt57}
use Rattle.trace_reader.proofs.number.digits_value.Goals as goal

pub returns-then-b-lt48 : goal.returns-then-b-lt48
returns-then-b-lt48 c =
    elim c.then-b-lt48.branch [
      | then-b-lt48-via-then-b-lt48 w ↦ no_value c.args.digits.now c.loop-b.b-index c.loop-b-test.true (λ h. omega (arith, w.if-b-lt48.true))
      | then-b-lt48-via-else-b-lt48+then-b-gt57 w ↦ no_value c.args.digits.now c.loop-b.b-index c.loop-b-test.true (λ h. omega (arith, w.if-b-gt57.true))
    ]

pub loop-b-preserved : goal.loop-b-preserved
loop-b-preserved c =
    let digit = digit_below (get_or c.args.digits.now c.loop-b.b-index 0) (c.if-b-lt48.false, c.if-b-gt57.false) in (
      digits_more 10 c.args.digits.now c.loop-b.b-index c.loop-b-test.true c.loop-b.invariant.0 (omega arith),
      omega (arith, digits_value_more 10 c.args.digits.now c.loop-b.b-index c.loop-b-test.true),
    )

pub returns : goal.returns
returns c =
    all_value c.args.digits.now c.loop-b.total c.loop-b.b-index c.loop-b-test.false c.loop-b.invariant.0 c.loop-b.invariant.1
