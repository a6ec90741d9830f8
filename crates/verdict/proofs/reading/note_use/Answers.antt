use Rattle.std.proofs.Common.{sym, subst}
use Rattle.verdict.proofs.Marks.{Noted, distinct_apart}
use Rattle.verdict.proofs.Drawing.{noted_hit, noted_miss}
use Rattle.verdict.specs.declared.users.Access.TheVariants.{Read as Reads, Write as Writes}
use Rattle.verdict.proofs.reading.note_use.Goals as goal

pub returns-in-Some : goal.returns-in-Some
returns-in-Some c =
    let jobs = c.args.ledger.now.numbers.items in
    let at = c.in-Some.ensures.found in
    subst (Noted jobs c.args.item c.args.users.now c.note.new.self) (sym c.in-Read.is)
    (noted_hit Reads jobs c.args.item c.args.users.now c.note.new.self c.in-Some.node c.in-Read.job c.in-Read.used _
    (distinct_apart jobs c.requires) at.0 at.1 c.if-used-item.true c.note.ensures)

pub returns-in_default : goal.returns-in_default
returns-in_default c =
    let jobs = c.args.ledger.now.numbers.items in
    subst (Noted jobs c.args.item c.args.users.now c.args.users.now) (sym c.in-Read.is)
    (noted_miss Reads jobs c.args.item c.args.users.now c.in-Read.job c.in-Read.used _ (λ p b e _. c.in_default.ensures.found p b e))

pub returns-else-used-item : goal.returns-else-used-item
returns-else-used-item c =
    let jobs = c.args.ledger.now.numbers.items in
    subst (Noted jobs c.args.item c.args.users.now c.args.users.now) (sym c.in-Read.is)
    (noted_miss Reads jobs c.args.item c.args.users.now c.in-Read.job c.in-Read.used _ (λ p b _ e. c.if-used-item.false e))

pub returns-in-Some-find : goal.returns-in-Some-find
returns-in-Some-find c =
    let jobs = c.args.ledger.now.numbers.items in
    let at = c.in-Some-find.ensures.found in
    subst (Noted jobs c.args.item c.args.users.now c.note-in-Some-find.new.self) (sym c.in-Write.is)
    (noted_hit Writes jobs c.args.item c.args.users.now c.note-in-Some-find.new.self c.in-Some-find.node c.in-Write.job c.in-Write.used _
    (distinct_apart jobs c.requires) at.0 at.1 c.if-used-item-2.true c.note-in-Some-find.ensures)

pub returns-in_default-find : goal.returns-in_default-find
returns-in_default-find c =
    let jobs = c.args.ledger.now.numbers.items in
    subst (Noted jobs c.args.item c.args.users.now c.args.users.now) (sym c.in-Write.is)
    (noted_miss Writes jobs c.args.item c.args.users.now c.in-Write.job c.in-Write.used _ (λ p b e _. c.in_default-find.ensures.found p b e))

pub returns-else-used-item-2 : goal.returns-else-used-item-2
returns-else-used-item-2 c =
    let jobs = c.args.ledger.now.numbers.items in
    subst (Noted jobs c.args.item c.args.users.now c.args.users.now) (sym c.in-Write.is)
    (noted_miss Writes jobs c.args.item c.args.users.now c.in-Write.job c.in-Write.used _ (λ p b _ e. c.if-used-item-2.false e))
