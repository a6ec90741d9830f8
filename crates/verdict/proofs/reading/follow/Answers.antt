use Rattle.verdict.proofs.Ledgers.{takes_still}
use Rattle.verdict.proofs.reading.follow.Goals as goal

pub returns-in-Peek : goal.returns-in-Peek
returns-in-Peek c = takes_still _ _ _ c.requires c.in-Peek.is

pub returns-in-Peek-2 : goal.returns-in-Peek-2
returns-in-Peek-2 c = takes_still _ _ _ c.requires c.in-Peek.is
