-- How large the numbers of a line may be. Rests on nothing.
use Rattle.std.specs.Prelude.{ℕ}
use Rattle.trace.specs.declared.fault.Column.{Column}
use Rattle.trace.specs.declared.fault.Column.TheVariants.{Job, Item, Value}

-- the largest number that a field may hold
abbrev pub limit : Column → ℕ
limit Job = 4294967295
limit Item = 63
limit Value = 4294967295
