use Rattle.std.proofs.Common.{ℕ, List, Some, None, is_some, arith}
use Rattle.graph.specs.Edges.{Edges}
use Rattle.graph.specs.Outcomes.{Finds}
use Rattle.graph.specs.Rows.{marked}
use Rattle.scheduler.proofs.Draws.{TellsPath, cycle_told}
use Rattle.scheduler.proofs.stepping.closes_cycle.Goals as goal

-- whether a path was found
tells_path : (rows : List ℕ) (k : ℕ) (o : _) → Finds (Edges 32 (marked 32 rows)) k k o → TellsPath rows k (is_some o)
tells_path rows k None h = h
tells_path rows k (Some l) h = h.0

pub returns : goal.returns
returns c =
    rw c.is_some.ensures
    (cycle_told c.args.rows.now c.draw.new.rows c.args.slot c.args.from (omega arith) c.draw.ensures _ (tells_path c.draw.new.rows c.args.slot c.find_path.result c.find_path.ensures))
