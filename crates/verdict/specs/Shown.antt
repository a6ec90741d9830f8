-- Cycles and orders of the nodes of a ledger, as they are found before they are shown. Rests on Ledgers and on graphs.
use Rattle.std.specs.Prelude.{◌≡◌, ℕ, ◌≤◌, List, length, map, Option}
use Rattle.graph.specs.Edges.{Edges, Within}
use Rattle.graph.specs.Lists.{listed}
use Rattle.graph.specs.Orders.{Orders}
use Rattle.graph.specs.Outcomes.{FindsCycle}
use Rattle.graph.specs.Paths.{Relation}
use Rattle.graph.specs.Rows.{marked as marked_rows}
use Rattle.graph.specs.declared.list.NodeList.{NodeList}
use Rattle.trace.specs.declared.act.Act.{Act}
use Rattle.verdict.specs.declared.ledger.Ledger.{Ledger}
use Rattle.verdict.specs.Ledgers.{number_at, count, Keeps}

-- the numbers of the jobs at these nodes of a ledger
abbrev pub numbered : Ledger → List ℕ → List ℕ
numbered l nodes = map (number_at l) nodes

-- the edges between the nodes of a ledger
abbrev pub NodeEdges : Ledger → Relation
NodeEdges l = Edges 64 (marked_rows 64 l.into)

-- the ledger is that of some acts, and the list has a place for each of its jobs
abbrev pub Ready : Ledger → ℕ → Type 0
Ready l places = ((H : List Act) × Keeps H l) × (count l ≤ places)

-- a cycle among the nodes of the jobs that count, or none
abbrev pub NodeCycle : Ledger → Option NodeList → Type 0
NodeCycle l r = FindsCycle (Within l.kept (NodeEdges l)) r

-- the order of the nodes of the jobs that count, by number and edges
abbrev pub NodeOrder : Ledger → NodeList → Type 0
NodeOrder l r = Orders (NodeEdges l) 64 l.numbers.items l.kept (listed r) × (r.count ≤ 64) × (length r.nodes ≡ 64)
