use Rattle.std.proofs.Common.{◌≡◌, ◌+◌, ◌-◌, ◌<◌, [], length, reverse}
use Rattle.graph.specs.Search.{depth_of, way_before}
use Rattle.graph.proofs.path.Found.way_to.Given as goal

abbrev pub invariant-loop : goal.invariant-loop
invariant-loop l = record {
  pushed : length l.way.items ≡ l.counter;
  inside : l.at < 64;
  way : way_before l.self (l.end - l.counter) l.at (reverse l.way.items) ≡ way_before l.self (depth_of l.self l.node + 1) l.node [];
}
