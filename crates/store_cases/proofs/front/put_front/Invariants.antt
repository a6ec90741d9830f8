use Rattle.store_cases.proofs.Fronts.{Front}
use Rattle.store_cases.proofs.front.put_front.Given as goal

abbrev pub invariant-loop-item : goal.invariant-loop-item
invariant-loop-item g l =
    let s = g.S.Store in
    Front (s.values l.initial.store) l.front (s.room l.initial.store) l.item (s.values l.store) (s.room l.store)
