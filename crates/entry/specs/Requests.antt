-- The acts of requests. Rests on the acts of a trace.
use Rattle.std.specs.Prelude.{cond, List, [], ◌∷◌, Some, None, Option, ◌==◌}
use Rattle.trace.specs.declared.act.Act.{Act}
use Rattle.trace.specs.declared.act.Act.TheVariants.{Open, Read, Write, Commit, Abort, Peek, Retire}
use Rattle.entry.specs.declared.request.Request.{Request}

-- the act of a request, if its kind is known
abbrev pub act_of : Request → Option Act
act_of q =
    cond (q.kind == 0) (Some (Open q.job))
    (cond (q.kind == 1) (Some (Read q.job q.item q.value))
    (cond (q.kind == 2) (Some (Write q.job q.item q.value))
    (cond (q.kind == 3) (Some (Commit q.job))
    (cond (q.kind == 4) (Some (Abort q.job))
    (cond (q.kind == 5) (Some (Peek q.item q.value))
    (cond (q.kind == 6) (Some Retire) None))))))

-- an act and those behind it; where there is none, the list ends
abbrev pub begun : Option Act → List Act → List Act
begun None acts = []
begun (Some a) acts = a ∷ acts

-- the acts of the requests, up to the first of no known kind
abbrev pub known : List Request → List Act
known [] = []
known (q ∷ qs) = begun (act_of q) (known qs)
