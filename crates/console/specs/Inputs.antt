-- The trace of an input. Rests on the reading of traces.
use Rattle.std.specs.Prelude.{◌≡◌, ℕ, List, Some, None, Ok, Err, Result, vec_items}
use Rattle.std.specs.declared.vec.Vec.{Vec}
use Rattle.std.specs.declared.alloc.Global.{Global}
use Rattle.trace.specs.declared.act.Step.{Step}
use Rattle.trace.specs.declared.fault.ReadRefusal.{ReadRefusal}
use Rattle.trace.specs.Traces.{Reading, reading_of_input, numbered}

-- the reading of an input, with place for 1,024 steps
abbrev pub read : List ℕ → Reading
read bytes = reading_of_input bytes 1024

-- the steps that were read, with their lines
abbrev pub steps_of : Reading → List Step
steps_of r = numbered 1 r.acts

-- the steps of all lines of the input, or why it is refused
abbrev pub IsTrace : List ℕ → Result (Vec Step Global) ReadRefusal → Type 0
IsTrace bytes (Ok steps) = ((read bytes).stop ≡ None) × (vec_items steps ≡ steps_of (read bytes))
IsTrace bytes (Err why) = (read bytes).stop ≡ Some why
