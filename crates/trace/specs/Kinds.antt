-- The kinds of act and their letters. Rests on nothing.
use Rattle.std.specs.Prelude.{ℕ, cond, Some, None, Option, ◌==◌}
use Rattle.trace.specs.declared.kind.Kind.{Kind}
use Rattle.trace.specs.declared.kind.Kind.TheVariants.{Open, Read, Write, Commit, Abort, Peek, Retire}

-- the letter of a kind: O, R, W, C, A, P or T
abbrev pub letter : Kind → ℕ
letter Open = 79
letter Read = 82
letter Write = 87
letter Commit = 67
letter Abort = 65
letter Peek = 80
letter Retire = 84

-- the kind whose letter this is
abbrev pub kind_of : ℕ → Option Kind
kind_of c =
    cond (c == letter Open) (Some Open)
    (cond (c == letter Read) (Some Read)
    (cond (c == letter Write) (Some Write)
    (cond (c == letter Commit) (Some Commit)
    (cond (c == letter Abort) (Some Abort)
    (cond (c == letter Peek) (Some Peek)
    (cond (c == letter Retire) (Some Retire)
    None))))))
