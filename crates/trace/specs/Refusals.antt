-- The numbers of causes, fields and refusals. Rests on nothing.
use Rattle.std.specs.Prelude.{ℕ}
use Rattle.trace.specs.declared.fault.NumberFault.TheVariants.{AboveLimit, NotANumber}
use Rattle.trace.specs.declared.fault.Column.{Column}
use Rattle.trace.specs.declared.fault.Column.TheVariants.{Job, Item, Value}
use Rattle.trace.specs.declared.fault.FieldFault.TheVariants.{NoKind, Number, Empty, Filled}
use Rattle.trace.specs.declared.fault.LineCause.{LineCause}
use Rattle.trace.specs.declared.fault.LineCause.TheVariants.{Unended, FewFields, ManyFields, Field}
use Rattle.trace.specs.declared.fault.ReadRefusal.{ReadRefusal}
use Rattle.trace.specs.declared.fault.ReadRefusal.TheVariants.{Line, Full}
use Rattle.trace.specs.declared.fault.WriteRefusal.{WriteRefusal}
use Rattle.trace.specs.declared.fault.WriteRefusal.TheVariants.{ItemAboveLimit, DoesNotFit}

-- the number of a field; the kind is field 1
abbrev pub column_number : Column → ℕ
column_number Job = 2
column_number Item = 3
column_number Value = 4

-- why a line is not read
abbrev pub cause_of : LineCause → ℕ
cause_of Unended = 1
cause_of FewFields = 2
cause_of ManyFields = 3
cause_of (Field NoKind) = 4
cause_of (Field (Number column AboveLimit)) = 5
cause_of (Field (Number column NotANumber)) = 6
cause_of (Field (Empty column)) = 7
cause_of (Field (Filled column)) = 8

-- the field that a cause speaks of, and 0 where it speaks of the whole line
abbrev pub field_of : LineCause → ℕ
field_of Unended = 0
field_of FewFields = 0
field_of ManyFields = 0
field_of (Field NoKind) = 1
field_of (Field (Number column fault)) = column_number column
field_of (Field (Empty column)) = column_number column
field_of (Field (Filled column)) = column_number column

-- the numbers of the reader's refusals
abbrev pub read_number : ReadRefusal → ℕ
read_number (Line fault) = 9
read_number (Full line) = 13

-- the numbers of the writer's refusals
abbrev pub write_number : WriteRefusal → ℕ
write_number (ItemAboveLimit item) = 5
write_number (DoesNotFit length) = 14
