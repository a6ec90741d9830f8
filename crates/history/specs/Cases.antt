-- Worked examples, each named by what it shows: calls with their answers on a hub of 32 slots whose first
-- job gets the number 1, and traces with an order or a cycle of their jobs. Rests on Runs and Conflicts.
use Rattle.std.specs.Prelude.{ℕ, zero, suc, List, [], ◌∷◌, ◌++◌, replicate}
use Rattle.graph.specs.Paths.{Distinct, Linked}
use Rattle.trace.specs.declared.act.Act.{Act}
use Rattle.trace.specs.declared.act.Act.TheVariants.{Open, Read, Write}
use Rattle.history.specs.declared.refusal.Refusal.TheVariants.{TableFull, NotPresent, ItemNotServed, ItemHeld, ClosesCycle, NoRoom}
use Rattle.history.specs.Acts.{not_aborted}
use Rattle.history.specs.Conflicts.{Edge, SerialOrder}
use Rattle.history.specs.Machine.{State, made, Call, begin, read, write, commit, abort, retire, peek, Answer, answered, done, wrote, refused}
use Rattle.history.specs.Runs.{Turn, Runs}

pub data Case : Type 0 where
  -- on a store with these values and this room, these calls have these answers
  played : List ℕ → ℕ → List Turn → Case
  -- the jobs of the trace that are not aborted have this serial order
  in_order : List Act → List ℕ → Case
  -- a cycle of the trace's jobs leads from the first through the others and back
  in_cycle : List Act → ℕ → List ℕ → Case

abbrev pub Holds : Case → Type 0
Holds (played values room turns) = (t : State) × Runs (made 32 1 values room) turns t
Holds (in_order H order) = SerialOrder not_aborted H order
Holds (in_cycle H j js) = Distinct (j ∷ js) × Linked (Edge not_aborted H) (j ∷ js ++ j ∷ [])

abbrev pub AllHold : List Case → Type 0
AllHold [] = Unit {0}
AllHold (c ∷ cs) = Holds c × AllHold cs

infix 68 ◌⇒◌
abbrev pub ◌⇒◌ : Call → Answer → Turn
c ⇒ a = record { call = c; answer = a }

-- n jobs opened, with numbers from a
abbrev opens : ℕ → ℕ → List Turn
opens a zero = []
opens a (suc n) = begin ⇒ answered a ∷ opens (suc a) n

abbrev zeros : List ℕ
zeros = replicate 64 0

abbrev plenty : ℕ
plenty = 4294967295

-- job 2 overwrites what job 1 has read, and commits first
abbrev overwritten_read : List Turn
overwritten_read =
    begin ⇒ answered 1
    ∷ begin ⇒ answered 2
    ∷ read 1 0 ⇒ answered 0
    ∷ write 2 0 7 ⇒ done
    ∷ read 1 0 ⇒ refused (ItemHeld 2)
    ∷ commit 2 ⇒ done
    ∷ []

abbrev pub retires_by_edges_not_by_commits : Case
retires_by_edges_not_by_commits =
    played zeros plenty
    (overwritten_read
    ++ write 1 1 5 ⇒ done
    ∷ retire 32 ⇒ wrote []
    ∷ commit 1 ⇒ done
    ∷ retire 32 ⇒ wrote (1 ∷ 2 ∷ [])
    ∷ peek 0 ⇒ answered 7
    ∷ [])

abbrev pub reading_again_after_overwrite_is_refused : Case
reading_again_after_overwrite_is_refused =
    played zeros plenty
    (overwritten_read ++ read 1 0 ⇒ refused ClosesCycle ∷ read 1 0 ⇒ refused NotPresent ∷ [])

abbrev pub write_skew_is_refused : Case
write_skew_is_refused =
    played zeros plenty
    (begin ⇒ answered 1
    ∷ begin ⇒ answered 2
    ∷ read 1 0 ⇒ answered 0
    ∷ read 1 1 ⇒ answered 0
    ∷ read 2 0 ⇒ answered 0
    ∷ read 2 1 ⇒ answered 0
    ∷ write 1 0 1 ⇒ done
    ∷ write 2 1 1 ⇒ refused ClosesCycle
    ∷ [])

abbrev pub no_path_leads_through_an_aborted_job : Case
no_path_leads_through_an_aborted_job =
    played zeros plenty
    (begin ⇒ answered 1
    ∷ begin ⇒ answered 2
    ∷ begin ⇒ answered 3
    ∷ read 1 0 ⇒ answered 0
    ∷ write 2 0 4 ⇒ done
    ∷ read 2 1 ⇒ answered 0
    ∷ write 3 1 9 ⇒ done
    ∷ abort 2 ⇒ done
    ∷ commit 3 ⇒ done
    ∷ read 1 1 ⇒ answered 9
    ∷ [])

abbrev pub two_writes_of_one_item_need_one_record : Case
two_writes_of_one_item_need_one_record =
    played (0 ∷ 0 ∷ []) 1
    (begin ⇒ answered 1 ∷ write 1 0 3 ⇒ done ∷ write 1 0 4 ⇒ done ∷ commit 1 ⇒ done ∷ peek 0 ⇒ answered 4 ∷ [])

abbrev pub writes_of_two_items_need_two_records : Case
writes_of_two_items_need_two_records =
    played (0 ∷ 0 ∷ []) 1
    (begin ⇒ answered 1
    ∷ write 1 0 3 ⇒ done
    ∷ write 1 0 4 ⇒ done
    ∷ write 1 1 5 ⇒ done
    ∷ commit 1 ⇒ refused NoRoom
    ∷ read 1 1 ⇒ answered 5
    ∷ [])

abbrev pub a_hub_over_no_items_serves_none : Case
a_hub_over_no_items_serves_none =
    played [] plenty (begin ⇒ answered 1 ∷ read 1 0 ⇒ refused ItemNotServed ∷ [])

abbrev pub a_full_table_takes_a_job_when_one_is_gone : Case
a_full_table_takes_a_job_when_one_is_gone =
    played zeros plenty
    (opens 1 32 ++ begin ⇒ refused TableFull ∷ abort 1 ⇒ done ∷ begin ⇒ answered 33 ∷ [])

abbrev pub a_job_sees_its_own_write_and_peek_does_not : Case
a_job_sees_its_own_write_and_peek_does_not =
    played zeros plenty
    (begin ⇒ answered 1 ∷ write 1 0 5 ⇒ done ∷ read 1 0 ⇒ answered 5 ∷ peek 0 ⇒ answered 0 ∷ [])

abbrev pub none_retires_into_no_places : Case
none_retires_into_no_places =
    played zeros plenty
    (begin ⇒ answered 1 ∷ commit 1 ⇒ done ∷ retire 0 ⇒ wrote [] ∷ retire 32 ⇒ wrote (1 ∷ []) ∷ [])

abbrev pub the_empty_trace_has_the_empty_order : Case
the_empty_trace_has_the_empty_order = in_order [] []

-- the last write hides the others, so some serial order has the same effect; none keeps the conflicts
abbrev pub blind : List Act
blind =
    Open 1
    ∷ Open 2
    ∷ Open 3
    ∷ Read 1 0 0
    ∷ Write 2 0 2
    ∷ Write 1 0 1
    ∷ Write 3 0 3
    ∷ []

abbrev pub a_blind_write_mends_no_cycle : Case
a_blind_write_mends_no_cycle = in_cycle blind 1 (2 ∷ [])

abbrev pub cases : List Case
cases =
    retires_by_edges_not_by_commits
    ∷ reading_again_after_overwrite_is_refused
    ∷ write_skew_is_refused
    ∷ no_path_leads_through_an_aborted_job
    ∷ two_writes_of_one_item_need_one_record
    ∷ writes_of_two_items_need_two_records
    ∷ a_hub_over_no_items_serves_none
    ∷ a_full_table_takes_a_job_when_one_is_gone
    ∷ a_job_sees_its_own_write_and_peek_does_not
    ∷ none_retires_into_no_places
    ∷ the_empty_trace_has_the_empty_order
    ∷ a_blind_write_mends_no_cycle
    ∷ []

-- all worked examples hold
abbrev pub WorkedExamples : Type 0
WorkedExamples = AllHold cases
