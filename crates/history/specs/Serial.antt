-- The serial run: the jobs of an order one after another, each with its reads and writes in the order
-- in which they were granted. Rests on Conflicts.
use Rattle.std.specs.Prelude.{◌≡◌, ℕ, cond, List, [], ◌∷◌, ◌++◌, map, ◌==◌, slice_index, slice_set}
use Rattle.trace.specs.declared.act.Act.{Act}
use Rattle.history.specs.Conflicts.{Access, accesses}

-- what a job asks for, with no answer in it: to read an item, or to write a value to it
pub data Request : Type 0 where
  read : ℕ → Request
  write : ℕ → ℕ → Request

abbrev pub request : Access → Request
request a = cond a.writes (write a.item a.value) (read a.item)

-- what a serial run comes to: the answers of its reads in their order, and the contents at its end
pub record Outcome : Type 0 where
  pub answers : List ℕ
  pub contents : List ℕ

abbrev answered : ℕ → Outcome → Outcome
answered v o = record { answers = v ∷ o.answers; contents = o.contents }

-- requests carried out one after another: a read is answered by what the item holds, a write replaces
-- that
abbrev pub serial : List ℕ → List Request → Outcome
serial values [] = record { answers = []; contents = values }
serial values (read x ∷ s) = answered (slice_index values x) (serial values s)
serial values (write x v ∷ s) = serial (slice_set values x v) s

-- the accesses of one job, in their order
abbrev pub of_job : ℕ → List Access → List Access
of_job j [] = []
of_job j (a ∷ s) = cond (a.job == j) (a ∷ of_job j s) (of_job j s)

-- the accesses of each job of an order in turn
abbrev pub in_order : List ℕ → List Access → List Access
in_order [] s = []
in_order (j ∷ order) s = of_job j s ++ in_order order s

-- the values that the reads among some accesses answered
abbrev pub values_read : List Access → List ℕ
values_read [] = []
values_read (a ∷ s) = cond a.writes (values_read s) (a.value ∷ values_read s)

-- the order, run serially from the opening contents, answers each read as it was answered, and ends
-- with these contents
abbrev pub RunsSerially : List ℕ → List Act → List ℕ → List ℕ → Type 0
RunsSerially opening H order ending =
    let s = in_order order (accesses H) in
    serial opening (map request s) ≡ record { answers = values_read s; contents = ending }
