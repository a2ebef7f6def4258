-- The answers of the code by document 01's numbers, and what a call comes to.
use Rattle.std.specs.Prelude.{ℕ, ◌/◌, ◌%◌, not, List, [], ◌∷◌, map, ◌≡◌, eqb, ltb, length, Result, Ok, Err}
use Rattle.meaning.specs.Call.{Call, Record, card64, row_bytes, record_of}
use Rattle.meaning.specs.Checks as C
use Rattle.meaning.specs.Checks.{answer, answer_at, check, first, of_records, section_limit, values_limit}
use Rattle.meaning.specs.Patch.{call, answer_of, section_of}
use Rattle.refusals.specs.Numbers.{number_of}
use Rattle.patch.specs.declared.Fault.{Fault}

-- Patched: refusal 0, the place is the number of records, and the offset 0. Refused: the number, its place and its offset.
abbrev pub answer_in : Result ℕ Fault → C.Answer
answer_in (Ok n) = answer 0 n
answer_in (Err f) = answer_at (number_of f.refusal) f.place f.offset

-- What a call of patch comes to: its answer, and what it leaves in the section.
pub record Patches (section records values : List ℕ) (address gp : ℕ) (r : Result ℕ Fault) (left : List ℕ) : Type 0 where
  pub answers : answer_in r ≡ answer_of (call section values address gp) records
  pub leaves : left ≡ section_of (call section values address gp) records section

-- The checks of the call's lengths, 1 and 2, as the meaning's list begins.
abbrev pub limit_checks : ℕ → ℕ → ℕ → List C.Check
limit_checks section records values =
    check 1 0 (ltb section_limit section) ∷
    check 1 1 (ltb card64.records_limit records) ∷
    check 1 2 (ltb values_limit values) ∷
    check 2 1 (not (eqb (records % card64.record_bytes) 0)) ∷
    check 2 2 (not (eqb (values % row_bytes) 0)) ∷
    []

-- At most 2,048 records.
abbrev pub most_records : ℕ
most_records = card64.records_limit / card64.record_bytes

-- The records of a call, cut out of the bytes already.
abbrev pub records_of_pieces : Call → List (List ℕ) → List Record
records_of_pieces c pieces = map (record_of c.setting.card c.values) pieces

-- The answer of the records' checks, where those of the call passed.
abbrev pub records_answer : Call → List (List ℕ) → C.Answer
records_answer c pieces = first (of_records c.setting 0 [] (records_of_pieces c pieces)) (answer 0 (length (records_of_pieces c pieces)))
