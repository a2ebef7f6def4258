-- What reading answers, with the buffers, as the meaning has it.
use Rattle.std.specs.Prelude.{cond, List, [], ◌≡◌, ℕ, ◌+◌, ◌/◌, ◌≤◌, eqb, ltb, length, take, drop, Option, Some, None, Result, Ok, Err}
use Rattle.meaning.specs.Call.{card64}
use Rattle.meaning.specs.Checks.{answer, section_limit, values_limit}
use Rattle.meaning.specs.Frames.{numeral, bytes_in, Input, Reading}
use Rattle.refusals.specs.Numbers.{number_of}
use Rattle.frames.specs.declared.Gathered.{Gathered}
use Rattle.frames.specs.declared.Fault.{Fault}

-- The two numbers, and what stands in the used part of each buffer.
abbrev pub input_in : Gathered → List ℕ → List ℕ → List ℕ → Input
input_in r section values records =
    record {
      address = r.address;
      gp = r.gp;
      section = take r.section section;
      values = take r.values values;
      records = take r.records records;
    }

-- What was gathered, also before a fault.
abbrev pub gathered_in : Result Gathered Fault → Gathered
gathered_in (Ok got) = got
gathered_in (Err fault) = fault.gathered

abbrev pub reading_in : Result Gathered Fault → List ℕ → List ℕ → List ℕ → Reading
reading_in (Ok got) section values records = record { refusal = answer 0 0; input = input_in got section values records }
reading_in (Err fault) section values records =
    record { refusal = answer (number_of fault.refused.refusal) fault.refused.place; input = input_in fault.gathered section values records }

-- The first n bytes of a buffer of `limit` bytes were written, and the others are as they came.
pub record Filled (limit n : ℕ) (came is : List ℕ) : Type 0 where
  pub whole : length is ≡ limit
  pub within : n ≤ limit
  pub kept : drop n is ≡ drop n came

-- No buffer is past its limit, by how many bytes the section, the values and the records have.
pub record Within (s v q : ℕ) : Type 0 where
  pub section : s ≤ section_limit
  pub values : v ≤ values_limit
  pub records : q ≤ card64.records_limit

-- The place of the first buffer past its limit, by how many bytes they would have.
abbrev pub over_in : ℕ → ℕ → ℕ → Option ℕ
over_in section values records =
    cond (ltb section_limit section) (Some 0) (cond (ltb card64.records_limit records) (Some 1) (cond (ltb values_limit values) (Some 2) None))

-- The bytes that a frame, by its kind and the digits of its bytes, has for the buffer of the kind `mine`.
abbrev pub own : ℕ → ℕ → List ℕ → List ℕ
own kind mine digits = cond (eqb kind mine) (bytes_in digits) []

-- What is gathered with a frame more: its two numbers, or so many bytes more in its own buffer.
abbrev pub gathered_with : ℕ → List ℕ → Gathered → Gathered
gathered_with kind digits r =
    record {
      address = cond (eqb kind 1) (numeral 0 (take 16 digits)) r.address;
      gp = cond (eqb kind 1) (numeral 0 (take 16 (drop 16 digits))) r.gp;
      section = r.section + cond (eqb kind 2) (length digits / 2) 0;
      values = r.values + cond (eqb kind 3) (length digits / 2) 0;
      records = r.records + cond (eqb kind 4) (length digits / 2) 0;
    }
