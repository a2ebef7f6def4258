-- The refusals of a value and of the masks, by numbers.
use Rattle.std.specs.Prelude.{ℕ, ◌/◌, ◌%◌, ◌^◌, cond, not, List, eqb, ltb, Result}
use Rattle.meaning.specs.Call.{mask}
use Rattle.meaning.specs.Checks.{Answer}
use Rattle.refusals.specs.Numbers.{answer_of_checks}
use Rattle.refusals.specs.declared.Refused.{Refused}

-- The value of a mask bit at a row, or its refusal: 6 for a symbol past the rows, 7 where the value is absent, else 0.
abbrev pub refusal_at : List ℕ → ℕ → ℕ → ℕ → ℕ
refusal_at row bit rows symbol = cond (ltb rows symbol) 6 (cond (not (eqb (mask row / 2 ^ bit % 2) 1)) 7 0)

-- Where the masks fit: no refusal. Else refusal 3, and its place is the row.
abbrev pub masks_answer : {A : Type 0} → Result A Refused → Answer
masks_answer checked = answer_of_checks checked
