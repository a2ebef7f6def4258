-- What a run results in: the code's answers by document 02's numbers.
use Rattle.std.specs.Prelude.{ℕ, ◌/◌, List, ◌≡◌, Option, None, Some, Result, Ok, Err, cond, ltb, length}
use Rattle.std.proofs.Math.Option as O
use Rattle.meaning.specs.Executor as E
use Rattle.meaning.specs.Executor.{Instruction, result, ran, run_of}
use Rattle.refusals.specs.declared.Refused.{Refused}
use Rattle.refusals.specs.Numbers.{number_of}

-- Ended: refusal 0, and the number of words. Refused: the number of refusal and its place. With the registers that come back.
abbrev pub ran_in : Result ℕ Refused → List ℕ → E.Ran
ran_in (Ok n) registers = ran 0 n registers
ran_in (Err r) registers = ran (number_of r.refusal) r.place registers

-- What a run answers, and what it leaves in the registers.
pub record Runs (run : List ℕ) (start : ℕ) (registers : List ℕ) (r : Result ℕ Refused) (left : List ℕ) : Type 0 where
  pub says : ran_in r left ≡ run_of run start registers

-- What a word comes to: what its instruction writes to rd, or that it is none.
abbrev pub outcome_of : O.Option Instruction → ℕ → ℕ → List ℕ → Option ℕ
outcome_of O.none pc word registers = None
outcome_of (O.some i) pc word registers = Some (result i pc word registers)

-- What a run comes to of which so many bytes were carried out: all, or those before a word that is none of the six.
abbrev pub carried_out : List ℕ → ℕ → List ℕ → E.Ran
carried_out run done registers = ran (cond (ltb done (length run)) 19 0) (done / 4) registers
