-- What a C caller is handed, as document 01's number, place, offset and value, and what each call comes to.
use Rattle.std.specs.Prelude.{ℕ, List, ◌≡◌}
use Rattle.meaning.specs.Call.{card64}
use Rattle.meaning.specs.Checks.{Answer, answer_at}
use Rattle.meaning.specs.Patch.{call, answer_of, section_of}
use Rattle.meaning.specs.ReadBack.{Immediate, read_back_of}
use Rattle.rofteluvi.specs.declared.RofteluviAnswer.{RofteluviAnswer}
use Rattle.meaning.specs.Executor.{Ran, ran, run_of}
use Rattle.rofteluvi.specs.declared.RofteluviImmediate.{RofteluviImmediate}
use Rattle.rofteluvi.specs.declared.RofteluviRan.{RofteluviRan}

abbrev pub answer_in : RofteluviAnswer → Answer
answer_in r = answer_at r.number r.place r.offset

abbrev pub immediate_in : RofteluviImmediate → Immediate
immediate_in r = record { number = r.number; place = r.place; value = r.value }

-- With the registers that it leaves.
abbrev pub ran_in : RofteluviRan → List ℕ → Ran
ran_in r registers = ran r.number r.place registers

-- A call of patch: its answer, and what it leaves in the section.
pub record Patches (section records values : List ℕ) (address gp : ℕ) (r : RofteluviAnswer) (left : List ℕ) : Type 0 where
  pub says : answer_in r ≡ answer_of (call section values address gp) records
  pub leaves : left ≡ section_of (call section values address gp) records section

-- A call of read back: its answer.
pub record ReadsBack (section : List ℕ) (address offset type : ℕ) (r : RofteluviImmediate) : Type 0 where
  pub says : immediate_in r ≡ read_back_of card64 section address offset type

-- A call of run: its answer, and what it leaves in the registers.
pub record Runs (run : List ℕ) (start : ℕ) (registers : List ℕ) (r : RofteluviRan) (left : List ℕ) : Type 0 where
  pub says : ran_in r left ≡ run_of run start registers
