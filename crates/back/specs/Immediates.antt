-- What a call results in: the code's immediates by document 01's numbers.
use Rattle.std.specs.Prelude.{ℕ, List, ◌≡◌, ℤ, pos, Result, Ok, Err}
use Rattle.meaning.specs.Call.{card64}
use Rattle.meaning.specs.ReadBack as R
use Rattle.meaning.specs.ReadBack.{read_back_of}
use Rattle.refusals.specs.declared.Refusal.{Refusal}
use Rattle.refusals.specs.Numbers.{number_of}

-- Ok: refusal 0, and the number that the word holds. Err: the number of refusal, and the value is 0. The place is always 0.
abbrev pub immediate_in : Result ℤ Refusal → R.Immediate
immediate_in (Ok z) = record { number = 0; place = 0; value = z }
immediate_in (Err r) = record { number = number_of r; place = 0; value = pos 0 }

-- The result of a call: number, place and value are those that the meaning gives.
pub record ReadsBack (section : List ℕ) (address offset type : ℕ) (result : Result ℤ Refusal) : Type 0 where
  pub says : immediate_in result ≡ read_back_of card64 section address offset type
