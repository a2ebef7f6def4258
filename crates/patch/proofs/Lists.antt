-- One list of checks, by its answer: none of it refused, or one did.
use Rattle.std.proofs.Common.{ℕ, List, ◌≡◌, refl, sym, ap, Result}
use Rattle.std.specs.Result.{IsErrAnd}
use Rattle.meaning.specs.Checks.{Answer, Check, answer, first}
use Rattle.lemmas.specs.First.{Every, Passes, Numbered, first_stops, zero_passes}
use Rattle.refusals.specs.Numbers.{number_of, numbered}
use Rattle.refusals.specs.declared.Refused.{Refused}
use Rattle.patch.specs.declared.Fault.{Fault}

abbrev pub AllPass : List Check → Type 0
AllPass ks = answer 0 0 ≡ first ks (answer 0 0)

abbrev pub Refuses : List Check → Refused → Type 0
Refuses ks f = answer (number_of f.refusal) f.place ≡ first ks (answer 0 0)

pub passed : (ks : List Check) → Every Numbered ks → AllPass ks → Every Passes ks
passed ks numbers e = zero_passes ks (answer 0 0) numbers (ap (λ (x : Answer). x.number) (sym e))

pub stopped : (ks : List Check) (f : Refused) → Refuses ks f → (rest : Answer) → first ks rest ≡ answer (number_of f.refusal) f.place
stopped ks f e rest = first_stops ks (answer 0 0) rest (answer (number_of f.refusal) f.place) refl (numbered f.refusal) e

-- What `?` returns of a fault f, and of a refusal of no record.
abbrev pub Returns : Result ℕ Fault → Fault → Type 0
Returns r f = IsErrAnd r (λ e. e ≡ f)

abbrev pub without_record : Refused → Fault
without_record f = record { refusal = f.refusal; place = f.place; offset = 0 }
