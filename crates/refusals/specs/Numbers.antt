-- The refusals by the papers' numbers. None is 0, which says that nothing is refused.
use Rattle.std.specs.Prelude.{ℕ, ◌-◌, List, [], ◌∷◌, ◌≡◌, refl, get_or, Result, Ok, Err}
use Rattle.std.proofs.Common.{arith, sym, ap, ◌∙◌}
use Rattle.meaning.specs.Checks.{Answer, answer}
use Rattle.refusals.specs.declared.Refused.{Refused}
use Rattle.refusals.specs.declared.Refusal.{Refusal}
use Rattle.refusals.specs.declared.Refusal.TheVariants.{TooLong, NotWhole, BadMask, UnknownType, LoaderType, NoSuchSymbol, ValueAbsent, Outside, Unaligned, StackEmpty, StackFull, ShiftCount, Assertion, AboveRange, NotMultiple, StackLeft, BadLine, BelowRange, UnknownWord}

abbrev pub number_of : Refusal → ℕ
number_of TooLong = 1
number_of NotWhole = 2
number_of BadMask = 3
number_of UnknownType = 4
number_of LoaderType = 5
number_of NoSuchSymbol = 6
number_of ValueAbsent = 7
number_of Outside = 8
number_of Unaligned = 9
number_of StackEmpty = 10
number_of StackFull = 11
number_of ShiftCount = 12
number_of Assertion = 13
number_of AboveRange = 14
number_of NotMultiple = 15
number_of StackLeft = 16
number_of BadLine = 17
number_of BelowRange = 18
number_of UnknownWord = 19

-- They stand in the numbers' order, from 1 up, so that a number says which it is: no two have the same.
in_order : List Refusal
in_order =
    TooLong ∷ NotWhole ∷ BadMask ∷ UnknownType ∷ LoaderType ∷ NoSuchSymbol ∷ ValueAbsent ∷ Outside ∷ Unaligned ∷ StackEmpty ∷ StackFull ∷
    ShiftCount ∷ Assertion ∷ AboveRange ∷ NotMultiple ∷ StackLeft ∷ BadLine ∷ BelowRange ∷ UnknownWord ∷ []

of_number : (r : Refusal) → get_or in_order (number_of r - 1) TooLong ≡ r
unfolding in_order
of_number r = elim r as (λ s. get_or in_order (number_of s - 1) TooLong ≡ s) [ TooLong ↦ refl | _ ↦ refl ]

pub number_unique : (r s : Refusal) → number_of r ≡ number_of s → r ≡ s
number_unique r s e = sym (of_number r) ∙ ap (λ (n : ℕ). get_or in_order (n - 1) TooLong) e ∙ of_number s

-- None is 0.
pub numbered : (r : Refusal) → number_of r ≡ 0 → ⊥
numbered r = elim r as (λ s. number_of s ≡ 0 → ⊥) [ TooLong ↦ λ z. omega arith | _ ↦ λ z. omega arith ]

-- The number of an answer that may be a refusal: 0 for none.
abbrev pub refusal_in : {A : Type 0} → Result A Refusal → ℕ
refusal_in (Ok a) = 0
refusal_in (Err r) = number_of r

-- The answer of checks: of none that fails, or of the one that refuses, by its number and its place.
abbrev pub answer_of_checks : {A : Type 0} → Result A Refused → Answer
answer_of_checks (Ok a) = answer 0 0
answer_of_checks (Err r) = answer (number_of r.refusal) r.place
