-- The answer is that of the first check that fails: what document 01's fixed order of checks promises.
use Rattle.std.specs.Prelude.{ℕ, suc, false, List, [], ◌∷◌, ◌↔◌, ◌≡◌, refl}
use Rattle.std.proofs.Common.{arith, ap}
use Rattle.meaning.specs.Call.{Setting, Call, Record, does, records_of, rows_of}
use Rattle.meaning.specs.Stack.{Stack, after}
use Rattle.meaning.specs.Checks.{Answer, Check, of_record, of_records, of_masks, checks}
use Rattle.meaning.specs.Patch.{answer_of}
pub use Rattle.lemmas.specs.First.{Every, Passes, Numbered, nth, every_append, every-left, every_right, every-nth, nth-every}
pub use Rattle.lemmas.specs.First.{first_passed, FailsFirst, zero_passes}
use Rattle.lemmas.specs.First.{first_fails, masks_numbered}
use Rattle.lemmas.specs.Passed.{record_numbered}

-- ---- the checks of a call

records_numbered : (c : Setting) (i : ℕ) (st : Stack) (rs : List Record) → Every Numbered (of_records c i st rs)
unfolding of_records
records_numbered c i st [] = omega arith
records_numbered c i st (r ∷ rs) =
    every_append Numbered (of_record c i r (does c r) st) (of_records c (suc i) (after c r (does c r) st) rs)
    (record_numbered c i r (does c r) st)
    (records_numbered c (suc i) (after c r (does c r) st) rs)

pub checks_numbered : (c : Call) (records : List ℕ) → Every Numbered (checks c records)
unfolding checks
checks_numbered c records =
    let masks = of_masks 0 (rows_of c.values) in
    let each = of_records c.setting 0 [] (records_of c records) in
    let rest = every_append Numbered masks each (masks_numbered 0 (rows_of c.values)) (records_numbered c.setting 0 [] (records_of c records)) in
    (omega arith, (omega arith, (omega arith, (omega arith, (omega arith, rest)))))

-- ---- the theorems

-- Accepted exactly when no check fails.
pub accepted_exactly : (c : Call) (records : List ℕ) →
    ((answer_of c records).number ≡ 0) ↔ ((n : ℕ) → (nth (checks c records) n).fails ≡ false)
accepted_exactly c records = (
  (λ e. every-nth Passes refl (checks c records) (zero_passes (checks c records) _ (checks_numbered c records) e)),
  (λ p. ap (λ (a : Answer). a.number) (first_passed (checks c records) _ (nth-every Passes (checks c records) p))),
)

-- A call that some check refuses answers with the number, the place and the offset of the first that fails.
pub refused_by_the_first : (c : Call) (records : List ℕ) (k : Check) → FailsFirst (checks c records) k → answer_of c records ≡ k.refusal
refused_by_the_first c records k f = first_fails (checks c records) k _ f
