-- The contracts determine the result: two results that one allows, for the same input, are equal, in number, place, offset, value, every byte
-- of the section and every register. (The other buffers are only read.)
use Rattle.std.specs.Prelude.{ℕ, List, ◌≡◌, refl, ℤ, Result, Ok, Err}
use Rattle.std.proofs.Common.{sym, ap, ap₂, ◌∙◌}
use Rattle.meaning.specs.Checks as C
use Rattle.meaning.specs.ReadBack as M
use Rattle.meaning.specs.Executor as E
use Rattle.patch.specs.declared.Fault.{Fault}
use Rattle.patch.specs.Answers.{answer_in, Patches}
use Rattle.refusals.specs.declared.Refusal.{Refusal}
use Rattle.refusals.specs.declared.Refused.{Refused}
use Rattle.refusals.specs.Numbers.{numbered, number_unique}
use Rattle.back.specs.Immediates.{immediate_in, ReadsBack}
use Rattle.executor.specs.Runs.{ran_in, Runs}
use Rattle.rofteluvi.specs.declared.RofteluviAnswer.{RofteluviAnswer}
use Rattle.rofteluvi.specs.declared.RofteluviImmediate.{RofteluviImmediate}
use Rattle.rofteluvi.specs.declared.RofteluviRan.{RofteluviRan}
use Rattle.rofteluvi.specs.Face as Face
use Rattle.patch.proofs.patch.Reads as patch
use Rattle.back.proofs.read_back.Reads as read_back
use Rattle.rofteluvi.proofs.rofteluvi_patch.Reads as rofteluvi-patch
use Rattle.executor.proofs.run.Reads as run
use Rattle.rofteluvi.proofs.rofteluvi_read_back.Reads as rofteluvi-read-back
use Rattle.rofteluvi.proofs.rofteluvi_run.Reads as rofteluvi-run

-- ---- one answer by document 01's or 02's numbers, one answer of the code

answer_unique : (q r : Result ℕ Fault) → answer_in q ≡ answer_in r → q ≡ r
answer_unique (Ok m) (Ok n) e = ap (λ (a : C.Answer). Ok a.place) e
answer_unique (Ok m) (Err g) e = absurd (numbered g.refusal (ap (λ (a : C.Answer). a.number) (sym e)))
answer_unique (Err f) (Ok n) e = absurd (numbered f.refusal (ap (λ (a : C.Answer). a.number) e))
answer_unique (Err f) (Err g) e =
    ap₂ (λ (r : Refusal) (a : C.Answer). Err (record { refusal = r; place = a.place; offset = a.offset }))
    (number_unique f.refusal g.refusal (ap (λ (a : C.Answer). a.number) e)) e

immediate_unique : (q r : Result ℤ Refusal) → immediate_in q ≡ immediate_in r → q ≡ r
immediate_unique (Ok y) (Ok z) e = ap (λ (i : M.Immediate). Ok i.value) e
immediate_unique (Ok y) (Err s) e = absurd (numbered s (ap (λ (i : M.Immediate). i.number) (sym e)))
immediate_unique (Err r) (Ok z) e = absurd (numbered r (ap (λ (i : M.Immediate). i.number) e))
immediate_unique (Err r) (Err s) e = ap (λ (x : Refusal). Err x) (number_unique r s (ap (λ (i : M.Immediate). i.number) e))

ran_unique : (q r : Result ℕ Refused) (s t : List ℕ) → ran_in q s ≡ ran_in r t → (q ≡ r) × (s ≡ t)
ran_unique (Ok m) (Ok n) s t e = (ap (λ (x : E.Ran). Ok x.place) e, ap (λ (x : E.Ran). x.registers) e)
ran_unique (Ok m) (Err g) s t e = absurd (numbered g.refusal (ap (λ (x : E.Ran). x.number) (sym e)))
ran_unique (Err f) (Ok n) s t e = absurd (numbered f.refusal (ap (λ (x : E.Ran). x.number) e))
ran_unique (Err f) (Err g) s t e = (
  ap₂ (λ (r : Refusal) (x : E.Ran). Err (record { refusal = r; place = x.place }))
      (number_unique f.refusal g.refusal (ap (λ (x : E.Ran). x.number) e)) e,
  ap (λ (x : E.Ran). x.registers) e,
)

module _ (section records values : List ℕ) (address gp : ℕ) where
  -- patch, called from Rattle
  pub patch_unique : (q r : Result ℕ Fault) (s t : List ℕ) → Patches section records values address gp q s → Patches section records values address gp r t →
      (q ≡ r) × (s ≡ t)
  patch_unique q r s t x y = (answer_unique q r (x.answers ∙ sym y.answers), x.leaves ∙ sym y.leaves)

  -- rofteluvi_patch, called from C
  pub rofteluvi_patch_unique : (q r : RofteluviAnswer) (s t : List ℕ) → Face.Patches section records values address gp q s →
      Face.Patches section records values address gp r t → (q ≡ r) × (s ≡ t)
  rofteluvi_patch_unique q r s t x y =
      (ap (λ (b : C.Answer). record { number = b.number; place = b.place; offset = b.offset }) (x.says ∙ sym y.says), x.leaves ∙ sym y.leaves)

module _ (section : List ℕ) (address offset type : ℕ) where
  -- read back, called from Rattle and from C
  pub read_back_unique : (q r : Result ℤ Refusal) → ReadsBack section address offset type q → ReadsBack section address offset type r → q ≡ r
  read_back_unique q r a b = immediate_unique q r (a.says ∙ sym b.says)

  pub rofteluvi_read_back_unique : (q r : RofteluviImmediate) → Face.ReadsBack section address offset type q →
      Face.ReadsBack section address offset type r → q ≡ r
  rofteluvi_read_back_unique q r x y =
      ap (λ (i : M.Immediate). record { number = i.number; place = i.place; value = i.value }) (x.says ∙ sym y.says)

module _ (words : List ℕ) (start : ℕ) (registers : List ℕ) where
  -- run, called from Rattle and from C
  pub run_unique : (q r : Result ℕ Refused) (s t : List ℕ) → Runs words start registers q s → Runs words start registers r t → (q ≡ r) × (s ≡ t)
  run_unique q r s t a b = ran_unique q r s t (a.says ∙ sym b.says)

  pub rofteluvi_run_unique : (q r : RofteluviRan) (s t : List ℕ) → Face.Runs words start registers q s → Face.Runs words start registers r t →
      (q ≡ r) × (s ≡ t)
  rofteluvi_run_unique q r s t a b =
      let e = a.says ∙ sym b.says in
      (ap (λ (x : E.Ran). record { number = x.number; place = x.place }) e, ap (λ (x : E.Ran). x.registers) e)

-- ---- Each contract, as the checker reads it off the source, is the definition that its theorem speaks of. The call's arguments are a, its
-- result is r, and e is what the parameters hold at exit.

pub patch_contract : patch.Post ≡ (λ κs a r e. Patches a.0.now a.1.0.now a.1.1.0.now a.1.1.1.0 a.1.1.1.1.0 r e.0.now)
patch_contract = refl

pub rofteluvi_patch_contract : rofteluvi-patch.Post ≡
    (λ κs a r e. Face.Patches a.0.now a.1.0.now a.1.1.0.now a.1.1.1.0 a.1.1.1.1.0 r e.0.now)
rofteluvi_patch_contract = refl

pub read_back_contract : read_back.Post ≡ (λ κs a r e. ReadsBack a.0.now a.1.0 a.1.1.0 a.1.1.1.0 r)
read_back_contract = refl

pub rofteluvi_read_back_contract : rofteluvi-read-back.Post ≡ (λ κs a r e. Face.ReadsBack a.0.now a.1.0 a.1.1.0 a.1.1.1.0 r)
rofteluvi_read_back_contract = refl

pub run_contract : run.Post ≡ (λ κs a r e. Runs a.0.now a.1.0 a.1.1.0.now r e.1.1.0.now)
run_contract = refl

pub rofteluvi_run_contract : rofteluvi-run.Post ≡ (λ κs a r e. Face.Runs a.0.now a.1.0 a.1.1.0.now r e.1.1.0.now)
rofteluvi_run_contract = refl
