-- The call: its three lists of checks one after the other, and what each outcome makes of the answer and of the section.
use Rattle.std.proofs.Common.{ℕ, ◌/◌, ◌≤◌, arith, List, [], ◌++◌, ◌≡◌, sym, ap, ◌∙◌, ltb-false, eq-eqb, ne_eqb, length, Result, Ok, Err}
use Rattle.std.specs.Simd.{first_chunks}
use Rattle.std.proofs.lemmas.Result.{err_from_is_err_and}
use Rattle.meaning.specs.Numbers.{pieces}
use Rattle.meaning.specs.Call.{Call, card64, rows_of, records_of}
use Rattle.meaning.specs.Checks as C
use Rattle.meaning.specs.Checks.{Check, answer, first, of_masks, of_records, checks, values_limit}
use Rattle.meaning.specs.Patch.{call, answer_of, patched}
use Rattle.lemmas.specs.First.{Every, Passes, first-append, first_passed, masks_numbered}
use Rattle.lemmas.specs.Pieces.{chunks_cut}
use Rattle.refusals.specs.Numbers.{numbered}
use Rattle.refusals.specs.declared.Refused.{Refused}
use Rattle.patch.specs.declared.Fault.{Fault}
use Rattle.patch.specs.Answers.{answer_in, Patches, limit_checks, most_records, records_of_pieces, records_answer}
use Rattle.patch.proofs.Lists.{AllPass, Refuses, Returns, without_record, passed, stopped}

-- ---- the lengths passed

module _ (section records values : List ℕ) (limited : AllPass (limit_checks (length section) (length records) (length values))) where
  limits : Every Passes (limit_checks (length section) (length records) (length values))
  limits = passed (limit_checks (length section) (length records) (length values)) (omega arith) limited

  pub few_values : length values ≤ values_limit
  few_values = ltb-false values_limit (length values) limits.1.1.0

  pub few_records : (chunks : List (List ℕ)) → length chunks ≡ length records / card64.record_bytes → length chunks ≤ most_records
  few_records chunks e =
      let few : length records ≤ card64.records_limit = ltb-false card64.records_limit (length records) limits.1.0 in
      omega arith

-- ---- the call, stage by stage

module _ (section records values : List ℕ) (address gp : ℕ) where
  abbrev called : Call
  called = call section values address gp

  abbrev lengths : List Check
  lengths = limit_checks (length section) (length records) (length values)

  abbrev masks : List Check
  masks = of_masks 0 (rows_of values)

  -- What the call comes to, by its answer and what it leaves.
  abbrev Comes : Result ℕ Fault → List ℕ → Type 0
  Comes r left = Patches section records values address gp r left

  whole : answer_of called records ≡ first lengths (first masks (records_answer called (pieces card64.record_bytes records)))
  unfolding checks
  whole =
      first-append lengths (masks ++ of_records called.setting 0 [] (records_of called records)) _
      ∙ ap (first lengths) (first-append masks (of_records called.setting 0 [] (records_of called records)) _)

  -- A refused call leaves the section as it came.
  refused : (r : Result ℕ Fault) (f : Fault) → answer_in (Err f) ≡ answer_of called records → Returns r f → Comes r section
  refused r f says out =
      let some : (answer_of called records).number ≡ 0 → ⊥ = λ z. numbered f.refusal (ap (λ (x : C.Answer). x.number) says ∙ z) in
      let p = err_from_is_err_and r out in
      rw (p.1, p.2) (record { answers = says; leaves = rw (ne_eqb (answer_of called records).number 0 some) })

  pub lengths_refuse : (r : Result ℕ Fault) (f : Refused) → Refuses lengths f → Returns r (without_record f) → Comes r section
  lengths_refuse r f e out = refused r (without_record f) (sym (whole ∙ stopped lengths f e _)) out

  module _ (limited : AllPass lengths) where
    within : answer_of called records ≡ first masks (records_answer called (pieces card64.record_bytes records))
    within = whole ∙ first_passed lengths _ (limits section records values limited)

    pub masks_refuse : (r : Result ℕ Fault) (f : Refused) → Refuses masks f → Returns r (without_record f) → Comes r section
    masks_refuse r f e out = refused r (without_record f) (sym (within ∙ stopped masks f e _)) out

    -- The masks passed too: the records answer, as the library cuts them.
    module _ (fit : AllPass masks) (chunks : List (List ℕ)) (cut : chunks ≡ first_chunks card64.record_bytes (length records / card64.record_bytes) records) where
      they_are : chunks ≡ pieces card64.record_bytes records
      they_are = cut ∙ chunks_cut _ _ records

      the_records : answer_of called records ≡ records_answer called chunks
      the_records =
          within ∙ first_passed masks _ (passed masks (masks_numbered 0 (rows_of values)) fit) ∙ ap (records_answer called) (sym they_are)

      pub records_refuse : (r : Result ℕ Fault) (f : Fault) → answer_in (Err f) ≡ records_answer called chunks → Returns r f → Comes r section
      records_refuse r f judged out = refused r f (judged ∙ sym the_records) out

      pub accepted : (n : ℕ) (left : List ℕ) → answer 0 n ≡ records_answer called chunks → left ≡ patched called.setting [] section (records_of_pieces called chunks) → Comes (Ok n) left
      accepted n left judged written =
          let says : answer 0 n ≡ answer_of called records = judged ∙ sym the_records in
          let passes : (answer_of called records).number ≡ 0 = ap (λ (x : C.Answer). x.number) (sym says) in
          record {
            answers = says;
            leaves = rw (eq-eqb (answer_of called records).number 0 passes, ← they_are) written;
          }
