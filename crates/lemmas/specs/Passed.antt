-- What passed where no check refuses, by name: made once from the lists of checks.
use Rattle.std.specs.Prelude.{ℕ, ◌%◌, Bool, true, false, cond, not, List, [], ◌∷◌, ◌≡◌, refl, eqb, ltb, length}
use Rattle.std.proofs.Common.{ne_of_gt, arith, ne_eqb}
use Rattle.meaning.specs.Table.{Semantics}
use Rattle.meaning.specs.Call.{Setting, Call, Record, row_bytes, rows_of, records_of, PC}
use Rattle.meaning.specs.Stack.{Stack, depth, taken, after}
use Rattle.meaning.specs.Checks.{Answer, answer, answer_at, Check, first, section_limit, values_limit, refused, uses, past, absent, writes, outside, of_word, unaligned, of_operation, above, below, not_multiple, word_value, of_record, of_records, of_masks, checks}
use Rattle.lemmas.specs.First.{Every, Passes, Numbered, zero_passes, every-left, every_right}

-- 4 to 15 and 18, of a record with the stack before it
pub record Passed (c : Setting) (r : Record) (d : Semantics) (st : Stack) : Type 0 where
  pub named : eqb (refused d) 4 ≡ false
  pub not_the_loaders : eqb (refused d) 5 ≡ false
  pub has_row : past c r (uses d) ≡ false
  pub present : absent r (uses d) ≡ false
  pub inside : outside c.size r.offset (writes d) ≡ false
  pub aligned : of_word d (λ source range. unaligned (PC c r)) ≡ false
  pub enough : ltb (length st) (taken d) ≡ false
  pub room : ltb depth (length (after c r d st)) ≡ false
  pub count : eqb (of_operation c d st) 12 ≡ false
  pub not_zero : eqb (of_operation c d st) 13 ≡ false
  pub not_above : of_word d (λ source range. above range (word_value c r st source)) ≡ false
  pub not_below : of_word d (λ source range. below range (word_value c r st source)) ≡ false
  pub multiple : of_word d (λ source range. not_multiple range (word_value c r st source)) ≡ false

pub passed : (c : Setting) (i : ℕ) (r : Record) (d : Semantics) (st : Stack) → Every Passes (of_record c i r d st) → Passed c r d st
passed c i r d st (a4, (a5, (a6, (a7, (a8, (a9, (a10, (a11, (a12, (a13, (a14, (a18, (a15, end))))))))))))) =
    record {
      named = a4;
      not_the_loaders = a5;
      has_row = a6;
      present = a7;
      inside = a8;
      aligned = a9;
      enough = a10;
      room = a11;
      count = a12;
      not_zero = a13;
      not_above = a14;
      not_below = a18;
      multiple = a15;
    }

-- Every check of a record has a number.
pub record_numbered : (c : Setting) (i : ℕ) (r : Record) (d : Semantics) (st : Stack) → Every Numbered (of_record c i r d st)
record_numbered c i r d st = omega arith

-- The number of a record's refusal, 0 where every check of it passes. Its place is the record's number and its offset the record's, whatever
-- its own number.
abbrev pub refusal_of : Setting → Record → Semantics → Stack → ℕ
refusal_of c r d st = (first (of_record c 0 r d st) (answer 0 0)).number

pub not_refused : (c : Setting) (r : Record) (d : Semantics) (st : Stack) → refusal_of c r d st ≡ 0 → Passed c r d st
not_refused c r d st e = passed c 0 r d st (zero_passes (of_record c 0 r d st) (answer 0 0) (record_numbered c 0 r d st) e)

-- ---- the place and the offset

-- a list of checks, each at the place i and with the offset o
unfoldable pub placed : ℕ → ℕ → List Check → List Check
placed i o [] = []
placed i o (k ∷ ks) = record { refusal = answer_at k.refusal.number i o; fails = k.fails } ∷ placed i o ks

first-placed : (i o : ℕ) (ks : List Check) (a : Answer) → Every Numbered ks →
    first (placed i o ks) a ≡ cond (eqb (first ks (answer 0 0)).number 0) a (answer_at (first ks (answer 0 0)).number i o)
unfolding first placed
first-placed i o [] a p = refl
first-placed i o (k ∷ ks) a p = go k.fails refl (first-placed i o ks a p.1)
  where
    go : (b : Bool) → k.fails ≡ b →
        first (placed i o ks) a ≡ cond (eqb (first ks (answer 0 0)).number 0) a (answer_at (first ks (answer 0 0)).number i o) →
        first (placed i o (k ∷ ks)) a ≡ cond (eqb (first (k ∷ ks) (answer 0 0)).number 0) a (answer_at (first (k ∷ ks) (answer 0 0)).number i o)
    go true e rest = simp (e, ne_eqb k.refusal.number 0 (ne_of_gt p.0))
    go false e rest = rw e rest

-- The checks of record i answer its refusal at i, with its offset, or leave the answer to what comes after.
pub first_record : (c : Setting) (i : ℕ) (r : Record) (d : Semantics) (st : Stack) (a : Answer) →
    first (of_record c i r d st) a ≡ cond (eqb (refusal_of c r d st) 0) a (answer_at (refusal_of c r d st) i r.offset)
unfolding placed
first_record c i r d st a = first-placed i r.offset (of_record c 0 r d st) a (record_numbered c 0 r d st)

-- ---- the call

-- 1 to 3, and the records', of a call
pub record PassedCall (c : Call) (records : List ℕ) : Type 0 where
  pub section_fits : ltb section_limit c.setting.size ≡ false
  pub records_fit : ltb c.setting.card.records_limit (length records) ≡ false
  pub values_fit : ltb values_limit (length c.values) ≡ false
  pub whole_records : not (eqb (length records % c.setting.card.record_bytes) 0) ≡ false
  pub whole_rows : not (eqb (length c.values % row_bytes) 0) ≡ false
  pub masks : Every Passes (of_masks 0 (rows_of c.values))
  pub each_record : Every Passes (of_records c.setting 0 [] (records_of c records))

pub passed_call : (c : Call) (records : List ℕ) → Every Passes (checks c records) → PassedCall c records
unfolding checks
passed_call c records (a, (b, (d, (e, (f, rest))))) =
    record {
      section_fits = a;
      records_fit = b;
      values_fit = d;
      whole_records = e;
      whole_rows = f;
      masks = every-left Passes (of_masks 0 (rows_of c.values)) (of_records c.setting 0 [] (records_of c records)) rest;
      each_record = every_right Passes (of_masks 0 (rows_of c.values)) (of_records c.setting 0 [] (records_of c records)) rest;
    }
