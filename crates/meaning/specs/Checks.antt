-- The refusals: every check of document 01, in its order, with its number, its place and its offset. The answer is the first that fails.
use Rattle.std.specs.Prelude.{ℕ, suc, ◌+◌, ◌-◌, ◌%◌, ◌^◌, Bool, true, false, cond, not, ◌&&◌, List, [], ◌∷◌, ◌++◌, eqb, ltb, leb, ℤ, pos, negsuc, neg_ℤ, nat_abs, length}
use Rattle.std.proofs.Math.Option.{Option, none, some}
use Rattle.std.specs.Int.Signed.{lt_z}
use Rattle.meaning.specs.Numbers.{signed}
use Rattle.meaning.specs.Table.{Value, Semantics, unnamed, idle, loaders, push, operation, word, bytes, Source, stack, of}
use Rattle.meaning.specs.Table.{Operation, dup, assert, sub, sl, sr, add, and, if_else, Accepted, from◌to◌, signed_multiple_of_4, any}
use Rattle.meaning.specs.Call.{Setting, Call, Record, does, records_of, row_bytes, rows_of, mask, present, PC, value_of, sum_of, formula}
use Rattle.meaning.specs.Stack.{depth, Stack, entry, is_zero, taken, after}

-- An answer: the number of refusal, 0 for none, its place, and an offset: 4 to 15 and 18 give the record's offset field, the others 0.
pub record Answer : Type 0 where
  pub number : ℕ
  pub place : ℕ
  pub offset : ℕ

-- A check: the answer that refuses, and whether it fails.
pub record Check : Type 0 where
  pub refusal : Answer
  pub fails : Bool

-- An answer with an offset, and one of no record.
abbrev pub answer_at : ℕ → ℕ → ℕ → Answer
answer_at n p o = record { number = n; place = p; offset = o }

abbrev pub answer : ℕ → ℕ → Answer
answer n p = answer_at n p 0

abbrev pub check : ℕ → ℕ → Bool → Check
check n p f = record { refusal = answer n p; fails = f }

-- A check of record r: its answer has the record's offset.
abbrev pub check_of : Record → ℕ → ℕ → Bool → Check
check_of r n p f = record { refusal = answer_at n p r.offset; fails = f }

-- The answer of a list of checks: that of the first that fails, or the one given where none does.
unfoldable pub first : List Check → Answer → Answer
first [] passed = passed
first (k ∷ ks) passed = cond k.fails k.refusal (first ks passed)

-- ---- what the checks of a call ask

-- 1: at most 65,536 section bytes and, in 1,024 rows, 57,344 value bytes. How many record bytes, the card says.
abbrev pub section_limit : ℕ
section_limit = 65536

abbrev pub values_limit : ℕ
values_limit = 57344

-- 3: the highest mask, with every value present
abbrev pub mask_limit : ℕ
mask_limit = 63

-- ---- what the checks of a record ask

-- 4, 5: a type not named, and the run-time loader's
abbrev pub refused : Semantics → ℕ
refused unnamed = 4
refused idle = 0
refused loaders = 5
refused (push f) = 0
refused (operation o) = 0
refused (word source parts range) = 0
refused (bytes way n f) = 0

-- 6, 7: the value that a type uses, if it uses one
abbrev pub uses : Semantics → Option Value
uses unnamed = none
uses idle = none
uses loaders = none
uses (push f) = some (value_of (sum_of f))
uses (operation o) = none
uses (word stack parts range) = none
uses (word (of f) parts range) = some (value_of (sum_of f))
uses (bytes way n f) = some (value_of (sum_of f))

abbrev pub past : Setting → Record → Option Value → Bool
past c r none = false
past c r (some v) = ltb c.rows r.symbol

abbrev pub absent : Record → Option Value → Bool
absent r none = false
absent r (some v) = not (present v r.row)

-- 8: how many bytes a type writes. Offset and count are added as whole numbers.
abbrev pub writes : Semantics → ℕ
writes unnamed = 0
writes idle = 0
writes loaders = 0
writes (push f) = 0
writes (operation o) = 0
writes (word source parts range) = 4
writes (bytes way n f) = n

abbrev pub outside : ℕ → ℕ → ℕ → Bool
outside size offset n = not (eqb n 0) && ltb size (offset + n)

-- 9, 14, 18, 15: what a test says of a word type's source and range; any other type passes
abbrev pub of_word : Semantics → (Source → Accepted → Bool) → Bool
of_word unnamed test = false
of_word idle test = false
of_word loaders test = false
of_word (push f) test = false
of_word (operation o) test = false
of_word (word source parts range) test = test source range
of_word (bytes way n f) test = false

abbrev pub unaligned : ℕ → Bool
unaligned pc = not (eqb (pc % 4) 0)

-- 12, 13: what an operation refuses of the entry on top. A shift count must be 0 to 63, one less than the width.
abbrev pub not_count : ℕ → ℤ → Bool
not_count w (pos n) = leb w n
not_count w (negsuc n) = true

abbrev pub refuses : ℕ → Operation → ℤ → ℕ
refuses w dup top = 0
refuses w assert top = cond (is_zero top) 13 0
refuses w Operation.not top = 0
refuses w sub top = 0
refuses w sl top = cond (not_count w top) 12 0
refuses w sr top = cond (not_count w top) 12 0
refuses w add top = 0
refuses w and top = 0
refuses w if_else top = 0

abbrev pub of_operation : Setting → Semantics → Stack → ℕ
of_operation c unnamed st = 0
of_operation c idle st = 0
of_operation c loaders st = 0
of_operation c (push f) st = 0
of_operation c (operation o) st = refuses c.card.width o (entry st 0)
of_operation c (word source parts range) st = 0
of_operation c (bytes way n f) st = 0

-- 14, 18, 15: a word's value is the entry on top, or a formula's value read as a signed number.
abbrev pub word_value : Setting → Record → Stack → Source → ℤ
word_value c r st stack = entry st 0
word_value c r st (of f) = signed c.card.width (formula c r f)

-- 14 and 18: it is above its range, or below it. An n-bit signed range is -2^(n-1) to 2^(n-1)-1.
abbrev pub above : Accepted → ℤ → Bool
above (from l to h) z = lt_z h z
above (signed_multiple_of_4 n) z = lt_z (pos (2 ^ (n - 1) - 1)) z
above any z = false

abbrev pub below : Accepted → ℤ → Bool
below (from l to h) z = lt_z z l
below (signed_multiple_of_4 n) z = lt_z z (neg_ℤ (pos (2 ^ (n - 1))))
below any z = false

abbrev pub not_multiple : Accepted → ℤ → Bool
not_multiple (from l to h) z = false
not_multiple (signed_multiple_of_4 n) z = not (eqb (nat_abs z % 4) 0)
not_multiple any z = false

-- ---- the checks of a record, of all the records from one on, and of the call

-- 4 to 15, at record i, with the stack before it; 18 is in 14's place
abbrev pub of_record : Setting → ℕ → Record → Semantics → Stack → List Check
of_record c i r does st =
    check_of r 4 i (eqb (refused does) 4) ∷
    check_of r 5 i (eqb (refused does) 5) ∷
    check_of r 6 i (past c r (uses does)) ∷
    check_of r 7 i (absent r (uses does)) ∷
    check_of r 8 i (outside c.size r.offset (writes does)) ∷
    check_of r 9 i (of_word does (λ source range. unaligned (PC c r))) ∷
    check_of r 10 i (ltb (length st) (taken does)) ∷
    check_of r 11 i (ltb depth (length (after c r does st))) ∷
    check_of r 12 i (eqb (of_operation c does st) 12) ∷
    check_of r 13 i (eqb (of_operation c does st) 13) ∷
    check_of r 14 i (of_word does (λ source range. above range (word_value c r st source))) ∷
    check_of r 18 i (of_word does (λ source range. below range (word_value c r st source))) ∷
    check_of r 15 i (of_word does (λ source range. not_multiple range (word_value c r st source))) ∷
    []

-- The records from number i on, with the stack before them, each in the order 4 to 15; then 16, entries left, whose place is the
-- number of records.
unfoldable pub of_records : Setting → ℕ → Stack → List Record → List Check
of_records c i st [] = check 16 i (not (eqb (length st) 0)) ∷ []
of_records c i st (r ∷ rs) =
    of_record c i r (does c r) st ++ of_records c (suc i) (after c r (does c r) st) rs

-- 3: the value rows from number i on
unfoldable pub of_masks : ℕ → List (List ℕ) → List Check
of_masks i [] = []
of_masks i (row ∷ rows) = check 3 i (ltb mask_limit (mask row)) ∷ of_masks (suc i) rows

-- 1 to 3 are tested over the whole call first, then the records from 0, with the stack empty.
unfoldable pub checks : Call → List ℕ → List Check
checks c records =
    check 1 0 (ltb section_limit c.setting.size) ∷
    check 1 1 (ltb c.setting.card.records_limit (length records)) ∷
    check 1 2 (ltb values_limit (length c.values)) ∷
    check 2 1 (not (eqb (length records % c.setting.card.record_bytes) 0)) ∷
    check 2 2 (not (eqb (length c.values % row_bytes) 0)) ∷
    of_masks 0 (rows_of c.values) ++
    of_records c.setting 0 [] (records_of c records)
