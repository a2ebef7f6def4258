-- Calls on real bytes: what `named_bits_only`, `read_back_gives`, `below_is_18` and `patched-pair_lands` ask can be met, and what they then
-- say of them.
use Rattle.std.specs.Prelude.{ℕ, ◌-◌, ◌^◌, List, [], ◌∷◌, ◌++◌, ◌≢◌, ◌≡◌, refl, pos, get_or}
use Rattle.std.proofs.Common.{arith, inl, inr, ap}
use Rattle.meaning.specs.Numbers.{number, bytes_of, cut}
use Rattle.meaning.specs.Table.{S+A, Accepted, from◌to◌, any, stack, bits◌⋯◌to◌⋯◌, neg, HI20, table, look}
use Rattle.meaning.specs.Call.{Call, card64, Record, symbol0, records_of}
use Rattle.meaning.specs.Field.{put, bare}
use Rattle.meaning.specs.Checks.{Answer, answer, answer_at, first, below, of_records, of_masks, checks}
use Rattle.meaning.specs.Patch.{call, answer_of, patched, section_of}
use Rattle.meaning.specs.ReadBack.{read_back_of}
use Rattle.meaning.specs.Order.{run}
use Rattle.lemmas.specs.Bytes.{bytes_of_bytes}
use Rattle.laws.specs.Replaced.{Bytes, bytes_append}
use Rattle.laws.specs.Bits.{bit_at, word_at}
use Rattle.laws.specs.Section.{BitUntouched, named_bits_only}
use Rattle.laws.specs.Order.{bytes_of_record}
use Rattle.laws.specs.ReadBack.{WordUntouched, read_back_gives}
use Rattle.laws.specs.Pair.{leads, UpperPart, patched-pair_lands}
use Rattle.laws.specs.Refused.{Missed, below_is_18}

-- addi.d $a0, $t0, 0; b 0; four bytes of data: at address 1000h
pub code : List ℕ
code = bytes_of 4 0x02c00184 ++ (bytes_of 4 0x50000000 ++ bytes_of 4 0x04030201)

pub at_1000 : Call
at_1000 = call code [] 0x1000 0

-- -3 pushed (23) and put into the first word (40), the way to 1014h put into the second (66), 7 added to the byte at 8 (47)
pub four : List ℕ
four = bytes_of_record 0 23 (2 ^ 64 - 3) ++ (bytes_of_record 0 40 0 ++ (bytes_of_record 4 66 0x1014 ++ bytes_of_record 8 47 7))

-- addi.d $a0, $t0, -3; b 16; 8 for the first byte of the data
pub accepted : (answer_of at_1000 four ≡ answer 0 4) ×
    (section_of at_1000 four code ≡ bytes_of 4 0x02fff584 ++ (bytes_of 4 0x50001000 ++ bytes_of 4 0x04030208))
unfolding code at_1000 four bytes_of_record number bytes_of cut table look put first of_records of_masks checks patched
accepted = (refl, refl)

-- ---- bits

-- Byte 1 is rewritten, from 01h to f5h, but its bit 0 is in no field: it is the first word's bit 8, of $t0.
pub in_no_field : BitUntouched at_1000.setting (records_of at_1000 four) 1 0
unfolding at_1000 four bytes_of_record number bytes_of cut table look
in_no_field = (inr tt, (inr (inl (omega arith), tt), (inl (omega arith), (inl (omega arith), tt))))

pub code_bytes : Bytes code
unfolding code
code_bytes =
    bytes_append (bytes_of 4 0x02c00184) _ (bytes_of_bytes 4 0x02c00184)
    (bytes_append (bytes_of 4 0x50000000) _ (bytes_of_bytes 4 0x50000000) (bytes_of_bytes 4 0x04030201))

pub bit_kept : bit_at 0 (get_or (section_of at_1000 four code) 1 0) ≡ bit_at 0 (get_or code 1 0)
unfolding at_1000
bit_kept = named_bits_only at_1000 four code refl code_bytes 1 0 (omega arith) in_no_field

-- ---- read back

-- The record that `bytes_of_record` has the bytes of.
unfoldable pub the_record : ℕ → ℕ → ℕ → Record
the_record offset type addend = record { offset = offset; type = type; symbol = 0; addend = addend; row = symbol0 }

-- The push, the record that puts -3 into the word at 0, and those after it, which write no byte of that word.
pub before : List Record
before = the_record 0 23 (2 ^ 64 - 3) ∷ []

pub pop : Record
pop = the_record 0 40 0

pub later : List Record
later = the_record 4 66 0x1014 ∷ the_record 8 47 7 ∷ []

pub in_list : records_of at_1000 four ≡ before ++ pop ∷ later
unfolding at_1000 four bytes_of_record number bytes_of cut the_record before pop later
in_list = refl

pub none_later : WordUntouched at_1000.setting later 0
unfolding the_record later
none_later i from-0 below-4 = (inl (omega arith), (inl (omega arith), tt))

-- So read back of the word at 0, as type 40, gives -3.
pub read_back_example : read_back_of card64 (section_of at_1000 four code) 0x1000 0 40 ≡ record { number = 0; place = 0; value = neg 3 }
unfolding at_1000 the_record before pop number bytes_of table look run
read_back_example =
    let range : Accepted = from (neg 2048) to (pos 2047) in
    let checked : range ≢ any = λ e. let z : ◌≡◌ {A = ℕ} 0 1 = cc in omega arith in
    read_back_gives at_1000 code four refl before later pop stack (bits 11 ⋯ 0 to 21 ⋯ 10 ∷ []) range
    (ap (λ (a : Answer). a.number) accepted.0) in_list refl none_later (omega arith) checked

-- ---- which way a value missed its range

-- -17 pushed (23) and put into the word at 4 (38), whose range begins at -16
pub too_low : List ℕ
too_low = bytes_of_record 0 23 (2 ^ 64 - 17) ++ bytes_of_record 4 38 0

pub refused-low : answer_of at_1000 too_low ≡ answer_at 18 1 4
unfolding code at_1000 too_low bytes_of_record number bytes_of cut table look first of_records of_masks checks
refused-low = refl

-- So there is a record whose value is below its range, and no check before that one fails.
pub missed_low : Missed 18 below at_1000 too_low
missed_low = (below_is_18 at_1000 too_low).0 (ap (λ (a : Answer). a.number) refused-low)

-- ---- a pair that lands

-- pcalau12i $a0, 0; addi.d $a0, $a0, 0: at address 12340004h, with the target 12345800h (71 and 72)
unfoldable pub pair : List ℕ
pair = bytes_of 4 0x1a000004 ++ bytes_of 4 0x02c00084

unfoldable pub at_12340004 : Call
at_12340004 = call pair [] 0x12340004 0

unfoldable pub two : List ℕ
two = bytes_of_record 0 71 0x12345800 ++ bytes_of_record 4 72 0x12345800

-- pcalau12i $a0, 6; addi.d $a0, $a0, -2048
pub pair-patched : (answer_of at_12340004 two ≡ answer 0 2) × (section_of at_12340004 two pair ≡ bytes_of 4 0x1a0000c4 ++ bytes_of 4 0x02e00084)
unfolding pair at_12340004 two bytes_of_record number bytes_of cut table look put first of_records of_masks checks patched
pair-patched = (refl, refl)

-- The record of pcalau12i takes the upper part of its target; the one after it writes no byte of that word.
pub upper : UpperPart card64 71
unfolding table look
upper = record { target = S+A; is = refl }

unfoldable pub after-upper : List Record
after-upper = the_record 4 72 0x12345800 ∷ []

pub none_after : WordUntouched at_12340004.setting after-upper 0
unfolding the_record after-upper
none_after i from-0 below-4 = (inl (omega arith), tt)

-- So the field that the call left, with the target's low 12 bits, leads to 12345800h.
pub pair_example : leads 64 0x12340004 (bare HI20 (word_at 0 (section_of at_12340004 two pair))) 0x800 ≡ 0x12345800
unfolding pair at_12340004 two upper after-upper the_record bytes_of_record number bytes_of cut table look
pair_example =
    patched-pair_lands at_12340004 pair two refl [] after-upper (the_record 0 71 0x12345800) upper
    (ap (λ (a : Answer). a.number) pair-patched.0) refl none_after (omega arith) (record { not_above = refl; not_below = refl })
