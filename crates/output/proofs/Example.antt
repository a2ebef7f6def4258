-- The example of document 01's frames, as one computed test: its input as text, and the bytes that answer it.
use Prim.Native.Nat.{ℕ}
use mathlib.Core.Bool.{◌&&◌}
use mathlib.Core.List.{List, [], ◌∷◌, ◌++◌}
use lib.Dec.{T}
use Rattle.meaning.specs.Numbers.{number, bytes_of, cut}
use Rattle.meaning.specs.Table.{table, look}
use Rattle.meaning.specs.Field.{put}
use Rattle.meaning.specs.Checks.{first, of_records, of_masks, checks}
use Rattle.meaning.specs.Patch.{patched}
use Rattle.meaning.specs.Frames.{lines_of, digit, all_digits, numeral, bytes_in, sized, follows, well_formed, of_line, reading, output_of, output_for}
use Rattle.meaning.specs.Frames.{digit_for, digits, digits_of, line_feed, frames02, section_lines, written}
use Rattle.meaning.proofs.Cases.{same}

-- a line of n digits, which antt reads as one hexadecimal number
pub line : ℕ → ℕ → List ℕ
line n x = digits n x ++ line_feed

-- the example with its third line given: address 1000h, one word 50000000h, and type 66 at 0 as the record
pub around : List ℕ → List ℕ
around row =
    line 34 0x0100000000000010000000000000000000
    ++ line 10 0x0200000050
    ++ row
    ++ line 50 0x04000000000000000042000000010000000000000000000000

-- A row is 56 bytes: 114 digits with the kind. The paper prints 116, one byte too many.
pub row56 : List ℕ
row56 = line 114 0x030100000000000000101000000000000000000000000000000000000000000000000000000000000000000000000000000000000000000000

pub row57 : List ℕ
row57 = line 116 0x03010000000000000010100000000000000000000000000000000000000000000000000000000000000000000000000000000000000000000000

-- "00", "00000001", "0000000000000000"; "0200100050"
pub patched_word : List ℕ
patched_word =
    48 ∷ 48 ∷
    48 ∷ 48 ∷ 48 ∷ 48 ∷ 48 ∷ 48 ∷ 48 ∷ 49 ∷
    48 ∷ 48 ∷ 48 ∷ 48 ∷ 48 ∷ 48 ∷ 48 ∷ 48 ∷ 48 ∷ 48 ∷ 48 ∷ 48 ∷ 48 ∷ 48 ∷ 48 ∷ 48 ∷ 10 ∷
    48 ∷ 50 ∷ 48 ∷ 48 ∷ 49 ∷ 48 ∷ 48 ∷ 48 ∷ 53 ∷ 48 ∷ 10 ∷
    []

-- "ff11", "00000002", "0000000000000000": refusal 17 at line 2
pub bad_line_2 : List ℕ
bad_line_2 =
    102 ∷ 102 ∷ 49 ∷ 49 ∷
    48 ∷ 48 ∷ 48 ∷ 48 ∷ 48 ∷ 48 ∷ 48 ∷ 50 ∷
    48 ∷ 48 ∷ 48 ∷ 48 ∷ 48 ∷ 48 ∷ 48 ∷ 48 ∷ 48 ∷ 48 ∷ 48 ∷ 48 ∷ 48 ∷ 48 ∷ 48 ∷ 48 ∷ 10 ∷
    []

pub frames_hold : T (same (output_of (around row56)) patched_word && same (output_of (around row57)) bad_line_2)
unfolding same line around row56 row57 patched_word bad_line_2 number bytes_of cut table look put first of_records of_masks checks patched lines_of digit all_digits numeral bytes_in sized follows well_formed of_line reading output_for digit_for digits digits_of frames02 section_lines written
frames_hold = tt
