-- Frames: what the bytes of the program's standard input mean, and which bytes it answers with.
-- Text is a list of bytes: line feed is 10, the digits 0 to 9 are 48 to 57, A to F 65 to 70, a to f 97 to 102.
use Rattle.std.specs.Prelude.{ℕ, zero, suc, ◌+◌, ◌-◌, ◌*◌, ◌/◌, ◌%◌, ◌^◌, Bool, true, false, cond, not, ◌&&◌, List, [], ◌∷◌, ◌++◌, eqb, ltb, leb, length, take, drop}
use Rattle.meaning.specs.Numbers.{cut}
use Rattle.meaning.specs.Call.{card64, row_bytes, Call}
use Rattle.meaning.specs.Checks.{Answer, answer, Check, check, first, section_limit, values_limit}
use Rattle.meaning.specs.Patch.{call, answer_of, section_of}

-- ---- lines of hexadecimal

-- One frame a line, ended by line feed (the last may lack it).
abbrev pub onto : ℕ → List (List ℕ) → List (List ℕ)
onto b [] = (b ∷ []) ∷ []
onto b (line ∷ lines) = (b ∷ line) ∷ lines

unfoldable pub lines_of : List ℕ → List (List ℕ)
lines_of [] = []
lines_of (b ∷ bs) = cond (eqb b 10) ([] ∷ lines_of bs) (onto b (lines_of bs))

-- Either letter case is read: the number that a digit stands for, and 16 for a byte that is no digit.
unfoldable pub digit : ℕ → ℕ
digit b =
    cond (leb 48 b && leb b 57) (b - 48)
    (cond (leb 65 b && leb b 70) (10 + (b - 65))
    (cond (leb 97 b && leb b 102) (10 + (b - 97)) 16))

-- A line is digits and nothing else, two to a byte.
unfoldable pub all_digits : List ℕ → Bool
all_digits [] = true
all_digits (b ∷ bs) = ltb (digit b) 16 && all_digits bs

abbrev pub hexadecimal : List ℕ → Bool
hexadecimal line = all_digits line && eqb (length line % 2) 0

-- The number that digits stand for, the highest first, with those read before them as x.
unfoldable pub numeral : ℕ → List ℕ → ℕ
numeral x [] = x
numeral x (d ∷ ds) = numeral (16 * x + digit d) ds

-- The bytes that digits stand for, two to a byte.
unfoldable pub bytes_in : List ℕ → List ℕ
bytes_in [] = []
bytes_in (high ∷ []) = []
bytes_in (high ∷ low ∷ ds) = (16 * digit high + digit low) ∷ bytes_in ds

-- ---- a frame

-- Two digits of kind, then the bytes of that kind.
abbrev pub kind : List ℕ → ℕ
kind line = numeral 0 (take 2 line)

abbrev pub body : List ℕ → List ℕ
body line = bytes_in (drop 2 line)

-- How many bytes: 01, two 16-digit numbers; 02, 1 to 64 section bytes; 03, one row; 04, one record.
unfoldable pub sized : ℕ → ℕ → Bool
sized k n =
    cond (eqb k 1) (eqb n 16)
    (cond (eqb k 2) (leb 1 n && leb n 64)
    (cond (eqb k 3) (eqb n row_bytes)
    (cond (eqb k 4) (eqb n card64.record_bytes) false)))

-- One 01 first, kinds never falling: a kind after the last one, which is 0 before the first.
unfoldable pub follows : ℕ → ℕ → Bool
follows last k = cond (eqb last 0) (eqb k 1) (leb 2 k && leb last k)

unfoldable pub well_formed : ℕ → List ℕ → Bool
well_formed last line = hexadecimal line && sized (kind line) (length (body line)) && follows last (kind line)

-- ---- what the frames give

pub record Input : Type 0 where
  pub address : ℕ
  pub gp : ℕ
  pub section : List ℕ
  pub values : List ℕ
  pub records : List ℕ

abbrev pub nothing : Input
nothing = record { address = 0; gp = 0; section = []; values = []; records = [] }

-- What a frame adds: 01 the section address and GP, 02 section bytes, 03 a row, 04 a record, bytes as stored.
abbrev pub added : List ℕ → Input → Input
added line got =
    record {
      address = cond (eqb (kind line) 1) (numeral 0 (take 16 (drop 2 line))) got.address;
      gp = cond (eqb (kind line) 1) (numeral 0 (drop 18 line)) got.gp;
      section = got.section ++ cond (eqb (kind line) 2) (body line) [];
      values = got.values ++ cond (eqb (kind line) 3) (body line) [];
      records = got.records ++ cond (eqb (kind line) 4) (body line) [];
    }

-- Anything but a well-formed frame is refusal 17 at line i. A well-formed frame past a limit is refusal 1 with that buffer's place:
-- 65,536 section bytes, 2,048 records, 1,024 rows.
unfoldable pub of_line : ℕ → ℕ → List ℕ → Input → List Check
of_line i last line got =
    check 17 i (not (well_formed last line)) ∷
    check 1 0 (ltb section_limit (length (added line got).section)) ∷
    check 1 1 (ltb card64.records_limit (length (added line got).records)) ∷
    check 1 2 (ltb values_limit (length (added line got).values)) ∷
    []

-- What was read: the refusal, number 0 for none, and what the frames before it gave.
pub record Reading : Type 0 where
  pub refusal : Answer
  pub input : Input

abbrev pub stopping : Answer → Input → Reading → Reading
stopping a got rest = cond (eqb a.number 0) rest (record { refusal = a; input = got })

-- The lines from number i on, after a frame of kind `last`: the first line at fault decides. Empty input is 17 at 0.
unfoldable pub reading : ℕ → ℕ → Input → List (List ℕ) → Reading
reading i last got [] = record { refusal = first (check 17 i (eqb last 0) ∷ []) (answer 0 0); input = got }
reading i last got (line ∷ lines) =
    stopping (first (of_line i last line got) (answer 0 0)) got (reading (suc i) (kind line) (added line got) lines)

abbrev pub reading_of : List ℕ → Reading
reading_of bytes = reading 0 0 nothing (lines_of bytes)

-- ---- output, all numbers hexadecimal

-- Lower case is written. A number's low n digits, the highest first; bytes, two digits each.
unfoldable pub digit_for : ℕ → ℕ
digit_for d = cond (ltb d 10) (48 + d) (97 + (d - 10))

unfoldable pub digits : ℕ → ℕ → List ℕ
digits zero x = []
digits (suc n) x = digit_for (x / 16 ^ n % 16) ∷ digits n x

unfoldable pub digits_of : List ℕ → List ℕ
digits_of [] = []
digits_of (b ∷ bs) = digits 2 b ++ digits_of bs

abbrev pub line_feed : List ℕ
line_feed = 10 ∷ []

-- The section as 02 lines of 64 bytes, the last shorter.
unfoldable pub frames02 : List (List ℕ) → List ℕ
frames02 [] = []
frames02 (piece ∷ pieces) = digits 2 2 ++ (digits_of piece ++ (line_feed ++ frames02 pieces))

unfoldable pub section_lines : List ℕ → List ℕ
section_lines section = frames02 (cut 64 ((length section + 63) / 64) section)

-- `00`, 8 digits of place and 16 of offset, then the section; or `ff`, two digits of refusal, 8 of place and 16 of offset.
unfoldable pub written : Answer → List ℕ → List ℕ
written a section =
    cond (eqb a.number 0)
    (digits 2 0 ++ (digits 8 a.place ++ (digits 16 a.offset ++ (line_feed ++ section_lines section))))
    (digits 2 255 ++ (digits 2 a.number ++ (digits 8 a.place ++ (digits 16 a.offset ++ line_feed))))

-- The answer to what was read is its refusal, or that of the patch.
abbrev pub call_of : Input → Call
call_of i = call i.section i.values i.address i.gp

abbrev pub reply_to : Reading → Answer
reply_to r = cond (eqb r.refusal.number 0) (answer_of (call_of r.input) r.input.records) r.refusal

unfoldable pub output_for : Reading → List ℕ
output_for r = written (reply_to r) (section_of (call_of r.input) r.input.records r.input.section)

abbrev pub output_of : List ℕ → List ℕ
output_of bytes = output_for (reading_of bytes)
