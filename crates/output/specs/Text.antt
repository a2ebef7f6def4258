-- Text, as the code writes it, and how long it can be.
use Rattle.std.specs.Prelude.{ℕ, ◌+◌, ◌*◌, ◌/◌, List, ◌++◌}
use Rattle.meaning.specs.Call.{card64, row_bytes}
use Rattle.meaning.specs.Checks.{section_limit, values_limit}
use Rattle.meaning.specs.Frames.{digits, digits_of, line_feed}

-- one 02 line of output
abbrev pub frame02 : List ℕ → List ℕ
frame02 bytes = digits 2 2 ++ (digits_of bytes ++ line_feed)

-- what an answer's line ends with: 8 digits of place and 16 of offset
abbrev pub place_line : ℕ → ℕ → List ℕ
place_line place offset = digits 8 place ++ (digits 16 offset ++ line_feed)

-- How long a line of n bytes is: two digits of kind, two for each byte, and a line feed.
abbrev pub line_of : ℕ → ℕ
line_of n = 2 * n + 3

-- The longest output, 134,171 bytes: a first line of 27, and a full section in lines of 64 bytes, 1,024 of them.
abbrev pub output_bytes : ℕ
output_bytes = 27 + section_limit / 64 * line_of 64

-- The longest good input, 549,923 bytes: the two numbers, each section byte in a line of its own, 1,024 rows and 2,048 records.
abbrev pub good_bytes : ℕ
good_bytes =
    line_of 16 + line_of 1 * section_limit + line_of row_bytes * (values_limit / row_bytes) +
    line_of card64.record_bytes * (card64.records_limit / card64.record_bytes)

-- One byte more than the longest line has.
abbrev pub too_long : ℕ
too_long = line_of 64 + 1

-- The first bytes of an input that decide its output, 550,055: those of the longest good input, and so many of a line after them that it can
-- be no frame.
abbrev pub input_bytes : ℕ
input_bytes = good_bytes + too_long
