-- What comes in: the card, a call's setting, its records and value rows out of their bytes, and the sums and formulas at a record.
use Rattle.std.specs.Prelude.{ℕ, zero, suc, ◌+◌, ◌*◌, ◌/◌, ◌%◌, ◌^◌, Bool, true, cond, List, ◌++◌, map, eqb, take, drop, get_or, replicate}
use Rattle.meaning.specs.Numbers.{number, bytes_of, plus, minus, cleared, pieces}
use Rattle.meaning.specs.Table.{Value, S, G, PLT, T, IE, GD, Sum, only, with_A, with_GP, Formula, whole, ◌-PC, pages, far, Semantics, unnamed, semantics}

-- What a card is: how wide its numbers are, how its records are cut, and which types of the table it names.
pub record Card : Type 0 where
  -- of addresses, sums and stack entries, in bits
  pub width : ℕ
  -- of a record, and of a list of records at most, in bytes
  pub record_bytes : ℕ
  pub records_limit : ℕ
  -- of each of a record's three numbers, in bytes
  pub number_bytes : ℕ
  -- how many low bits of info are the type; those above are the symbol index
  pub type_bits : ℕ
  pub names : ℕ → Bool

-- 64 bits. A record is 24 bytes: offset (u64), info (u64), addend (i64); at most 2,048 records. Type is the low 32 bits of info, symbol
-- index the high 32. Every type of the table is named.
abbrev pub card64 : Card
card64 = record { width = 64; record_bytes = 24; records_limit = 49152; number_bytes = 8; type_bits = 32; names = λ t. true }

abbrev pub semantics_on : Card → ℕ → Semantics
semantics_on card t = cond (card.names t) (semantics t) unnamed

-- A value row is 56 bytes, seven u64: a mask, then S, G, PLT, T, IE, GD.
abbrev pub row_bytes : ℕ
row_bytes = 56

-- What a call gives to each of its records. The section's bytes are no part of it, nor the value bytes: only how many there are.
pub record Setting : Type 0 where
  pub card : Card
  -- the section's length in bytes
  pub size : ℕ
  -- how many value rows there are
  pub rows : ℕ
  -- the section's address, and GP
  pub address : ℕ
  pub gp : ℕ

-- A call, but for its records and its section's bytes.
pub record Call : Type 0 where
  pub setting : Setting
  pub values : List ℕ

-- A record, and with it the value row of its symbol. All sums being modulo 2 ^ width, the addend is its bits.
pub record Record : Type 0 where
  pub offset : ℕ
  pub type : ℕ
  pub symbol : ℕ
  pub addend : ℕ
  pub row : List ℕ

-- What a record's type does.
abbrev pub does : Setting → Record → Semantics
does c r = semantics_on c.card r.type

-- ---- a record out of its bytes: three numbers, offset, info and addend

abbrev pub number_in : Card → ℕ → List ℕ → ℕ
number_in card k bytes = number (take card.number_bytes (drop (k * card.number_bytes) bytes))

abbrev pub offset_in : Card → List ℕ → ℕ
offset_in card bytes = number_in card 0 bytes

abbrev pub type_in : Card → List ℕ → ℕ
type_in card bytes = number_in card 1 bytes % 2 ^ card.type_bits

abbrev pub symbol_in : Card → List ℕ → ℕ
symbol_in card bytes = number_in card 1 bytes / 2 ^ card.type_bits

abbrev pub addend_in : Card → List ℕ → ℕ
addend_in card bytes = number_in card 2 bytes

abbrev pub record_with : Card → List ℕ → List ℕ → Record
record_with card bytes row =
    record { offset = offset_in card bytes; type = type_in card bytes; symbol = symbol_in card bytes; addend = addend_in card bytes; row = row }

-- ---- the value rows

abbrev pub rows_of : List ℕ → List (List ℕ)
rows_of values = pieces row_bytes values

-- Symbol 0 has S present and 0, and nothing else. Symbol k from 1 up is row k-1; past the rows nothing is present.
abbrev pub symbol0 : List ℕ
symbol0 = bytes_of 8 1 ++ replicate 48 0

abbrev pub no_row : List ℕ
no_row = replicate row_bytes 0

abbrev pub row_of : List (List ℕ) → ℕ → List ℕ
row_of rows zero = symbol0
row_of rows (suc k) = get_or rows k no_row

abbrev pub record_of : Card → List ℕ → List ℕ → Record
record_of card values bytes = record_with card bytes (row_of (rows_of values) (symbol_in card bytes))

-- The records of a call.
abbrev pub records_of : Call → List ℕ → List Record
records_of c records = map (record_of c.setting.card c.values) (pieces c.setting.card.record_bytes records)

abbrev pub u64 : List ℕ → ℕ → ℕ
u64 s at = number (take 8 (drop at s))

abbrev pub mask : List ℕ → ℕ
mask row = u64 row 0

abbrev pub bit : Value → ℕ
bit S = 0
bit G = 1
bit PLT = 2
bit T = 3
bit IE = 4
bit GD = 5

-- Is the value present in the row, and the word that stands there for it.
abbrev pub present : Value → List ℕ → Bool
present v row = eqb (mask row / 2 ^ bit v % 2) 1

abbrev pub value_in : Value → List ℕ → ℕ
value_in v row = u64 row (8 * (1 + bit v))

-- ---- the sums and formulas at a record

-- PC is section address plus offset.
abbrev pub PC : Setting → Record → ℕ
PC c r = plus c.card.width c.address r.offset

-- The value that a sum or a formula names: the one that refusals 6 and 7 look at.
abbrev pub value_of : Sum → Value
value_of (only v) = v
value_of (with_A v) = v
value_of (with_GP v) = v

abbrev pub sum_of : Formula → Sum
sum_of (whole x) = x
sum_of (x -PC) = x
sum_of (pages x) = x
sum_of (far x) = x

abbrev pub sum : Setting → Record → Sum → ℕ
sum c r (only v) = value_in v r.row
sum c r (with_A v) = plus c.card.width (value_in v r.row) r.addend
sum c r (with_GP v) = plus c.card.width c.gp (value_in v r.row)

abbrev pub formula : Setting → Record → Formula → ℕ
formula c r (whole x) = sum c r x
formula c r (x -PC) = minus c.card.width (sum c r x) (PC c r)
formula c r (pages x) = minus c.card.width (cleared 12 (plus c.card.width (sum c r x) 0x800)) (cleared 12 (PC c r))
formula c r (far x) = minus c.card.width (sum c r x) (cleared 32 (PC c r))
