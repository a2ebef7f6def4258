-- The executor of document 02: six instructions by the LoongArch reference manual, run one after the other on 32 registers of 64 bits.
use Rattle.std.specs.Prelude.{ℕ, suc, ◌+◌, ◌*◌, ◌/◌, ◌^◌, cond, List, [], ◌∷◌, eqb, ltb, length, get_or, set}
use Rattle.std.proofs.Math.Option.{Option, none, some}
use Rattle.std.specs.Int.Bits.{bit_or}
use Rattle.meaning.specs.Numbers.{number, plus, cleared, signed, bits_of, cut}
use Rattle.meaning.specs.Field.{slice}

pub data Instruction : Type 0 where
  lu12i_w lu32i_d lu52i_d ori addi_d pcalau12i : Instruction

-- ---- which bits of a word say what

-- The manual's two formats. 1RI20: an opcode of 7 bits, an immediate of 20, rd. 2RI12: an opcode of 10 bits, an immediate of 12, rj, rd.
pub data Format : Type 0 where
  1RI20 2RI12 : Format

abbrev pub opcode : Format → ℕ → ℕ
opcode 1RI20 word = slice 25 7 word
opcode 2RI12 word = slice 22 10 word

abbrev pub i20 : ℕ → ℕ
i20 word = slice 5 20 word

abbrev pub i12 : ℕ → ℕ
i12 word = slice 10 12 word

abbrev pub rj : ℕ → ℕ
rj word = slice 5 5 word

abbrev pub rd : ℕ → ℕ
rd word = slice 0 5 word

-- The six by their format, each with its opcode, the bits of which stand above it.
pub data Code : Type 0 where
  code : Format → ℕ → Instruction → Code

unfoldable pub six : List Code
six =
    -- 0001010
    code 1RI20 0x0a lu12i_w ∷
    -- 0001011
    code 1RI20 0x0b lu32i_d ∷
    -- 0001101
    code 1RI20 0x0d pcalau12i ∷
    -- 0000001100
    code 2RI12 0x0c lu52i_d ∷
    -- 0000001011
    code 2RI12 0x0b addi_d ∷
    -- 0000001110
    code 2RI12 0x0e ori ∷
    []

unfoldable pub decoded : List Code → ℕ → Option Instruction
decoded [] word = none
decoded (code format is instruction ∷ more) word = cond (eqb (opcode format word) is) (some instruction) (decoded more word)

-- The instruction that a word's four bytes hold, if it is one of the six. A last piece of fewer bytes is none.
abbrev pub instruction : List ℕ → Option Instruction
instruction bytes = cond (eqb (length bytes) 4) (decoded six (number bytes)) none

-- ---- what an instruction does

-- What register k holds. The first is always zero: a write to it is lost.
abbrev pub GR : List ℕ → ℕ → ℕ
GR registers k = get_or registers k 0

abbrev pub first_zero : List ℕ → List ℕ
first_zero registers = set registers 0 0

abbrev pub written : List ℕ → ℕ → ℕ → List ℕ
written registers k x = first_zero (set registers k x)

-- n bits, read as a signed number, in w bits.
abbrev pub SignExtend : ℕ → ℕ → ℕ → ℕ
SignExtend n x w = bits_of w (signed n x)

-- What it writes to rd, by the manual's line. {a, b} is a above the bits of b, x[n:0] the bits of x from n down.
abbrev pub result : Instruction → ℕ → ℕ → List ℕ → ℕ
-- GR[rd] = SignExtend({si20, 12'b0}, 64)
result lu12i_w pc word registers = SignExtend 32 (i20 word * 2 ^ 12) 64
-- GR[rd] = {SignExtend(si20, 32), GR[rd][31:0]}
result lu32i_d pc word registers = SignExtend 20 (i20 word) 32 * 2 ^ 32 + slice 0 32 (GR registers (rd word))
-- GR[rd] = {si12, GR[rj][51:0]}
result lu52i_d pc word registers = i12 word * 2 ^ 52 + slice 0 52 (GR registers (rj word))
-- GR[rd] = GR[rj] | ZeroExtend(ui12, 64)
result ori pc word registers = bit_or (GR registers (rj word)) (i12 word)
-- GR[rd] = (GR[rj] + SignExtend(si12, 64))[63:0]
result addi_d pc word registers = plus 64 (GR registers (rj word)) (SignExtend 12 (i12 word) 64)
-- GR[rd] = {(PC + SignExtend({si20, 12'b0}, 64))[63:12], 12'b0}
result pcalau12i pc word registers = cleared 12 (plus 64 pc (SignExtend 32 (i20 word * 2 ^ 12) 64))

abbrev pub step : ℕ → Instruction → ℕ → List ℕ → List ℕ
step pc i word registers = written registers (rd word) (result i pc word registers)

-- ---- a run

-- What a run comes to: the number of refusal, 0 for none, its place, and the registers.
pub record Ran : Type 0 where
  pub number : ℕ
  pub place : ℕ
  pub registers : List ℕ

abbrev pub ran : ℕ → ℕ → List ℕ → Ran
ran n p registers = record { number = n; place = p; registers = registers }

-- At most 4,096 words.
abbrev pub run_limit : ℕ
run_limit = 16384

-- A run's words, four bytes each. A last piece of 1 to 3 bytes is one of them.
abbrev pub words_of : List ℕ → List (List ℕ)
words_of run = cut 4 ((length run + 3) / 4) run

-- What a run comes to where the next word is an instruction, and where it is none.
abbrev pub either : Option Instruction → (Instruction → Ran) → Ran → Ran
either none then else = else
either (some i) then else = then i

-- The words from number i on, with the registers before them; PC is the start address plus 4 for each word before. 19: a word is none of
-- the six. After the last word: 0, and the number of words.
unfoldable pub ran_from : ℕ → ℕ → List ℕ → List (List ℕ) → Ran
ran_from start i registers [] = ran 0 i registers
ran_from start i registers (word ∷ more) =
    either (instruction word)
    (λ ins. ran_from start (suc i) (step (plus 64 start (4 * i)) ins (number word) registers) more)
    (ran 19 i registers)

-- A run from its start address. 1 is tested first.
abbrev pub run_of : List ℕ → ℕ → List ℕ → Ran
run_of run start registers =
    cond (ltb run_limit (length run)) (ran 1 0 (first_zero registers)) (ran_from start 0 (first_zero registers) (words_of run))
