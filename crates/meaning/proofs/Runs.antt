-- Runs of the executor, together as one table, and one computed test of it: the edges of each instruction, and of a run.
use Prim.Native.Nat.{ℕ}
use mathlib.Core.Bool.{Bool, ◌&&◌}
use mathlib.Core.List.{List, [], ◌∷◌, ◌++◌}
use lib.Dec.{T, eqb}
use lib.ListN.{set, replicate}
use Rattle.meaning.specs.Numbers.{number, bytes_of, cut}
use Rattle.meaning.specs.Executor.{six, decoded, ran_from, run_of}
use Rattle.meaning.proofs.Cases.{minus, same, all_hold}

-- A run from registers that hold 7 at the start, the first of them too, and what it must answer and leave.
pub record Run : Type 0 where
  pub bytes : List ℕ
  pub start : ℕ
  pub number : ℕ
  pub place : ℕ
  pub left : List ℕ

pub holds : Run → Bool
holds e =
    let r = run_of e.bytes e.start (replicate 32 7) in
    eqb r.number e.number && eqb r.place e.place && same r.registers e.left

-- the bytes of words
pub words : List ℕ → List ℕ
words [] = []
words (w ∷ ws) = bytes_of 4 w ++ words ws

-- what is left where nothing is written
pub sevens : List ℕ
sevens = 0 ∷ replicate 31 7

-- a run of words, from an address, that is accepted and leaves this
pub gives : List ℕ → ℕ → ℕ → List ℕ → Run
gives ws start count left = record { bytes = words ws; start = start; number = 0; place = count; left = left }

-- one that is refused
pub refused : List ℕ → ℕ → ℕ → List ℕ → Run
refused bytes number place left = record { bytes = bytes; start = 0; number = number; place = place; left = left }

-- $r4 is written, and $r5 read
pub runs : List Run
runs =
    -- no word: no register but the first changes
    gives [] 0 0 sevens ∷
    -- lu12i.w: 7ffffh and 80000h, whose sign goes up to bit 63
    gives (0x14ffffe4 ∷ []) 0 1 (set sevens 4 0x7ffff000) ∷
    gives (0x15000004 ∷ []) 0 1 (set sevens 4 0xffffffff80000000) ∷
    -- ori: fffh, which has no sign
    gives (0x03bffca4 ∷ []) 0 1 (set sevens 4 0xfff) ∷
    -- lu32i.d: 7ffffh and 80000h, whose sign goes up to bit 63; the low half stays, and the upper half goes
    gives (0x16ffffe4 ∷ []) 0 1 (set sevens 4 0x0007ffff00000007) ∷
    gives (0x17000004 ∷ []) 0 1 (set sevens 4 0xfff8000000000007) ∷
    gives (0x17000004 ∷ 0x16000004 ∷ []) 0 2 (set sevens 4 7) ∷
    -- lu52i.d: fffh, above the low 52 bits
    gives (0x033ffca4 ∷ []) 0 1 (set sevens 4 0xfff0000000000007) ∷
    -- addi.d: 7ffh and -8; the sum is modulo 2 ^ 64
    gives (0x02dffca4 ∷ []) 0 1 (set sevens 4 0x806) ∷
    gives (0x02ffe0a4 ∷ []) 0 1 (set sevens 4 (minus 1)) ∷
    -- pcalau12i: 1 and 80000h, from 1ffch and from 2000h, the word after it
    gives (0x1a000024 ∷ []) 0x1ffc 1 (set sevens 4 0x2000) ∷
    gives (0x1b000004 ∷ []) 0x1ffc 1 (set sevens 4 0xffffffff80001000) ∷
    gives (0x1a000025 ∷ 0x1a000024 ∷ []) 0x1ffc 2 (set (set sevens 4 0x3000) 5 0x2000) ∷
    -- the last page, and the first word after the last address
    gives (0x1a000024 ∷ []) (minus 4) 1 (set sevens 4 0) ∷
    gives (0x1a000025 ∷ 0x1a000024 ∷ []) (minus 4) 2 (set (set sevens 4 0x1000) 5 0) ∷
    -- a write to the first register is lost: lu12i.w $r0, 80000h; addi.d $r4, $r0, 1
    gives (0x15000000 ∷ 0x02c00404 ∷ []) 0 2 (set sevens 4 1) ∷
    -- 19: addi.w $r4, $r5, 0, alone and after ori $r4, $r5, fffh; a last piece of 3 bytes, and of 1
    refused (words (0x028000a4 ∷ [])) 19 0 sevens ∷
    refused (words (0x03bffca4 ∷ 0x028000a4 ∷ 0x15000004 ∷ [])) 19 1 (set sevens 4 0xfff) ∷
    refused (0x04 ∷ 0x00 ∷ 0x15 ∷ []) 19 0 sevens ∷
    refused (words (0x03bffca4 ∷ []) ++ (0x15 ∷ [])) 19 1 (set sevens 4 0xfff) ∷
    -- each opcode less one bit, and more
    refused (words (0x04000004 ∷ [])) 19 0 sevens ∷
    refused (words (0x94000004 ∷ [])) 19 0 sevens ∷
    refused (words (0x18000004 ∷ [])) 19 0 sevens ∷
    refused (words (0x1c000004 ∷ [])) 19 0 sevens ∷
    refused (words (0x03400004 ∷ [])) 19 0 sevens ∷
    refused (words (0x83800004 ∷ [])) 19 0 sevens ∷
    -- 1: 4,097 words; 4,096 are not too long
    refused (replicate 16388 0) 1 0 sevens ∷
    refused (replicate 16385 0) 1 0 sevens ∷
    refused (replicate 16384 0) 19 0 sevens ∷
    []

pub runs_hold : T (all_hold holds runs)
unfolding all_hold holds runs gives refused sevens words same minus number bytes_of cut six decoded ran_from
runs_hold = tt
