-- The edges that document 01 marks P, with those that document 02 sets beside them, together as one table, and one computed test of it.
use Prim.Native.Nat.{ℕ, ◌+◌, ◌-◌, ◌*◌, ◌^◌}
use mathlib.Core.List.{List, [], ◌∷◌, ◌++◌}
use lib.Dec.{T}
use lib.ListN.{replicate}
use Rattle.meaning.specs.Numbers.{number, bytes_of, cut}
use Rattle.meaning.specs.Table.{table, look}
use Rattle.meaning.specs.Field.{put}
use Rattle.meaning.specs.Checks.{first, of_records, of_masks, checks}
use Rattle.meaning.specs.Patch.{patched}
use Rattle.meaning.proofs.Cases.{rela, push, minus, Case, same, holds, all_hold}

-- a value row with S present alone
pub row_s : ℕ → List ℕ
row_s s = bytes_of 8 1 ++ bytes_of 8 s ++ replicate 40 0

-- an accepted call at address 0, on a section that holds the word 0
pub gives : List ℕ → ℕ → List ℕ → Case
gives records place left =
    record { section = bytes_of 4 0; records = records; values = []; address = 0; gp = 0; number = 0; place = place; offset = 0; left = left }

-- a refused one, on a section that holds two of them
pub refused : List ℕ → ℕ → ℕ → ℕ → Case
refused records number place offset =
    record {
      section = bytes_of 8 0;
      records = records;
      values = [];
      address = 0;
      gp = 0;
      number = number;
      place = place;
      offset = offset;
      left = bytes_of 8 0;
    }

-- an accepted call of one record with this S and A, PC being 12340004h, that leaves this in a word 0
pub from_12340004 : ℕ → ℕ → ℕ → ℕ → Case
from_12340004 t s a left =
    record {
      section = bytes_of 8 0;
      records = rela 4 t 1 a;
      values = row_s s;
      address = 0x12340000;
      gp = 0;
      number = 0;
      place = 1;
      offset = 0;
      left = bytes_of 4 0 ++ bytes_of 4 left;
    }

pub edges : List Case
edges =
    -- the frame case as a patch: address 1000h, one word 50000000h, S = 1010h, type 66 at 0
    record {
      section = 0 ∷ 0 ∷ 0 ∷ 0x50 ∷ [];
      records = rela 0 66 1 0;
      values = row_s 0x1010;
      address = 0x1000;
      gp = 0;
      number = 0;
      place = 1;
      offset = 0;
      left = 0 ∷ 0x10 ∷ 0 ∷ 0x50 ∷ [];
    } ∷
    -- empty list, place 0, section unchanged
    record { section = 1 ∷ 2 ∷ 3 ∷ []; records = []; values = []; address = 7; gp = 0; number = 0; place = 0; offset = 0; left = 1 ∷ 2 ∷ 3 ∷ [] } ∷
    -- type 64 with 131,068 gives field 7fffh; 131,072 is 14, -131,076 is 18; 131,070 is 15. Of the refused the PC is 4.
    gives (rela 0 64 0 131068) 1 (bytes_of 4 (0x7fff * 2 ^ 10)) ∷
    refused (rela 4 64 0 (4 + 131072)) 14 0 4 ∷
    refused (rela 4 64 0 (minus (131076 - 4))) 18 0 4 ∷
    refused (rela 4 64 0 (4 + 131070)) 15 0 4 ∷
    -- type 44, value -4, word 0 gives 03fffc1fh
    gives (push (minus 4) ++ rela 0 44 0 0) 2 (bytes_of 4 0x03fffc1f) ∷
    -- type 38: 16 is 14, -17 is 18
    refused (push 16 ++ rela 4 38 0 0) 14 1 4 ∷
    refused (push (minus 17) ++ rela 4 38 0 0) 18 1 4 ∷
    -- type 49 on ff ff ff with S+A = 1 gives 00 00 00, the next byte kept
    record {
      section = 0xff ∷ 0xff ∷ 0xff ∷ 0xab ∷ [];
      records = rela 0 49 0 1;
      values = [];
      address = 0;
      gp = 0;
      number = 0;
      place = 1;
      offset = 0;
      left = 0 ∷ 0 ∷ 0 ∷ 0xab ∷ [];
    } ∷
    -- -5 shifted right by 1 is -3, whose five low bits are 1dh; a count of 64 is 12
    gives (push (minus 5) ++ push 1 ++ rela 0 34 0 0 ++ rela 0 38 0 0) 4 (bytes_of 4 (0x1d * 2 ^ 10)) ∷
    refused (push (minus 5) ++ push 64 ++ rela 5 34 0 0 ++ rela 0 38 0 0) 12 2 5 ∷
    -- pushes 0, 7, 9 then 37 leave 9
    gives (push 0 ++ push 7 ++ push 9 ++ rela 0 37 0 0 ++ rela 0 38 0 0) 5 (bytes_of 4 (9 * 2 ^ 10)) ∷
    -- type 71, S+A = 12345678h, PC = 12340004h, word 0 gives a0h; 123457ffh gives 5 as well, 12345800h gives 6
    from_12340004 71 0x12345600 0x78 0xa0 ∷
    from_12340004 71 0x12345000 0x7ff (5 * 2 ^ 5) ∷
    from_12340004 71 0x12345000 0x800 (6 * 2 ^ 5) ∷
    -- the absolute families stay, as do the 64 parts: 67 with 12345800h, 73 with 1fffff800h
    from_12340004 67 0x12345000 0x800 (0x12345 * 2 ^ 5) ∷
    from_12340004 73 0x1fffff000 0x800 (1 * 2 ^ 5) ∷
    []

pub edges_hold : T (all_hold holds edges)
unfolding all_hold holds edges gives refused from_12340004 same rela row_s push minus number bytes_of cut table look put first of_records of_masks checks patched
edges_hold = tt
