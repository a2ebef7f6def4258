-- Eight bytes, or four, as the library reads them. Assumes nothing.
use Rattle.std.specs.Prelude.{◌≡◌, List, ℕ, ◌≤◌, length}
use Rattle.std.proofs.Common.{arith, take_all}
use Rattle.std.specs.Int.{w32, w64, from_le_bytes}
use Rattle.meaning.specs.Numbers.{number}
use Rattle.lemmas.specs.Bytes.{summed, number-summed}

pub read_8 : (p : List ℕ) → length p ≤ 8 → from_le_bytes w64 p ≡ number p
read_8 p h = let w : number p ≡ summed 8 0 p = rw (take_all 8 p h) at (number-summed 8 0 p) in omega arith

pub read_4 : (p : List ℕ) → length p ≤ 4 → from_le_bytes w32 p ≡ number p
read_4 p h = let w : number p ≡ summed 4 0 p = rw (take_all 4 p h) at (number-summed 4 0 p) in omega arith
