-- What reading a field gives.
use Rattle.std.specs.Prelude.{ℕ, ◌^◌, ◌<◌, List, ◌≡◌, sum_by}
use Rattle.meaning.specs.Table as M
use Rattle.meaning.specs.Field.{bare}
use Rattle.table.specs.declared.Part.{Part}

-- How many bits the parts have together.
abbrev pub bits_in : List Part → ℕ
bits_in parts = sum_by (λ part. part.many) parts

-- x is the bare field of these parts of a word, and so has at most n bits.
pub record Bare (parts : List M.Part) (n word x : ℕ) : Type 0 where
  pub is : x ≡ bare parts word
  pub small : x < 2 ^ n
