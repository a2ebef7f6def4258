-- What reading bytes as a number gives.
use Rattle.std.specs.Prelude.{◌≡◌, List, ℕ, ◌*◌, ◌^◌, ◌<◌, take}
use Rattle.meaning.specs.Numbers.{number}

-- r is the number that the first n bytes of s hold, and so has at most 8 * n bits
pub record Little (n : ℕ) (s : List ℕ) (r : ℕ) : Type 0 where
  pub is : r ≡ number (take n s)
  pub small : r < 2 ^ (8 * n)
