-- The fields: the parts of a value's bits that go into a word, and out of it again.
use Rattle.std.specs.Prelude.{ℕ, suc, ◌+◌, ◌-◌, ◌*◌, ◌/◌, ◌%◌, ◌^◌, List, [], ◌∷◌}
use Rattle.meaning.specs.Table.{Part, bits◌⋯◌to◌⋯◌}

-- A part `bits h ⋯ l to H ⋯ L`: how many bits it has, the lowest bit of the value and of the word.
abbrev pub many : Part → ℕ
many (bits h ⋯ l to H ⋯ L) = suc h - l

abbrev pub low : Part → ℕ
low (bits h ⋯ l to H ⋯ L) = l

abbrev pub at : Part → ℕ
at (bits h ⋯ l to H ⋯ L) = L

-- The n bits of x from bit k up, as a number.
abbrev pub slice : ℕ → ℕ → ℕ → ℕ
slice k n x = x / 2 ^ k % 2 ^ n

-- The word with the n bits from bit k up replaced by x; all its other bits stay.
abbrev pub splice : ℕ → ℕ → ℕ → ℕ → ℕ
splice k n x w = w / 2 ^ (n + k) * 2 ^ (n + k) + x * 2 ^ k + w % 2 ^ k

-- The value's bits put into a word, part by part.
unfoldable pub put : List Part → ℕ → ℕ → ℕ
put [] x w = w
put (p ∷ ps) x w = put ps x (splice (at p) (many p) (slice (low p) (many p) x) w)

-- How many bits the parts have together, the lowest bit of the value that they have, and the bare field: the word's parts side by
-- side, the first the highest.
unfoldable pub wide : List Part → ℕ
wide [] = 0
wide (p ∷ ps) = many p + wide ps

unfoldable pub lowest : List Part → ℕ
lowest [] = 0
lowest (p ∷ []) = low p
lowest (p ∷ q ∷ ps) = lowest (q ∷ ps)

unfoldable pub bare : List Part → ℕ → ℕ
bare [] w = 0
bare (p ∷ ps) w = slice (at p) (many p) w * 2 ^ wide ps + bare ps w
