-- Numbers: bytes as numbers, sums modulo 2 ^ w, and the signed reading at w bits.
-- A byte is a number below 256, and a list of bytes stands in the order of the addresses.
use Rattle.std.specs.Prelude.{ℕ, zero, suc, ◌+◌, ◌-◌, ◌*◌, ◌/◌, ◌%◌, ◌^◌, cond, List, [], ◌∷◌, ℤ, pos, negsuc, ltb, length, take, drop}

-- the number that bytes hold, little-endian
unfoldable pub number : List ℕ → ℕ
number [] = 0
number (b ∷ bs) = b + 256 * number bs

-- the low n bytes of x, little-endian
unfoldable pub bytes_of : ℕ → ℕ → List ℕ
bytes_of zero x = []
bytes_of (suc n) x = x % 256 ∷ bytes_of n (x / 256)

-- "modulo 2^w": the sum and the difference
abbrev pub plus : ℕ → ℕ → ℕ → ℕ
plus w a b = (a + b) % 2 ^ w

abbrev pub minus : ℕ → ℕ → ℕ → ℕ
minus w a b = (a + (2 ^ w - b % 2 ^ w)) % 2 ^ w

-- x with its low k bits cleared
abbrev pub cleared : ℕ → ℕ → ℕ
cleared k x = x / 2 ^ k * 2 ^ k

-- w bits read as a signed number, and a signed number's w bits
abbrev pub signed : ℕ → ℕ → ℤ
signed w x = cond (ltb x (2 ^ (w - 1))) (pos x) (negsuc (2 ^ w - suc x))

abbrev pub bits_of : ℕ → ℤ → ℕ
bits_of w (pos n) = n
bits_of w (negsuc n) = 2 ^ w - suc n

-- bytes cut into n pieces of `size` bytes
unfoldable pub cut : ℕ → ℕ → List ℕ → List (List ℕ)
cut size zero s = []
cut size (suc n) s = take size s ∷ cut size n (drop size s)

-- the whole pieces of `size` bytes that a buffer holds
abbrev pub pieces : ℕ → List ℕ → List (List ℕ)
pieces size s = cut size (length s / size) s
