-- Bytes of text, as the code goes through them.
use Rattle.std.specs.Prelude.{ℕ, suc, ◌≡◌, ◌+◌, true, cond, List, [], ◌∷◌, ◌++◌, eqb, ltb, length, take, drop}
use Rattle.meaning.specs.Frames.{digit, all_digits, kind, well_formed}

-- how many bytes stand before the first line feed, or before the end
unfoldable pub line_length : List ℕ → ℕ
line_length [] = 0
line_length (b ∷ bs) = cond (eqb b 10) 0 (suc (line_length bs))

-- the line that a text begins with, where it is of digits alone, and the text after its line feed
pub record FirstLine (text line rest : List ℕ) : Type 0 where
  pub line_is : line ≡ take (line_length text) text
  pub digits : all_digits line ≡ true
  pub rest_is : rest ≡ drop (line_length text + 1) text

-- how many digits stand before the first byte that is none, or before the end
unfoldable pub digits_length : List ℕ → ℕ
digits_length [] = 0
digits_length (b ∷ bs) = cond (ltb (digit b) 16) (suc (digits_length bs)) 0

-- a line that is a well-formed frame after one of kind `last`, by its kind and the digits of its bytes
pub record IsFrame (last : ℕ) (line : List ℕ) (k : ℕ) (digits : List ℕ) : Type 0 where
  pub formed : well_formed last line ≡ true
  pub kind_is : k ≡ kind line
  pub digits_are : digits ≡ drop 2 line

-- the bytes w laid over those of s from a place on; every other byte stays
unfoldable pub laid : ℕ → List ℕ → List ℕ → List ℕ
laid at w s = take at s ++ (w ++ drop (at + length w) s)
