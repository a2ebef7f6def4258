-- What reading the input promises of a reader whose bytes are known: the first of them. Of standard input no contract can say which bytes are
-- read.
use Rattle.std.specs.Prelude.{ℕ, List, ◌≡◌, length, take, ⊤, Option, Some, None}

-- The buffer begins with the first of the bytes that were left to read, as many as it holds or as there are, which are n.
abbrev pub Takes : ℕ → Option (List ℕ) → List ℕ → Type 0
Takes n None buffer = ⊤
Takes n (Some left) buffer = take n buffer ≡ take (length buffer) left
