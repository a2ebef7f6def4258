-- What the program's functions promise of the output.
use Rattle.std.specs.Prelude.{ℕ, List, ◌++◌, ◌≡◌, length, drop, ⊤, Option, Some, None}
use Rattle.std.specs.Io.KnownBytes.{Appends}
use Rattle.meaning.specs.Patch.{call, answer_of, section_of}
use Rattle.meaning.specs.Frames.{written, output_of}

-- The r bytes w stand in front of a buffer, and the rest is as it came.
pub record Output (r : ℕ) (w came is : List ℕ) : Type 0 where
  pub bytes : is ≡ w ++ drop r came
  pub count : r ≡ length w

-- The output of a patch.
abbrev pub output_patched : List ℕ → List ℕ → List ℕ → ℕ → ℕ → List ℕ
output_patched section records values address gp =
    written (answer_of (call section values address gp) records) (section_of (call section values address gp) records section)

-- Of all the bytes that were left to read, where they are known, the output is written after what was written before.
abbrev pub Answered : Option (List ℕ) → Option (List ℕ) → Option (List ℕ) → Type 0
Answered None before after = ⊤
Answered (Some left) before after = Appends before after (output_of left)
