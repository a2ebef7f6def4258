-- Ranges, by their two ends.
use Rattle.std.specs.Prelude.{Bool, ◌&&◌, ℤ, int_le}

-- Whether z lies from l to h.
abbrev pub between : ℤ → ℤ → ℤ → Bool
between l h z = int_le l z && int_le z h
