-- What the loops of `frames::lay` keep.
use Rattle.std.proofs.Common.{◌≡◌, ℕ, ◌+◌, ◌*◌, ◌/◌, List, length, drop}
use Rattle.meaning.specs.Frames.{bytes_in}
use Rattle.frames.specs.Text.{laid}
use Rattle.frames.proofs.lay.Given as goal

-- with the bytes of the digits that are left, the buffer is what it was with those of all
abbrev pub Left : List ℕ → List ℕ → ℕ → List ℕ → List ℕ → Type 0
Left digits came end left buffer = (length buffer ≡ length came) × (laid end (bytes_in left) buffer ≡ laid 0 (bytes_in digits) came)

abbrev pub invariant-loop-i : goal.invariant-loop-i
invariant-loop-i l = Left l.digits l.fn.buffer (8 * l.i) (drop (16 * l.i) l.digits) l.buffer

abbrev pub invariant-loop-i-2 : goal.invariant-loop-i-2
invariant-loop-i-2 l = Left l.digits l.fn.buffer (8 * (length l.digits / 16) + l.i) (drop (2 * l.i) (drop (length l.digits / 16 * 16) l.digits)) l.buffer
