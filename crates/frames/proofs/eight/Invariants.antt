-- What the loop of `frames::eight` keeps: the bytes so far, with those of the digits that are left.
use Rattle.std.proofs.Common.{◌≡◌, ◌*◌, length, drop}
use Rattle.meaning.specs.Frames.{bytes_in}
use Rattle.frames.specs.Text.{laid}
use Rattle.frames.proofs.eight.Given as goal

abbrev pub invariant-loop-i : goal.invariant-loop-i
invariant-loop-i l = (length l.bytes ≡ 8) × (laid l.i (bytes_in (drop (2 * l.i) l.digits)) l.bytes ≡ bytes_in l.digits)
