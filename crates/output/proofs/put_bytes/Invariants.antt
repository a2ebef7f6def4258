-- What the loop of `output::put_bytes` keeps.
use Rattle.std.proofs.Common.{◌≡◌, ◌*◌, length, drop}
use Rattle.meaning.specs.Frames.{digits_of}
use Rattle.frames.specs.Text.{laid}
use Rattle.output.proofs.put_bytes.Given as goal

abbrev pub invariant-loop-i : goal.invariant-loop-i
invariant-loop-i l = (length l.out ≡ length l.fn.out) × (laid (2 * l.i) (digits_of (drop l.i l.bytes)) l.out ≡ laid 0 (digits_of l.bytes) l.fn.out)
