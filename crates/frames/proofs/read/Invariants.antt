-- `frames::read` ends, and what holds between two lines.
use Rattle.std.proofs.Common.{length}
use Rattle.frames.specs.Kinds.{last_number}
use Rattle.frames.proofs.Reader.{State}
use Rattle.frames.proofs.read.Given as goal

abbrev pub invariant-loop-left : goal.invariant-loop-left
invariant-loop-left l = State l.input l.fn.section l.fn.values l.fn.records l.section l.values l.records l.got (last_number l.last) l.lines l.left

abbrev pub decreases-loop-left : goal.decreases-loop-left
decreases-loop-left l = length l.left
