-- What the loop of `output::put_section` keeps: with the lines of what is left, the output is what it was with all.
use Rattle.std.proofs.Common.{◌≡◌, ◌+◌, length}
use Rattle.std.specs.Slice.Iter.{chunks_rest, chunks_size}
use Rattle.meaning.specs.Frames.{section_lines}
use Rattle.frames.specs.Text.{laid}
use Rattle.output.proofs.put_section.Given as goal

abbrev pub invariant-loop-piece : goal.invariant-loop-piece
invariant-loop-piece l =
    (goal.iterator-loop-piece).can_next l.piece-iterator × (goal.iterator-loop-piece).is_finite l.piece-iterator × (chunks_size l.piece-iterator ≡ 64)
    × (length l.out ≡ length l.fn.out) × (l.end + length (section_lines (chunks_rest l.piece-iterator)) ≡ length (section_lines l.section))
    × (laid l.end (section_lines (chunks_rest l.piece-iterator)) l.out ≡ laid 0 (section_lines l.section) l.fn.out)
