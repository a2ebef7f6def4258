-- `output::put_section` meets its contract: a line more.
use Rattle.std.proofs.Common.{◌∙◌, arith}
use Rattle.std.proofs.lemmas.Grind.{common_steps}
use Rattle.frames.proofs.Laws.{laid_after}
use Rattle.output.specs.Text.{frame02}
use Rattle.output.proofs.Writer.{section_length, section_laid}
use Rattle.output.proofs.put_section.Goals as goal

pub put_line-end-requires : goal.put_line-end-requires
put_line-end-requires c =
    let step = c.in-Some.ensures.steps in
    let n = section_length _ _ _ step.1.0 (rw c.loop-piece.invariant.2 at step.1.1) step.1.2 in
    let i = c.loop-piece.invariant in
    grind (arith, common_steps)

pub loop-piece-preserved : goal.loop-piece-preserved
loop-piece-preserved c =
    let step = c.in-Some.ensures.steps in
    let i = c.loop-piece.invariant in
    let size = rw i.2 at step.1.1 in
    let n = section_length _ _ _ step.1.0 size step.1.2 in
    let e = c.put_line-end.ensures in
    let line = laid_after c.loop-piece.end (frame02 c.in-Some.piece.now) c.loop-piece.out c.put_line-end.new.out e.out_after in (
      omega arith,
      tt,
      step.0 ∙ i.2,
      grind (arith, common_steps),
      omega arith,
      rw (e.value, line) (section_laid _ _ _ step.1.0 size step.1.2 c.loop-piece.end c.loop-piece.out (omega arith) ∙ i.5),
    )
