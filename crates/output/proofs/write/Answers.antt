-- `output::write` meets its contract: each part goes on from the one before it.
use Rattle.std.proofs.Common.{rules}
use Rattle.frames.proofs.Laws.{laid_after}
use Rattle.output.proofs.Writer.{whole}
use Rattle.output.proofs.write.Goals as goal

pub returns-then-number-eq0-clause-out_after : goal.returns-then-number-eq0-clause-out_after
returns-then-number-eq0-clause-out_after c =
    rw (laid_after _ _ _ _ c.put_section.ensures.out_after, laid_after _ _ _ _ c.put_place-end.ensures.out_after) (search (whole, rules))

pub returns-clause-out_after : goal.returns-clause-out_after
returns-clause-out_after c = rw (laid_after _ _ _ _ c.put_place.ensures.out_after) (search (whole, rules))
