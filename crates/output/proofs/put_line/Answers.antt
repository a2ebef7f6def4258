-- `output::put_line` meets its contract: the kind, the bytes after it, and the line feed.
use Rattle.std.proofs.Common.{rules}
use Rattle.frames.proofs.Laws.{laid_after}
use Rattle.output.proofs.Writer.{pieces}
use Rattle.output.proofs.put_line.Goals as goal

pub returns-clause-out_after : goal.returns-clause-out_after
returns-clause-out_after c = rw (laid_after _ _ _ _ c.put_bytes-2.ensures) (search (pieces, rules))
