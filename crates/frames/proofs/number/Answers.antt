-- `frames::number` meets its contract: eight bytes, the highest first, are the number of their digits.
use Rattle.std.proofs.Common.{◌∙◌}
use Rattle.frames.proofs.Laws.{number_of}
use Rattle.frames.proofs.number.Goals as goal

pub returns : goal.returns
returns c = c.from_be_bytes.ensures ∙ rw c.eight.ensures (number_of c.args.digits.now c.told-digits)
