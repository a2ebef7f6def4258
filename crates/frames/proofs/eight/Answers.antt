-- `frames::eight` meets its contract: a byte more is two digits more.
use Rattle.std.proofs.Common.{◌∙◌, arith}
use Rattle.std.proofs.lemmas.Grind.{common_steps}
use Rattle.frames.proofs.Laws.{pair_digits, laid_pair}
use Rattle.frames.proofs.eight.Goals as goal

pub byte-requires : goal.byte-requires
byte-requires c = pair_digits c.args.digits.now _ c.as_chunks.ensures.front c.loop-i.i (omega arith) c.requires

pub loop-i-preserved : goal.loop-i-preserved
loop-i-preserved c =
    (grind (arith, common_steps), laid_pair c.args.digits.now _ c.as_chunks.ensures.front c.loop-i.i (omega arith) c.loop-i.i _ c.loop-i.bytes (omega arith) c.byte.ensures ∙ c.loop-i.invariant.1)
