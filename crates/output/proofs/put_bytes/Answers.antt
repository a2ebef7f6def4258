-- `output::put_bytes` meets its contract: a byte more is two digits more.
use Rattle.std.proofs.Common.{◌≡◌, ◌+◌, ◌*◌, ◌∙◌, arith}
use Rattle.std.proofs.lemmas.Grind.{common_steps}
use Rattle.output.proofs.Writer.{bytes_next}
use Rattle.output.proofs.put_bytes.Goals as goal

pub loop-i-preserved : goal.loop-i-preserved
loop-i-preserved c =
    let next : 2 * (c.loop-i.i + 1) ≡ 2 * c.loop-i.i + 2 = omega arith in (
      grind (arith, common_steps),
      rw (next, c.digit_for.ensures, c.digit_for-in-loop-i.ensures)
          (bytes_next _ c.loop-i.i c.args.bytes.now c.loop-i.out (omega arith) (c.type_inv.bytes c.loop-i.i).fits (omega arith) ∙ c.loop-i.invariant.1),
    )
