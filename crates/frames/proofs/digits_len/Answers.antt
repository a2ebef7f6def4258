-- `frames::digits_len` meets its contract: the digits of the whole pieces, and those after them.
use Rattle.std.proofs.Common.{arith}
use Rattle.frames.proofs.Laws.{digits_whole, digits_inside}
use Rattle.frames.proofs.digits_len.Goals as goal

pub overflow_add-result : goal.overflow_add-result
overflow_add-result c =
    let all = digits_whole _ _ _ c.whole_pieces-whole.ensures (rw c.split_at.ensures.back at c.single_digits.ensures) in
    omega (arith, digits_inside c.args.text.now)

pub returns : goal.returns
returns c = digits_whole _ _ _ c.whole_pieces-whole.ensures (rw c.split_at.ensures.back at c.single_digits.ensures)
