-- `frames::gather` meets its contract: a frame of numbers has the digits of two.
use Rattle.std.proofs.Common.{arith}
use Rattle.frames.proofs.Laws.{two_numbers, piece_digits}
use Rattle.frames.proofs.gather.Goals as goal

pub number-requires : goal.number-requires
number-requires c =
    let n = two_numbers _ _ c.in-Numbers.is c.args.frame.sized in
    piece_digits _ _ c.as_chunks.ensures.front 0 (omega arith) c.args.frame.all_digits

pub number-requires-in-Numbers : goal.number-requires-in-Numbers
number-requires-in-Numbers c =
    let n = two_numbers _ _ c.in-Numbers.is c.args.frame.sized in
    piece_digits _ _ c.as_chunks.ensures.front 1 (omega arith) c.args.frame.all_digits
