-- `frames::lay` meets its contract: a piece of eight bytes more, and then a byte more.
use Rattle.std.proofs.Common.{◌∙◌, ◌≡◌, true, sym, ◌+◌, ◌*◌, ◌/◌, length, arith}
use Rattle.std.proofs.lemmas.Grind.{common_steps}
use Rattle.meaning.specs.Frames.{all_digits}
use Rattle.frames.proofs.Laws.{piece_digits, length_part, laid_piece, pair_digits, laid_pair, laid_done, digits_left}
use Rattle.frames.proofs.lay.Goals as goal

pub eight-requires : goal.eight-requires
eight-requires c = piece_digits c.args.digits.now _ c.as_chunks.ensures.front c.loop-i.i (omega arith) c.requires.all_digits

pub loop-i-preserved : goal.loop-i-preserved
loop-i-preserved c =
    let w = c.copy_from_slice.ensures.after ∙ c.eight.ensures in
    let next : 8 * (c.loop-i.i + 1) ≡ 8 * c.loop-i.i + 8 = omega arith in (
      length_part c.args.digits.now _ c.as_chunks.ensures.front c.loop-i.i (omega arith) (8 * c.loop-i.i) c.loop-i.buffer _ (omega arith) w ∙ c.loop-i.invariant.0,
      rw next (laid_piece c.args.digits.now _ c.as_chunks.ensures.front c.loop-i.i (omega arith) (8 * c.loop-i.i) c.loop-i.buffer _ (omega arith) w ∙ c.loop-i.invariant.1),
    )

pub byte-requires : goal.byte-requires
byte-requires c =
    let left : all_digits c.as_chunks.result.1.now ≡ true = rw c.as_chunks.ensures.back (digits_left _ _ c.requires.all_digits) in
    pair_digits _ _ c.as_chunks-2.ensures.front c.loop-i-2.i (omega arith) left

pub loop-i-2-preserved : goal.loop-i-2-preserved
loop-i-2-preserved c =
    let next : 8 * (length c.args.digits.now / 16) + (c.loop-i-2.i + 1) ≡ 8 * (length c.args.digits.now / 16) + c.loop-i-2.i + 1 = omega arith in (
      grind (arith, common_steps),
      rw (next, c.as_chunks.ensures.front_len, ← c.as_chunks.ensures.back)
          (laid_pair c.as_chunks.result.1.now _ c.as_chunks-2.ensures.front c.loop-i-2.i (omega arith) _ _ c.loop-i-2.buffer (omega arith) c.byte.ensures ∙ rw c.as_chunks.ensures.back c.loop-i-2.invariant.1),
    )

pub returns : goal.returns
returns c =
    sym (laid_done (8 * (length c.args.digits.now / 16) + c.loop-i-2.i) (2 * c.loop-i-2.i) c.as_chunks.result.1.now c.loop-i-2.buffer (omega arith))
    ∙ rw c.as_chunks.ensures.back c.loop-i-2.invariant.1
