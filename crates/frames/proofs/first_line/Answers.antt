-- `frames::first_line` meets its contract: a line is its first digits, where a line feed or nothing stands after them.
use Rattle.std.proofs.Common.{◌≡◌, get_or, refl, arith, rules}
use Rattle.std.proofs.lemmas.Slice.{between_to_end}
use Rattle.frames.proofs.Laws.{line_here, line_broken, no_line, feed_first, none_first}
use Rattle.frames.proofs.first_line.Goals as goal

pub returns-in-empty : goal.returns-in-empty
returns-in-empty c = rw c.split_at.ensures.front (line_here c.args.text.now c.split_at.result.1.now _ c.digits_len.ensures c.split_at.ensures.back (no_line _ c.in-empty.len_below).0 _ (no_line _ c.in-empty.len_below).1)

pub returns-in-10 : goal.returns-in-10
returns-in-10 c =
    let feed : get_or c.split_at.result.1.now 0 0 ≡ 10 = search rules in
    rw c.split_at.ensures.front (line_here c.args.text.now c.split_at.result.1.now _ c.digits_len.ensures c.split_at.ensures.back (feed_first _ feed) _ (between_to_end c.split_at.result.1.now 1 _ (omega arith)))

pub returns-in_default : goal.returns-in_default
returns-in_default c =
    let other : get_or c.split_at.result.1.now 0 0 ≡ 10 → ⊥ = search rules in
    (refl, line_broken c.args.text.now c.split_at.result.1.now _ c.digits_len.ensures c.split_at.ensures.back (none_first _ c.in_default.len_at_least other))
