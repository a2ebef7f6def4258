-- `frames::Frame::in_line` meets its contract.
use Rattle.std.proofs.Common.{◌≡◌, false, length, refl, sym, ap, ◌∙◌, arith, rules}
use Rattle.std.proofs.lemmas.Slice.{between_to_end}
use Rattle.refusals.specs.declared.Refusal.TheVariants.{BadLine}
use Rattle.meaning.specs.Frames.{well_formed}
use Rattle.frames.specs.Kinds.{last_number}
use Rattle.frames.proofs.Laws.{both, no_kind, digits_at, digits_part, bad_kind, its_frame, is_frame}
use Rattle.frames.proofs.Frame.in_line.Goals as goal

pub returns-in_default : goal.returns-in_default
returns-in_default c = (refl, no_kind _ _ c.in_default.len_below)

pub byte-requires : goal.byte-requires
byte-requires c = (digits_at _ 0 c.requires (omega arith), digits_at _ 1 c.requires (omega arith))

pub returns-in_err-kind : goal.returns-in_err-kind
returns-in_err-kind c =
    let bad : (c.in_err-kind.field-0.0 ≡ BadLine) × (well_formed (last_number c.args.last) c.args.line.now ≡ false) =
    bad_kind _ _ c.args.line.now c.in-len2-up.len_at_least c.requires c.byte.ensures _ (sym c.try_from.ensures ∙ c.in_err-kind.was) in
    search rules

pub returns-then-not-makes_frame : goal.returns-then-not-makes_frame
returns-then-not-makes_frame c =
    let tail = between_to_end c.args.line.now 2 _ (omega arith) in
    (refl, sym (its_frame _ _ c.args.line.now c.in-len2-up.len_at_least c.requires c.byte.ensures _ _ (sym c.try_from.ensures ∙ c.in_ok-kind.was) (ap length tail)) ∙ sym c.if-not-makes_frame.ensures)

pub invariant_of-result-clause-all_digits : goal.invariant_of-result-clause-all_digits
invariant_of-result-clause-all_digits c = digits_part 2 _ c.args.line.now c.requires

pub invariant_of-result-clause-sized : goal.invariant_of-result-clause-sized
invariant_of-result-clause-sized c = (both _ _ (sym c.if-not-makes_frame.ensures)).1

pub returns : goal.returns
returns c =
    is_frame _ _ c.args.line.now c.in-len2-up.len_at_least c.requires c.byte.ensures _ (sym c.try_from.ensures ∙ c.in_ok-kind.was) _ (between_to_end c.args.line.now 2 _ (omega arith)) c.if-not-makes_frame.ensures
