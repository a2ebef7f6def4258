-- `frames::all_digits` meets its contract: a digit more.
use Rattle.std.proofs.Common.{◌≡◌, ◌∙◌, ◌&&◌, List, ℕ, ltb, rules, refl, sym, ap}
use Rattle.std.proofs.lemmas.Iterator.{YieldsList-from_slice}
use Rattle.std.proofs.lemmas.Fn.{fold_over, fronts}
use Rattle.meaning.specs.Frames.{digit, all_digits}
use Rattle.frames.proofs.Laws.{digits_more, no_more}
use Rattle.frames.proofs.all_digits.Goals as goal

pub returns : goal.returns
returns c =
    fold_over fronts (λ x. x.now) _ (λ (ys : List ℕ) a. a ≡ all_digits ys) _
    (λ ys a x b f' j k. (let e : b ≡ (a && ltb (digit x.now) 16) = search rules in e ∙ ap (λ t. t && ltb (digit x.now) 16) j ∙ sym (digits_more ys x.now), refl)) c.iter.result c.args.piece.now _ _
    (YieldsList-from_slice c.args.piece.now c.iter.ensures.rest).runs (sym no_more) c.fold.ensures.ran
