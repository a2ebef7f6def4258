-- `fields::insert` meets its contract: the law of the masks, at what the calls ensure. Assumes nothing.
use mathlib.Core.Path.{sym, ap, ◌∙◌, subst}
use Prim.Native.Nat.{ℕ, ◌^◌, ◌<◌}
use native.Mathlib.Omega.{arith}
use Rattle.meaning.specs.Field.{splice}
use Rattle.lemmas.specs.Splice.{splice_lt}
use Rattle.fields.proofs.Masks.{inserted}
use Rattle.fields.proofs.insert.Goals as goal

pub returns : goal.returns
returns c =
    let a = c.args in
    let x = c.extract.result in
    let h = c.extract.ensures.1 in
    let e = inserted 64 a.at a.many x a.word (omega arith) h (omega arith) c.ones.ensures in (
      e ∙ ap (λ (y : ℕ). splice a.at a.many y a.word) c.extract.ensures.0,
      subst (λ (y : ℕ). y < 2 ^ 32) (sym e) (splice_lt a.at a.many x a.word 32 h (omega arith) (omega arith)),
    )
