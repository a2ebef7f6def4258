-- `back::value_in` meets its contract: the types of the last arm are those that are left. Assumes nothing.
use Rattle.std.proofs.Common.{pos, w64, refl, ap, ◌∙◌, arith}
use mir.ValLaws.{to_z_pos}
use Rattle.meaning.specs.Table.{table, look, semantics}
use Rattle.meaning.specs.Field.{bare}
use Rattle.meaning.specs.ReadBack.{value_back}
use Rattle.table.specs.Keys.{same_keys}
use Rattle.back.proofs.Laws.{left, default_arm}
use Rattle.back.proofs.value_in.Goals as goal

pub returns-in_default : goal.returns-in_default
unfolding table look bare
returns-in_default c =
    let a = c.args in
    let b = c.bare-in_default in
    to_z_pos w64 b.result (omega arith)
    ∙ ap pos b.ensures.is
    ∙ same_keys (λ k. value_back (semantics k) a.word) _ left a.rtype (default_arm a.rtype c.requires (assumption)) refl
