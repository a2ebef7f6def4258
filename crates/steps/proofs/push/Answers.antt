use Rattle.std.proofs.Common.{arith}
use Rattle.std.proofs.lemmas.Int.{to_z-of_z}
use Rattle.table.specs.Columns.{formula_from}
use Rattle.steps.proofs.Laws.{push_steps}
use Rattle.steps.proofs.push.Goals as goal

pub returns : goal.returns
returns c =
    let a = c.args in
    grind (arith, to_z-of_z, push_steps a.looked.rela a.entries.now a.stack.height (formula_from a.formula) c.put.new.entries c.put.result)
