use Rattle.std.proofs.Common.{Ok, arith, rules}
use Rattle.table.specs.Columns.{range_from}
use Rattle.steps.proofs.Laws.{pop_steps}
use Rattle.steps.proofs.pop.Goals as goal

pub returns-in_err-ranged : goal.returns-in_err-ranged
returns-in_err-ranged c =
    let a = c.args in
    let top = c.in-Some in
    search (rules, pop_steps a.rela a.entries.now a.stack.height (range_from a.range) top.z top.below.height c.from_residual-in_err-ranged.result)

pub returns : goal.returns
returns c =
    let a = c.args in
    let top = c.in-Some in
    grind (arith, pop_steps a.rela a.entries.now a.stack.height (range_from a.range) top.z top.below.height (Ok top.below))
