use Rattle.std.proofs.Common.{Ok, arith}
use Rattle.meaning.specs.Table.{semantics}
use Rattle.table.specs.Keys.{classed}
use Rattle.steps.proofs.Laws.{direct_steps}
use Rattle.steps.proofs.pops.Goals as goal

pub returns-in_err-words-in_default : goal.returns-in_err-words-in_default
returns-in_err-words-in_default c =
    let a = c.args in
    grind (arith, classed, direct_steps a.looked.rela a.entries.now a.stack.height (semantics a.rtype))

pub returns-in_ok-words-in_default : goal.returns-in_ok-words-in_default
returns-in_ok-words-in_default c =
    let a = c.args in
    grind (arith, classed, direct_steps a.looked.rela a.entries.now a.stack.height (semantics a.rtype) (Ok a.stack))
