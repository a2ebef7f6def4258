-- `writers::pops`: a type that is in none of its arms is of a lower class, which leaves the stack.
use Rattle.std.proofs.Common.{arith}
use Rattle.table.specs.Keys.{classed}
use Rattle.writers.proofs.Laws.{direct}
use Rattle.writers.proofs.pops.Goals as goal

pub returns-in_default : goal.returns-in_default
returns-in_default c = grind (arith, classed, direct)
