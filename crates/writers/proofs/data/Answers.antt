-- `writers::data`: a type that is in none of its arms writes nothing.
use Rattle.std.proofs.Common.{arith}
use Rattle.table.specs.Keys.{classed}
use Rattle.writers.proofs.Laws.{nothing}
use Rattle.writers.proofs.data.Goals as goal

pub returns-in_default : goal.returns-in_default
returns-in_default c = grind (arith, classed, nothing)
