-- The bytes taken one by one, from the last one down, are the number that they hold.
use Rattle.std.proofs.Common.{rules}
use Rattle.bytes_le.proofs.Laws.{read_each}
use Rattle.bytes_le.proofs.get.Goals as goal

pub returns-in_default : goal.returns-in_default
returns-in_default c = read_each _ _ _ c.requires.n_bound (λ k. (c.type_inv.part k).fits) (search rules)
