-- The bytes copied over zeros are the number that they hold.
use Rattle.bytes_le.proofs.Laws.{read}
use Rattle.bytes_le.proofs.copied.Goals as goal

pub returns : goal.returns
returns c =
    read _ _ _ _ c.requires.n_bound c.requires.n_in_bounds (λ k. (c.type_inv.part k).fits) c.copy_from_slice.ensures.after c.from_le_bytes.ensures
