-- `writers::write`: what was judged of the record's type, said of `rtype`.
use Rattle.writers.proofs.write.Goals as goal

pub pops-requires-clause-judged : goal.pops-requires-clause-judged
pops-requires-clause-judged c = rw c.rtype-rtype.ensures c.requires
