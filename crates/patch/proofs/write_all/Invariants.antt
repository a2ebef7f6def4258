use Rattle.patch.proofs.Laws.{Writing}
use Rattle.patch.proofs.write_all.Given as goal

abbrev pub invariant-loop-bytes : goal.invariant-loop-bytes
invariant-loop-bytes l = Writing l.setting l.values l.records l.fn.section l.section l.entries l.stack.height l.bytes-index
