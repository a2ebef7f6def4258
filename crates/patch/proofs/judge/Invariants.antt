use Rattle.patch.proofs.Laws.{Going}
use Rattle.patch.proofs.judge.Given as goal

abbrev pub invariant-loop-i : goal.invariant-loop-i
invariant-loop-i l = Going l.setting l.values l.records l.entries l.stack.height l.i
