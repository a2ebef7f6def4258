-- Before word i, the run from its start is the run from here.
use Rattle.executor.proofs.Laws.{Going}
use Rattle.executor.proofs.carry_out.Given as goal

abbrev pub invariant-loop-i : goal.invariant-loop-i
invariant-loop-i l = Going l.words l.start l.fn.registers l.registers l.i
