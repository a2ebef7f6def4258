use Rattle.std.proofs.Common.{arith}
use Rattle.patch.proofs.Laws.{writing_start, was_judged, wrote, all_written}
use Rattle.patch.proofs.write_all.Goals as goal

pub loop-bytes-init : goal.loop-bytes-init
loop-bytes-init c = search writing_start

pub write-stack-requires : goal.write-stack-requires
write-stack-requires c = search (arith, was_judged)

pub loop-bytes-preserved : goal.loop-bytes-preserved
loop-bytes-preserved c = search (arith, wrote)

pub returns : goal.returns
returns c = search (arith, all_written)
