use Rattle.std.proofs.Common.{arith}
use Rattle.patcher.proofs.Laws.{refused_output, patched_output, output_fits, whole_output}
use Rattle.patcher.proofs.answer.Goals as goal

pub returns-in-Ok-clause-fits : goal.returns-in-Ok-clause-fits
returns-in-Ok-clause-fits c = let f = output_fits _ _ _ _ c.patch_and_write.ensures in omega arith

pub returns-in-Ok-clause-output : goal.returns-in-Ok-clause-output
returns-in-Ok-clause-output c = patched_output _ _ _ c.args.input.now _ _ _ c.in-Ok.got c.in-Ok.ensures.reading c.patch_and_write.ensures

pub returns-in-Ok-clause-longer : goal.returns-in-Ok-clause-longer
returns-in-Ok-clause-longer c = whole_output _ _ _ _ (patched_output _ _ _ c.args.input.now _ _ _ c.in-Ok.got c.in-Ok.ensures.reading c.patch_and_write.ensures)

pub returns-in-Err-clause-fits : goal.returns-in-Err-clause-fits
returns-in-Err-clause-fits c =
    let f = output_fits _ _ _ _ (refused_output _ _ _ c.args.input.now _ _ _ c.in-Err.fault c.in-Err.ensures.reading _ c.from.ensures _ c.write.ensures.out_after c.write.ensures.value) in
    omega arith

pub returns-in-Err-clause-output : goal.returns-in-Err-clause-output
returns-in-Err-clause-output c =
    refused_output _ _ _ c.args.input.now _ _ _ c.in-Err.fault c.in-Err.ensures.reading _ c.from.ensures _ c.write.ensures.out_after c.write.ensures.value

pub returns-in-Err-clause-longer : goal.returns-in-Err-clause-longer
returns-in-Err-clause-longer c =
    whole_output _ _ _ _ (refused_output _ _ _ c.args.input.now _ _ _ c.in-Err.fault c.in-Err.ensures.reading _ c.from.ensures _ c.write.ensures.out_after c.write.ensures.value)
