use Rattle.std.proofs.Common.{arith}
use Rattle.patch.proofs.Laws.{going_start, ready, stops, goes, ends_left, ends_accepted}
use Rattle.patch.proofs.judge.Goals as goal

pub loop-i-init : goal.loop-i-init
loop-i-init c = search going_start

pub step-requires : goal.step-requires
step-requires c = search (arith, ready)

pub returns-in-Err : goal.returns-in-Err
returns-in-Err c =
    stops _ _ _ _ c.new-rela.result c.loop-i-test.true c.new-rela.ensures.bytes c.new-rela.ensures.row c.new-rela.ensures.setting _ _ c.loop-i.invariant _ _ _ _ _ _ c.in-Err.is (search arith) (search arith) c.step.ensures

pub loop-i-preserved : goal.loop-i-preserved
loop-i-preserved c = search (arith, goes)

pub returns-in_err-check : goal.returns-in_err-check
returns-in_err-check c =
    ends_left _ _ _ _ c.loop-i-test.false c.loop-i.auto.i-end _ c.loop-i.stack.height _ (λ e. search arith) _ _ c.in_err-check.ensures c.from_residual.ensures.1 c.loop-i.invariant

pub returns : goal.returns
returns c =
    ends_accepted _ _ _ _ c.loop-i-test.false c.loop-i.auto.i-end _ c.loop-i.stack.height _ (λ e. search arith) c.in_ok-check.ensures c.loop-i.invariant
