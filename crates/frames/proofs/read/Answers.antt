-- `frames::read` meets its contract: a line more, and where it stops.
use Rattle.std.proofs.Common.{◌≡◌, ◌<◌, [], None, Err, false, refl, take, length, arith, rules}
use Rattle.std.proofs.lemmas.Grind.{common_steps}
use Rattle.refusals.specs.declared.Refusal.TheVariants.{BadLine}
use Rattle.meaning.specs.Frames.{all_digits, well_formed}
use Rattle.frames.specs.Text.{line_length, FirstLine, IsFrame}
use Rattle.frames.specs.Kinds.{kind_number, last_number}
use Rattle.frames.proofs.Laws.{some_kind}
use Rattle.frames.proofs.Reader.{bad_here, broken_here, past_here, nothing_read, ended, next}
use Rattle.frames.proofs.read.Goals as goal

pub returns-in_err-line-clause-reading : goal.returns-in_err-line-clause-reading
returns-in_err-line-clause-reading c =
    let some : 0 < length c.loop-left.left.now = grind (arith, common_steps) in
    let bad : c.from_residual.result ≡ Err (record { refused = record { refusal = BadLine; place = c.loop-left.lines }; gathered = c.loop-left.got }) = search rules in
    let line : all_digits (take (line_length c.loop-left.left.now) c.loop-left.left.now) ≡ false = search rules in
    rw bad (broken_here c.loop-left.invariant some line)

pub returns-in_err-frame-clause-reading : goal.returns-in_err-frame-clause-reading
returns-in_err-frame-clause-reading c =
    let some : 0 < length c.loop-left.left.now = grind (arith, common_steps) in
    let here : FirstLine c.loop-left.left.now c.in_ok-line.line.now c.in_ok-line.rest.now = search rules in
    let bad : c.from_residual-in_err-frame.result ≡ Err (record { refused = record { refusal = BadLine; place = c.loop-left.lines }; gathered = c.loop-left.got }) = search rules in
    let line : well_formed (last_number c.loop-left.last) c.in_ok-line.line.now ≡ false = search rules in
    rw bad (bad_here c.loop-left.invariant some (rw here.line_is at line))

pub returns-in-Some-clause-reading : goal.returns-in-Some-clause-reading
returns-in-Some-clause-reading c =
    let some : 0 < length c.loop-left.left.now = grind (arith, common_steps) in
    let here : FirstLine c.loop-left.left.now c.in_ok-line.line.now c.in_ok-line.rest.now = search rules in
    let frame : IsFrame (last_number c.loop-left.last) c.in_ok-line.line.now (kind_number c.in_ok-frame.frame.kind) c.in_ok-frame.frame.digits.now = search rules in
    rw c.fault.ensures (past_here c.loop-left.invariant some _ _ here _ _ frame _ c.over.ensures _ c.in-Some.is)

pub loop-left-preserved : goal.loop-left-preserved
loop-left-preserved c =
    let some : 0 < length c.loop-left.left.now = grind (arith, common_steps) in
    let here : FirstLine c.loop-left.left.now c.in_ok-line.line.now c.in_ok-line.rest.now = search rules in
    let frame : IsFrame (last_number c.loop-left.last) c.in_ok-line.line.now (kind_number c.in_ok-frame.frame.kind) c.in_ok-frame.frame.digits.now = search rules in
    let over : c.over.result ≡ None = search rules in
    let e = c.gather-got.ensures in
    next c.loop-left.invariant some _ _ here _ _ frame _ c.over.ensures over e.value e.section_after e.values_after e.records_after

pub returns-in-None-clause-reading : goal.returns-in-None-clause-reading
returns-in-None-clause-reading c =
    let none : c.loop-left.left.now ≡ [] = grind (arith, common_steps) in
    rw c.fault-in-None.ensures (nothing_read c.loop-left.invariant none (rw c.in-None.is refl))

pub returns-in-Some-last-clause-reading : goal.returns-in-Some-last-clause-reading
returns-in-Some-last-clause-reading c =
    let none : c.loop-left.left.now ≡ [] = grind (arith, common_steps) in
    ended c.loop-left.invariant none (λ zero. some_kind _ (rw c.in-Some-last.is at zero))
