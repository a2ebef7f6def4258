use Rattle.std.proofs.Common.{◌∙◌, rules}
use Rattle.patcher.specs.Read.{Takes}
use Rattle.patcher.proofs.Laws.{answered, error_as}
use Rattle.patcher.proofs.run.Goals as goal

pub returns : goal.returns
returns g c =
    let taken : Takes c.in_ok-n.n (g.R.Read.remaining c.args.reader.now) c.fill.new.buffer = search rules in
    error_as c.write_all.result c.map_err-2.result c.map_err-2.ensures.variant
    (answered _ _ _ c.in_ok-n.n c.answer-r.result c.fill.new.buffer _ _ (c.fill.auto.buffer ∙ c.told-input) taken c.answer-r.ensures.longer)
    c.write_all.ensures.bytes
