use Rattle.std.proofs.Common.{[], arith}
use Rattle.table.specs.Columns.{formula_from, range_from}
use Rattle.records.specs.Given.{setting_in, record_in}
use Rattle.steps.specs.Refusal.{refusal_word}
use Rattle.steps.proofs.checked.Goals as goal

pub returns : goal.returns
returns c =
    let r = c.args.looked.rela in
    grind (arith, refusal_word (setting_in r) (record_in r) [] (omega arith) (formula_from c.args.formula) [] (range_from c.args.range))
