-- The field of the parts so far.
use Rattle.std.proofs.Common.{map, take}
use Rattle.table.specs.Columns.{part_from}
use Rattle.back.specs.Fields.{bits_in, Bare}
use Rattle.back.proofs.bare.Given as goal

abbrev pub invariant-loop-part : goal.invariant-loop-part
invariant-loop-part g l = Bare (map part_from (take l.part-index l.part-items)) (bits_in (take l.part-index l.part-items)) l.word l.field
