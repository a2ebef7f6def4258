-- Putting the parts that are still to come into the word gives what putting all of them into the first word gives.
use Rattle.std.proofs.Common.{◌≡◌, ◌^◌, ◌<◌, drop}
use Rattle.meaning.specs.Field.{put}
use Rattle.writers.specs.Written.{parts_from}
use Rattle.writers.proofs.put_field.Given as goal

abbrev pub invariant-loop-p : goal.invariant-loop-p
invariant-loop-p g l =
    record {
      fits : l.word < 2 ^ 32;
      rest : put (parts_from (drop l.p-index l.p-items)) l.x l.word ≡ put (parts_from l.p-items) l.x l.initial.word;
    }
