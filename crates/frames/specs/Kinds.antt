-- The kinds of frames by the numbers of the meaning.
use Rattle.std.specs.Prelude.{ℕ, cond, eqb, Option, Some, None, Result, Ok, Err}
use Rattle.refusals.specs.declared.Refusal.{Refusal}
use Rattle.refusals.specs.declared.Refusal.TheVariants.{BadLine}
use Rattle.frames.specs.declared.Kind.{Kind}
use Rattle.frames.specs.declared.Kind.TheVariants.{Numbers, Section, Row, Record}

abbrev pub kind_number : Kind → ℕ
kind_number Numbers = 1
kind_number Section = 2
kind_number Row = 3
kind_number Record = 4

-- The last frame's kind, and 0 before the first frame.
abbrev pub last_number : Option Kind → ℕ
last_number None = 0
last_number (Some kind) = kind_number kind

-- The kind of a number, which is a bad line's where no kind has it.
abbrev pub kind_numbered : ℕ → Result Kind Refusal
kind_numbered n = cond (eqb n 1) (Ok Numbers) (cond (eqb n 2) (Ok Section) (cond (eqb n 3) (Ok Row) (cond (eqb n 4) (Ok Record) (Err BadLine))))
