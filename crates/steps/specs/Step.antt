-- One record's step: what its checks refuse, by number, and what judging answers.
use Rattle.std.specs.Prelude.{ℕ, ◌<◌, Bool, cond, ◌||◌, List, ◌≡◌, ℤ, Result}
use Rattle.std.proofs.Math.Option.{some}
use Rattle.meaning.specs.Table.{Value, Accepted, Semantics}
use Rattle.meaning.specs.Call as M
use Rattle.meaning.specs.Call.{card64, no_row, symbol_in, PC}
use Rattle.meaning.specs.Stack.{after}
use Rattle.meaning.specs.Checks.{past, absent, outside, unaligned, above, below, not_multiple}
use Rattle.lemmas.specs.Passed.{refusal_of}
use Rattle.refusals.specs.declared.Refusal.{Refusal}
use Rattle.stack.specs.declared.Stack.{Stack}
use Rattle.stack.specs.Tops.{tops, Judges}
use Rattle.records.specs.declared.Record.{Record}

-- 6 and 7, of a value
abbrev pub value_refusal : M.Setting → M.Record → Value → ℕ
value_refusal c r v = cond (past c r (some v)) 6 (cond (absent r (some v)) 7 0)

-- 8 and 9, of a word
abbrev pub place_refusal : M.Setting → M.Record → ℕ
place_refusal c r = cond (outside c.size r.offset 4) 8 (cond (unaligned (PC c r)) 9 0)

-- 14, 18 and 15, of a word's value
abbrev pub range_refusal : Accepted → ℤ → ℕ
range_refusal range z = cond (above range z) 14 (cond (below range z) 18 (cond (not_multiple range z) 15 0))

-- outside its range, on either side
abbrev pub beyond : Accepted → ℤ → Bool
beyond range z = above range z || below range z

-- Past the rows nothing is present in a record's row.
abbrev pub Ready : Record → Type 0
Ready r = r.setting.now.rows < symbol_in card64 r.bytes.now → r.row.now ≡ no_row

-- Judging of a record that does d, with the stack of this height in the entries s before it, and with the entries s' after it.
abbrev pub Steps : M.Setting → M.Record → Semantics → List ℤ → ℕ → List ℤ → Result Stack Refusal → Type 0
Steps c r d s h s' judged = Judges (refusal_of c r d (tops s h)) (after c r d (tops s h)) s' judged
