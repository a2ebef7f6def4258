-- Patch: the answer to a call, and what the section holds after it.
use Rattle.std.specs.Prelude.{ℕ, ◌*◌, ◌/◌, cond, List, [], ◌∷◌, ◌++◌, eqb, length, take, drop}
use Rattle.meaning.specs.Numbers.{number, bytes_of, plus, minus, bits_of}
use Rattle.meaning.specs.Table.{Semantics, unnamed, idle, loaders, push, operation, word, bytes, Way, store_in, add_to, subtract_from}
use Rattle.meaning.specs.Call.{card64, row_bytes, Setting, Call, Record, does, records_of, formula}
use Rattle.meaning.specs.Stack.{Stack, after}
use Rattle.meaning.specs.Field.{put}
use Rattle.meaning.specs.Checks.{Answer, answer, first, checks, word_value}

-- The call with a section of these bytes, on the 64-bit card.
abbrev pub call : List ℕ → List ℕ → ℕ → ℕ → Call
call section values address gp =
    record {
      setting = record { card = card64; size = length section; rows = length values / row_bytes; address = address; gp = gp };
      values = values;
    }

-- Accepted: refusal 0, and the place is the number of records.
abbrev pub answer_of : Call → List ℕ → Answer
answer_of c records = first (checks c records) (answer 0 (length (records_of c records)))

-- The n bytes at a place, as a number, replaced by a function of it; every other byte stays.
abbrev pub replaced : ℕ → ℕ → (ℕ → ℕ) → List ℕ → List ℕ
replaced at n f s = take at s ++ (bytes_of n (f (number (take n (drop at s)))) ++ drop n (drop at s))

-- What n bytes hold after a data type, from what they held and the sum: modulo their width, or the low bits kept.
abbrev pub combined : Way → ℕ → ℕ → ℕ → ℕ
combined store_in n x old = x
combined add_to n x old = plus (8 * n) old x
combined subtract_from n x old = minus (8 * n) old x

-- What one record leaves in the section, with the stack before it.
abbrev pub effect : Setting → Record → Semantics → Stack → List ℕ → List ℕ
effect c r unnamed st s = s
effect c r idle st s = s
effect c r loaders st s = s
effect c r (push f) st s = s
effect c r (operation o) st s = s
effect c r (word source parts range) st s = replaced r.offset 4 (put parts (bits_of c.card.width (word_value c r st source))) s
effect c r (bytes way n f) st s = replaced r.offset n (combined way n (formula c r f)) s

-- What the records leave, each reading the section as the earlier ones left it.
unfoldable pub patched : Setting → Stack → List ℕ → List Record → List ℕ
patched c st s [] = s
patched c st s (r ∷ rs) =
    patched c (after c r (does c r) st) (effect c r (does c r) st s) rs

-- A refused call leaves the section as it came.
abbrev pub section_of : Call → List ℕ → List ℕ → List ℕ
section_of c records s = cond (eqb (answer_of c records).number 0) (patched c.setting [] s (records_of c records)) s
