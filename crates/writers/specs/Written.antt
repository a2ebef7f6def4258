-- What a judged record writes and leaves on the stack.
use Rattle.std.specs.Prelude.{ℕ, ◌+◌, ◌≤◌, List, ◌≡◌, ℤ, length, drop, map}
use Rattle.meaning.specs.Numbers.{bits_of}
use Rattle.meaning.specs.Table.{Semantics}
use Rattle.meaning.specs.Table as T
use Rattle.meaning.specs.Call as M
use Rattle.meaning.specs.Call.{card64, offset_in}
use Rattle.meaning.specs.Field as F
use Rattle.meaning.specs.Stack.{entry, after}
use Rattle.meaning.specs.Patch.{replaced, effect}
use Rattle.lemmas.specs.Passed.{refusal_of}
use Rattle.table.specs.declared.Part.{Part}
use Rattle.table.specs.Columns.{part_from}
use Rattle.stack.specs.Tops.{tops, Holds}
use Rattle.records.specs.declared.Record.{Record}
use Rattle.records.specs.Given.{setting_in, record_in}

-- A field's parts, as the meaning has them.
abbrev pub parts_from : List Part → List T.Part
parts_from parts = map part_from parts

-- A word's place is inside the section, and there is an entry to take.
pub record Popping (rela : Record) (height : ℕ) (section : List ℕ) : Type 0 where
  pub some : 1 ≤ height
  pub inside : offset_in card64 rela.bytes.now + 4 ≤ length section

-- The entry on top put into the parts of a word, and taken.
pub record Popped (parts : List T.Part) (rela : Record) (entries : List ℤ) (height : ℕ) (section : List ℕ) (height' : ℕ) (section' : List ℕ) : Type 0 where
  pub stack : Holds (drop 1 (tops entries height)) entries height'
  pub bytes : section' ≡ replaced (offset_in card64 rela.bytes.now) 4 (F.put parts (bits_of 64 (entry (tops entries height) 0))) section

-- A record that does d, with the stack of this height in the entries before it, and that no check refuses.
pub record Judged (rela : Record) (d : Semantics) (entries : List ℤ) (height : ℕ) (section : List ℕ) : Type 0 where
  pub size : rela.setting.now.size ≡ length section
  pub passes : refusal_of (setting_in rela) (record_in rela) d (tops entries height) ≡ 0

-- What it leaves on the stack, in the entries s' at the height h', and in the section.
pub record Writes (c : M.Setting) (r : M.Record) (d : Semantics) (s : List ℤ) (h : ℕ) (section : List ℕ) (s' : List ℤ) (h' : ℕ) (section' : List ℕ) : Type 0 where
  pub stack : Holds (after c r d (tops s h)) s' h'
  pub bytes : section' ≡ effect c r d (tops s h) section
