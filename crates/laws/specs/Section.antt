-- What a call leaves in the section, refused or accepted.
use Rattle.std.specs.Prelude.{ℕ, suc, ◌+◌, ◌/◌, ◌<◌, ◌≤◌, Bool, true, ◌⊎◌, ◌≡◌, refl, eqb, length, get_or}
use Rattle.std.proofs.Math.Bool.{false}
use mathlib.Core.List.{List, [], ◌∷◌}
use Rattle.std.proofs.Math.Path.{sym, subst⁻¹}
use Rattle.std.proofs.Common.{ap, ◌∙◌, eq-eqb, ne_eqb, eqb-true}
use Rattle.meaning.specs.Table.{Semantics}
use Rattle.meaning.specs.Call.{Setting, Call, Record, does, records_of}
use Rattle.meaning.specs.Stack.{Stack, after}
use Rattle.meaning.specs.Checks.{answer, writes, outside, of_record, of_records, checks}
use Rattle.meaning.specs.Patch.{call, answer_of, effect, patched, section_of}
use Rattle.lemmas.specs.Pieces.{length_records}
use Rattle.lemmas.specs.Passed.{passed, PassedCall, passed_call}
use Rattle.laws.specs.First.{Every, Passes, every-left, every_right, zero_passes, first_passed, checks_numbered}
use Rattle.laws.specs.Replaced.{Bytes}
use Rattle.laws.specs.Effect.{Kept, effect_keeps}
use Rattle.laws.specs.Bits.{bit_at, SparedBy, bit_stays}

-- ---- refused

pub refused-leaves : (c : Call) (records s : List ℕ) → ((answer_of c records).number ≡ 0 → ⊥) → section_of c records s ≡ s
refused-leaves c records s h = rw (ne_eqb (answer_of c records).number 0 h)

-- ---- accepted

passes_all : (c : Call) (records : List ℕ) → (answer_of c records).number ≡ 0 → Every Passes (checks c records)
passes_all c records e = zero_passes (checks c records) _ (checks_numbered c records) e

-- What passed of an accepted call, by name.
pub accepted_passed : (c : Call) (records : List ℕ) → (answer_of c records).number ≡ 0 → PassedCall c records
accepted_passed c records e = passed_call c records (passes_all c records e)

-- An accepted call answers 0 and the number of records, and leaves what they leave, one after the other.
pub accepted_answers : (c : Call) (records : List ℕ) → (answer_of c records).number ≡ 0 →
    answer_of c records ≡ answer 0 (length records / c.setting.card.record_bytes)
accepted_answers c records e =
    first_passed (checks c records) _ (passes_all c records e) ∙ ap (answer 0) (length_records c records)

pub accepted-leaves : (c : Call) (records s : List ℕ) → (answer_of c records).number ≡ 0 →
    section_of c records s ≡ patched c.setting [] s (records_of c records)
accepted-leaves c records s e = rw (eq-eqb (answer_of c records).number 0 e)

-- ---- no byte of the section decides

pub no_byte_decides : (s t records values : List ℕ) (address gp : ℕ) → length s ≡ length t →
    answer_of (call s values address gp) records ≡ answer_of (call t values address gp) records
no_byte_decides s t records values address gp e = rw e

-- ---- what all the records leave as it was

-- no record of the list writes byte i; a word type counts as writing all four bytes of its word
abbrev pub Untouched : Setting → List Record → ℕ → Type 0
Untouched c [] i = Unit {0}
Untouched c (r ∷ rs) i = ((i < r.offset) ⊎ (r.offset + writes (does c r) ≤ i)) × Untouched c rs i

-- bit b of byte i is in no part of a word record's field at its place, and in no byte of a data record
abbrev pub BitUntouched : Setting → List Record → ℕ → ℕ → Type 0
BitUntouched c [] i b = Unit {0}
BitUntouched c (r ∷ rs) i b = SparedBy r (does c r) i b × BitUntouched c rs i b

pub record KeptAll (c : Setting) (rs : List Record) (s s' : List ℕ) : Type 0 where
  pub same_length : length s' ≡ length s
  pub elsewhere : (i : ℕ) → Untouched c rs i → get_or s' i 0 ≡ get_or s i 0
  pub other_bits : Bytes s → (i b : ℕ) → b < 8 → BitUntouched c rs i b → bit_at b (get_or s' i 0) ≡ bit_at b (get_or s i 0)
  pub still_bytes : Bytes s → Bytes s'

module _ (c : Setting) where
  kept_all-same : (rs : List Record) (s : List ℕ) → KeptAll c rs s s
  kept_all-same rs s = record { same_length = refl; elsewhere = λ i h. refl; other_bits = λ p i b l h. refl; still_bytes = λ p. p }

  then : (r : Record) (rs : List Record) (s t u : List ℕ) → Kept r.offset (writes (does c r)) s t →
      (Bytes s → (i b : ℕ) → b < 8 → SparedBy r (does c r) i b → bit_at b (get_or t i 0) ≡ bit_at b (get_or s i 0)) →
      KeptAll c rs t u → KeptAll c (r ∷ rs) s u
  then r rs s t u a bits b =
      record {
        same_length = b.same_length ∙ a.same_length;
        elsewhere = λ i h. b.elsewhere i h.1 ∙ a.elsewhere i h.0;
        other_bits = λ p i n l h. b.other_bits (a.still_bytes p) i n l h.1 ∙ bits p i n l h.0;
        still_bytes = λ p. b.still_bytes (a.still_bytes p);
      }

  pub patched_keeps : (i : ℕ) (st : Stack) (s : List ℕ) (rs : List Record) → c.size ≡ length s → Every Passes (of_records c i st rs) →
      KeptAll c rs s (patched c st s rs)
  unfolding patched of_records
  patched_keeps i st s [] e p = kept_all-same [] s
  patched_keeps i st s (r ∷ rs) e p =
      let d : Semantics = does c r in
      let own = every-left Passes (of_record c i r d st) (of_records c (suc i) (after c r d st) rs) p in
      let inside : outside (length s) r.offset (writes d) ≡ false = rw e at (passed c i r d st own).inside in
      let one : Kept r.offset (writes d) s (effect c r d st s) = effect_keeps c r d st s inside in
      then r rs s (effect c r d st s) _ one (λ q i b l h. bit_stays c r st s q b l d i inside h)
      (patched_keeps (suc i) (after c r d st) (effect c r d st s) rs (e ∙ sym one.same_length)
      (every_right Passes (of_record c i r d st) (of_records c (suc i) (after c r d st) rs) p))

-- Of an accepted call.
pub accepted_keeps : (c : Call) (records s : List ℕ) → c.setting.size ≡ length s → (answer_of c records).number ≡ 0 →
    KeptAll c.setting (records_of c records) s (section_of c records s)
accepted_keeps c records s size e =
    subst⁻¹ (λ (x : List ℕ). KeptAll c.setting (records_of c records) s x) (accepted-leaves c records s e)
    (patched_keeps c.setting 0 [] s (records_of c records) size (accepted_passed c records e).each_record)

-- Whatever the call, the section keeps its length, a byte that no record writes is the old one, and bytes stay bytes.
pub section_keeps : (c : Call) (records s : List ℕ) → c.setting.size ≡ length s →
    KeptAll c.setting (records_of c records) s (section_of c records s)
section_keeps c records s size = go (eqb (answer_of c records).number 0) refl
  where
    go : (b : Bool) → eqb (answer_of c records).number 0 ≡ b → KeptAll c.setting (records_of c records) s (section_of c records s)
    go true e = accepted_keeps c records s size (eqb-true (answer_of c records).number 0 e)
    go false e = rw e (kept_all-same c.setting (records_of c records) s)

-- Of a section of bytes, as every lent one is, a bit that lies in no part of a word record's field at its place, and in no byte of a
-- data record, is the old one. Bit b of byte i, b below 8.
pub named_bits_only : (c : Call) (records s : List ℕ) → c.setting.size ≡ length s → Bytes s → (i b : ℕ) → b < 8 →
    BitUntouched c.setting (records_of c records) i b → bit_at b (get_or (section_of c records s) i 0) ≡ bit_at b (get_or s i 0)
named_bits_only c records s size = (section_keeps c records s size).other_bits
