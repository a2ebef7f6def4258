-- Demand 2, read back: of a word that an accepted call wrote, and that no later record of it wrote again, read back gives the value.
use Prim.Native.Nat.{ℕ, zero, suc, ◌+◌, ◌*◌, ◌%◌, ◌^◌, ◌<◌, ◌≤◌}
use Rattle.std.proofs.Common.{le_refl, le_trans, arith, sym, ap, ap₂, ◌∙◌, subst}
use Rattle.std.specs.Prelude.{Bool, true, false, not, ◌||◌, ◌≢◌, ◌≡◌, refl, ltb, leb, ℤ, pos, length, take, drop, get_or}
use mathlib.Core.List.{List, [], ◌∷◌, ◌++◌}
use Rattle.std.proofs.Math.Path.{subst⁻¹}
use Rattle.std.proofs.Math.Dec.{T, leb→le}
use Rattle.meaning.specs.Numbers.{number, bytes_of, plus, bits_of}
use Rattle.meaning.specs.Table.{Semantics, unnamed, idle, loaders, push, operation, word, bytes, Source, Part, Accepted, any, table}
use Rattle.meaning.specs.Call.{Card, Setting, Call, Record, semantics_on, does, records_of}
use Rattle.meaning.specs.Stack.{Stack, after}
use Rattle.meaning.specs.Field.{slice, put, wide, lowest, bare}
use Rattle.meaning.specs.Checks.{Answer, answer, first, section_limit, writes, outside, unaligned, word_value, of_record, of_records}
use Rattle.meaning.specs.Patch.{answer_of, effect, patched, section_of}
use Rattle.meaning.specs.ReadBack.{back_checks, field_value, value_back, immediate, read_back_of}
use Rattle.meaning.specs.Order.{run}
use Rattle.meaning.proofs.Sound.{sound_parts, holds_range, sound}
use Rattle.lemmas.specs.Look.{both, every, found, on_card, sound_on}
use Rattle.lemmas.specs.Bytes.{number_more, length-bytes_of, number-bytes_of}
use Rattle.lemmas.specs.Passed.{Passed, passed}
use Rattle.laws.specs.First.{Every, Passes, every-left, every_right, first_passed}
use Rattle.laws.specs.Replaced.{laid-inside}
use Rattle.laws.specs.Effect.{inside-section, effect_keeps}
use Rattle.laws.specs.Section.{accepted_passed, accepted-leaves, Untouched, KeptAll, patched_keeps}
use Rattle.laws.specs.Bits.{word_at}
use Rattle.laws.specs.Order.{implied}
use Rattle.laws.specs.FieldBack.{checked, not_any, put-bare, bare-mod, range_back}

-- ---- the word after the call

-- Bytes that are the same hold the same number.
same_number : (n at : ℕ) (s t : List ℕ) → ((i : ℕ) → at ≤ i → i < at + n → get_or t i 0 ≡ get_or s i 0) →
    number (take n (drop at t)) ≡ number (take n (drop at s))
same_number zero at s t h = refl
same_number (suc n) at s t h =
    let here = h at (le_refl at) (omega arith) in
    let rest = same_number n (suc at) s t (λ i a b. h i (omega arith) (omega arith)) in
    number_more n at t ∙ ap₂ (λ (x y : ℕ). x + 256 * y) here rest ∙ sym (number_more n at s)

-- No record of the list writes a byte of the word at a place.
abbrev pub WordUntouched : Setting → List Record → ℕ → Type 0
WordUntouched c rs place = (i : ℕ) → place ≤ i → i < place + 4 → Untouched c rs i

-- A section in which a record of a word type put its value, with the stack before it: the section has its length, the word holds the
-- value's field put into some older word, and the record passed its checks.
record Written (c : Setting) (r : Record) (st : Stack) (source : Source) (parts : List Part) (range : Accepted) (u : List ℕ) : Type 0 where
  size : length u ≡ c.size
  old : ℕ
  held : word_at r.offset u ≡ put parts (bits_of c.card.width (word_value c r st source)) old % 2 ^ 32
  own : Passed c r (word source parts range) st

module _ (c : Setting) where
  -- A record that passes writes inside the section, and keeps its length.
  in_section : (r : Record) (d : Semantics) (st : Stack) (s : List ℕ) → c.size ≡ length s → Passed c r d st →
      outside (length s) r.offset (writes d) ≡ false
  in_section r d st s e p = rw e at p.inside

  sized : (r : Record) (d : Semantics) (st : Stack) (s : List ℕ) → c.size ≡ length s → Passed c r d st →
      c.size ≡ length (effect c r d st s)
  sized r d st s e p = e ∙ sym (effect_keeps c r d st s (in_section r d st s e p)).same_length

  module _ (r : Record) (source : Source) (parts : List Part) (range : Accepted) where
    -- A word record's effect, and after it records that write no byte of the word.
    written : (later : List Record) (st : Stack) (s u : List ℕ) → c.size ≡ length s → Passed c r (word source parts range) st →
        KeptAll c later (effect c r (word source parts range) st s) u → WordUntouched c later r.offset →
        Written c r st source parts range u
    written later st s u e p kept last =
        let d : Semantics = word source parts range in
        let new : ℕ = put parts (bits_of c.card.width (word_value c r st source)) (word_at r.offset s) in
        let fits = inside-section (length s) r.offset 3 (in_section r d st s e p) in
        record {
          size = kept.same_length ∙ sym (sized r d st s e p);
          old = word_at r.offset s;
          held =
              same_number 4 r.offset (effect c r d st s) u (λ i a b. kept.elsewhere i (last i a b))
              ∙ ap number (laid-inside r.offset 4 (bytes_of 4 new) s (length-bytes_of 4 new) fits)
              ∙ number-bytes_of 4 new;
          own = p;
        }

    -- Such a record among records that pass.
    among : (i : ℕ) (st : Stack) (s : List ℕ) (before later : List Record) → c.size ≡ length s →
        does c r ≡ word source parts range →
        Every Passes (of_records c i st (before ++ r ∷ later)) → WordUntouched c later r.offset →
        Written c r (run c st before) source parts range (patched c st s (before ++ r ∷ later))
    unfolding patched of_records run
    among i st s [] later e type p last =
        let d : Semantics = does c r in
        let own = passed c i r d st (every-left Passes (of_record c i r d st) (of_records c (suc i) (after c r d st) later) p) in
        let u : List ℕ = patched c (after c r d st) (effect c r d st s) later in
        let kept = patched_keeps c (suc i) (after c r d st) (effect c r d st s) later (sized r d st s e own)
        (every_right Passes (of_record c i r d st) (of_records c (suc i) (after c r d st) later) p) in
        written later st s u e (subst (λ (x : Semantics). Passed c r x st) type own)
        (subst (λ (x : Semantics). KeptAll c later (effect c r x st s) u) type kept) last
    among i st s (q ∷ before) later e type p last =
        let d : Semantics = does c q in
        let rest : List Record = before ++ r ∷ later in
        let own = passed c i q d st (every-left Passes (of_record c i q d st) (of_records c (suc i) (after c q d st) rest) p) in
        among (suc i) (after c q d st) (effect c q d st s) before later (sized q d st s e own) type
        (every_right Passes (of_record c i q d st) (of_records c (suc i) (after c q d st) rest) p) last

-- ---- what the table says of a word type

-- Of a type whose range is checked, the value's bits in the field are among the low 32.
short : Semantics → Bool
short unnamed = true
short idle = true
short loaders = true
short (push f) = true
short (operation o) = true
short (word source parts range) = not (checked range) || leb (wide parts + lowest parts) 32
short (bytes way n f) = true

short_on : (card : Card) (t : ℕ) → T (short (semantics_on card t))
unfolding short every table wide lowest
short_on card t = on_card (λ d. T (short d)) card t (found (λ d. T (short d)) (λ n d. short d) table t tt (λ d h. h) tt) tt

module _ (card : Card) (type : ℕ) (source : Source) (parts : List Part) (range : Accepted)
    (is : semantics_on card type ≡ word source parts range) where
  -- Its description is sound.
  sound_word : T (sound_parts parts) × T (holds_range parts range)
  unfolding sound
  sound_word = both (sound_parts parts) (holds_range parts range) (subst (λ (d : Semantics). T (sound d)) is (sound_on card type))

  short_word : range ≢ any → wide parts + lowest parts ≤ 32
  unfolding short
  short_word n =
      leb→le (wide parts + lowest parts) 32
      (implied (checked range) (leb (wide parts + lowest parts) 32) (subst (λ (d : Semantics). T (short d)) is (short_on card type)) (not_any range n))

  -- Where its checks pass, read back gives the field's value.
  reads : (u : List ℕ) (address place : ℕ) → ltb section_limit (length u) ≡ false → outside (length u) place 4 ≡ false →
      unaligned (plus card.width address place) ≡ false →
      read_back_of card u address place type ≡ record { number = 0; place = 0; value = field_value parts range (word_at place u) }
  reads u address place size inside aligned =
      let answered : Semantics → Answer = λ d. first (back_checks card (length u) address place d) (answer 0 0) in
      ap (λ (d : Semantics). immediate (answered d) (value_back d (word_at place u))) is
      ∙ ap (λ (a : Answer). immediate a (field_value parts range (word_at place u)))
      (first_passed (back_checks card (length u) address place (word source parts range)) (answer 0 0) (size, (refl, (inside, (aligned, tt)))))

-- ---- the theorems

-- What a record of a word type takes for its value: the entry on top of the stack that the records before it leave, or its formula.
abbrev pub value : Setting → List Record → Record → Source → ℤ
value c before r source = word_value c r (run c [] before) source

-- The call is accepted, r is a record of it, of a word type, and no record after r writes a byte of r's word.
module _ (c : Call) (s records : List ℕ) (size : c.setting.size ≡ length s)
    (before later : List Record) (r : Record) (source : Source) (parts : List Part) (range : Accepted)
    (accepted : (answer_of c records).number ≡ 0) (is : records_of c records ≡ before ++ r ∷ later)
    (type : does c.setting r ≡ word source parts range) (last : WordUntouched c.setting later r.offset) where
  abbrev card : Card
  card = c.setting.card

  abbrev section : List ℕ
  section = section_of c records s

  abbrev taken : ℤ
  taken = value c.setting before r source

  -- After the call the section is one in which r put its value.
  there : Written c.setting r (run c.setting [] before) source parts range section
  there =
      subst⁻¹ (λ (u : List ℕ). Written c.setting r (run c.setting [] before) source parts range u)
      (accepted-leaves c records s accepted ∙ ap (patched c.setting [] s) is)
      (among c.setting r source parts range 0 [] s before later size type
      (subst (λ (rs : List Record). Every Passes (of_records c.setting 0 [] rs)) is (accepted_passed c records accepted).each_record) last)

  -- Read back's own checks pass, so it gives the field's value.
  field_read : read_back_of card section c.setting.address r.offset r.type
      ≡ record { number = 0; place = 0; value = field_value parts range (word_at r.offset section) }
  field_read =
      reads card r.type source parts range type section c.setting.address r.offset
      (rw there.size (accepted_passed c records accepted).section_fits)
      (rw there.size there.own.inside)
      there.own.aligned

  -- The bare field holds the bits of the value.
  pub bits_read : bare parts (word_at r.offset section) ≡ slice (lowest parts) (wide parts) (bits_of card.width taken)
  bits_read =
      let well = (sound_word card r.type source parts range type).0 in
      ap (bare parts) there.held
      ∙ bare-mod parts (put parts (bits_of card.width taken) there.old) well
      ∙ put-bare parts (bits_of card.width taken) there.old well

  -- Of a type whose range is checked, read back gives the value, on any card whose numbers have 32 bits or more.
  pub read_back_gives : 32 ≤ c.setting.card.width → range ≢ any →
      read_back_of c.setting.card (section_of c records s) c.setting.address r.offset r.type
      ≡ record { number = 0; place = 0; value = value c.setting before r source }
  read_back_gives wide_enough n =
      let holds = (sound_word card r.type source parts range type).1 in
      let fits = le_trans (short_word card r.type source parts range type n) wide_enough in
      field_read ∙ ap (immediate (answer 0 0))
      (range_back card.width parts range taken (word_at r.offset section) fits holds n there.own.not_above there.own.not_below there.own.multiple bits_read)

  -- Of a type with no range check, it gives the bare field of the value: the bits of the value that the type puts.
  pub read_back-bare : range ≡ any →
      read_back_of c.setting.card (section_of c records s) c.setting.address r.offset r.type
      ≡ record { number = 0; place = 0; value = pos (slice (lowest parts) (wide parts) (bits_of c.setting.card.width (value c.setting before r source))) }
  read_back-bare none =
      field_read ∙ ap (immediate (answer 0 0))
      (ap (λ (a : Accepted). field_value parts a (word_at r.offset section)) none ∙ ap pos bits_read)
