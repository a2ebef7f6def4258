-- What a record leaves as it was: every bit of a word outside its field's parts, and so every bit of the section's bytes that is in
-- no field. Said once, over the description of fields.
use Rattle.std.specs.Prelude.{ℕ, zero, suc, ◌+◌, ◌-◌, ◌*◌, ◌/◌, ◌%◌, ◌^◌, ◌<◌, ◌≤◌, Bool, true, false, List, [], ◌∷◌, ◌⊎◌, ◌≡◌, refl, ltb, length, take, drop, get_or}
use Rattle.std.proofs.Common.{zero-add, mod-lt, arith, inl, inr, sym, ap, ◌∙◌, subst, ltb-true, ltb-false, pow_pos, shr-shr, get_or-take, get_or-drop}
use Rattle.std.proofs.Math.Pow.{field, mod-mod-pow}
use Rattle.std.proofs.lemmas.Nat.{shr_le}
use Rattle.meaning.specs.Numbers.{number, bytes_of, bits_of}
use Rattle.meaning.specs.Table.{Part, Source, Accepted, Semantics, unnamed, idle, loaders, push, operation, word, bytes}
use Rattle.meaning.specs.Field.{many, low, at, slice, splice, put}
use Rattle.meaning.specs.Call.{Setting, Record}
use Rattle.meaning.specs.Stack.{Stack}
use Rattle.meaning.specs.Checks.{writes, outside, word_value}
use Rattle.meaning.specs.Patch.{effect}
use Rattle.lemmas.specs.Bytes.{length-bytes_of, number-bytes_of}
use Rattle.lemmas.specs.Splice.{splice-outside}
use Rattle.laws.specs.Replaced.{Bytes, bytes_take, bytes_drop, laid-inside}
use Rattle.laws.specs.Effect.{inside-section, effect_keeps}

-- bit b of a number, and the word at a place
abbrev pub bit_at : ℕ → ℕ → ℕ
bit_at b x = x / 2 ^ b % 2

abbrev pub word_at : ℕ → List ℕ → ℕ
word_at place s = number (take 4 (drop place s))

-- the word's bit b is in no part of the field
abbrev pub InNoPart : List Part → ℕ → Type 0
InNoPart [] b = Unit {0}
InNoPart (p ∷ ps) b = ((b < at p) ⊎ (many p + at p ≤ b)) × InNoPart ps b

pub put-outside : (parts : List Part) (x w b : ℕ) → InNoPart parts b → bit_at b (put parts x w) ≡ bit_at b w
unfolding put
put-outside [] x w b h = refl
put-outside (p ∷ ps) x w b h =
    put-outside ps x (splice (at p) (many p) (slice (low p) (many p) x) w) b h.1
    ∙ splice-outside (at p) (many p) (slice (low p) (many p) x) w b (mod-lt (x / 2 ^ low p) (pow_pos (many p))) h.0

-- the low bits of a number are those of its remainder
pub bit-mod : (b m x : ℕ) → b < m → bit_at b (x % 2 ^ m) ≡ bit_at b x
bit-mod b m x h =
    let e : m - suc b + 1 + b ≡ m = omega arith in
    subst (λ (k : ℕ). bit_at b (x % 2 ^ k) ≡ bit_at b x) e
    (ap (λ (y : ℕ). y % 2) (field x (m - suc b + 1) b) ∙ mod-mod-pow (x / 2 ^ b) (m - suc b) 1)

-- After a word type, a bit of the word that is in no part of its field is the old one.
pub other_bits_stay : (c : Setting) (r : Record) (source : Source) (parts : List Part) (range : Accepted) (st : Stack) (s : List ℕ) (b : ℕ) →
    r.offset + 4 ≤ length s → b < 32 → InNoPart parts b →
    bit_at b (word_at r.offset (effect c r (word source parts range) st s)) ≡ bit_at b (word_at r.offset s)
other_bits_stay c r source parts range st s b fits low none =
    let x : ℕ = bits_of c.card.width (word_value c r st source) in
    let new : ℕ = put parts x (word_at r.offset s) in
    ap (λ (t : List ℕ). bit_at b (number t)) (laid-inside r.offset 4 (bytes_of 4 new) s (length-bytes_of 4 new) fits)
    ∙ ap (bit_at b) (number-bytes_of 4 new)
    ∙ bit-mod b 32 new low
    ∙ put-outside parts x (word_at r.offset s) b none

-- ---- bits of the section's bytes

-- Bit b of byte k is bit 8 * k + b of the number that the bytes hold.
number_bit : (k b : ℕ) (t : List ℕ) → Bytes t → b < 8 → bit_at (8 * k + b) (number t) ≡ bit_at b (get_or t k 0)
unfolding number
number_bit k b [] p l =
    let h = shr_le 0 (8 * k + b) in
    let g = shr_le 0 b in
    omega arith
number_bit zero b (x ∷ t) p l =
    let byte = p 0 in
    let e : (x + 256 * number t) % 2 ^ 8 ≡ x = omega arith in
    rw zero-add (sym (bit-mod b 8 (x + 256 * number t) l) ∙ ap (bit_at b) e)
number_bit (suc k) b (x ∷ t) p l =
    let byte = p 0 in
    let e : 8 * suc k + b ≡ 8 + (8 * k + b) = omega arith in
    let d : (x + 256 * number t) / 2 ^ 8 ≡ number t = omega arith in
    ap (λ (j : ℕ). bit_at j (x + 256 * number t)) e
    ∙ ap (λ (y : ℕ). y % 2) (sym (shr-shr (x + 256 * number t) 8 (8 * k + b)))
    ∙ ap (bit_at (8 * k + b)) d
    ∙ number_bit k b t (λ i. p (suc i)) l

-- So of the word at a place.
word_bit : (place k b : ℕ) (s : List ℕ) → Bytes s → k < 4 → b < 8 → bit_at (8 * k + b) (word_at place s) ≡ bit_at b (get_or s (place + k) 0)
word_bit place k b s p h l =
    number_bit k b (take 4 (drop place s)) (bytes_take 4 (drop place s) (bytes_drop place s p)) l
    ∙ ap (bit_at b) (get_or-take 4 (drop place s) k 0 h ∙ get_or-drop place s k 0)

-- Bit b of byte k from its place is none that a type rewrites: of a word type it is in no part of the field; a data type rewrites
-- every bit of its n bytes, and the other types nothing.
abbrev pub InNoField : Semantics → ℕ → ℕ → Type 0
InNoField unnamed k b = Unit {0}
InNoField idle k b = Unit {0}
InNoField loaders k b = Unit {0}
InNoField (push f) k b = Unit {0}
InNoField (operation o) k b = Unit {0}
InNoField (word source parts range) k b = InNoPart parts (8 * k + b)
InNoField (bytes way n f) k b = n ≤ k

-- Bit b of byte i of the section: the byte is before the record's place, or the bit is none that its type rewrites there.
abbrev pub SparedBy : Record → Semantics → ℕ → ℕ → Type 0
SparedBy r does i b = (i < r.offset) ⊎ InNoField does (i - r.offset) b

module _ (c : Setting) (r : Record) (st : Stack) (s : List ℕ) (p : Bytes s) (b : ℕ) (l : b < 8) where
  -- A byte that a type writes.
  inside_stays : (does : Semantics) (k : ℕ) → outside (length s) r.offset (writes does) ≡ false → k < writes does → InNoField does k b →
      bit_at b (get_or (effect c r does st s) (r.offset + k) 0) ≡ bit_at b (get_or s (r.offset + k) 0)
  inside_stays unnamed k h low none = refl
  inside_stays idle k h low none = refl
  inside_stays loaders k h low none = refl
  inside_stays (push f) k h low none = refl
  inside_stays (operation o) k h low none = refl
  inside_stays (word source parts range) k h low none =
      let kept = effect_keeps c r (word source parts range) st s h in
      let in_word : 8 * k + b < 32 = omega arith in
      sym (word_bit r.offset k b _ (kept.still_bytes p) low l)
      ∙ other_bits_stay c r source parts range st s (8 * k + b) (inside-section (length s) r.offset 3 h) in_word none
      ∙ word_bit r.offset k b s p low l
  inside_stays (bytes way n f) k h low past = absurd (omega arith)

  -- Any byte.
  pub bit_stays : (does : Semantics) (i : ℕ) → outside (length s) r.offset (writes does) ≡ false → SparedBy r does i b →
      bit_at b (get_or (effect c r does st s) i 0) ≡ bit_at b (get_or s i 0)
  bit_stays does i h spared = go spared (ltb i r.offset) (ltb i (r.offset + writes does)) refl refl
    where
      elsewhere : (i < r.offset) ⊎ (r.offset + writes does ≤ i) → bit_at b (get_or (effect c r does st s) i 0) ≡ bit_at b (get_or s i 0)
      elsewhere o = ap (bit_at b) ((effect_keeps c r does st s h).elsewhere i o)

      go : SparedBy r does i b → (x y : Bool) → ltb i r.offset ≡ x → ltb i (r.offset + writes does) ≡ y →
          bit_at b (get_or (effect c r does st s) i 0) ≡ bit_at b (get_or s i 0)
      go (inl before) x y e f = elsewhere (inl before)
      go (inr none) true y e f = elsewhere (inl (ltb-true i r.offset e))
      go (inr none) false false e f = elsewhere (inr (ltb-false i (r.offset + writes does) f))
      go (inr none) false true e f =
          let from = ltb-false i r.offset e in
          let to = ltb-true i (r.offset + writes does) f in
          let here : r.offset + (i - r.offset) ≡ i = omega arith in
          subst (λ (j : ℕ). bit_at b (get_or (effect c r does st s) j 0) ≡ bit_at b (get_or s j 0)) here
          (inside_stays does (i - r.offset) h (omega arith) none)
