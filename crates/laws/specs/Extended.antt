-- The numbers that a sequence of instructions brings together: each of the four brings its bits of an address; the pair brings a distance, of
-- which 20 bits are as signed, and the low 12 bits of an address.
use Rattle.std.specs.Prelude.{ℕ, suc, ◌+◌, ◌-◌, ◌*◌, ◌/◌, ◌%◌, ◌^◌, ◌<◌, ◌≤◌, Bool, true, false, cond, ◌⊎◌, ◌≡◌, refl, ltb, ℤ, pos, negsuc}
use Rattle.std.proofs.Common.{add_comm, div-one, mod-lt, mod-eq_of_lt, eq-or-lt_of_le, arith, inl, inr, ⊎_elim, sym, ap, ap₂, ◌∙◌, subst, ltb-true, ltb-false, le-ltb, pow_pos, pow_mono, shl_lt}
use Rattle.std.proofs.Math.Nat.{mod-add-mod, mul-mod_left}
use Rattle.std.specs.Int.Bits.{bit_or}
use Rattle.std.proofs.lemmas.Nat.{or_shifted, mod-pow-add, shl-shr}
use Rattle.std.proofs.Math.Pow.{field, high, low}
use Rattle.std.specs.Int.Signed.{mag}
use Rattle.meaning.specs.Numbers.{plus, cleared, signed, bits_of}
use Rattle.meaning.specs.Field.{slice}
use Rattle.meaning.specs.Executor.{SignExtend}
use Rattle.laws.specs.FieldBack.{low-mod, restored, negative_low, signed_low}
use Rattle.laws.specs.Pair.{FitsSigned, reached}

-- ---- sign extension

module _ (n w x : ℕ) (fits : n ≤ w) (small : x < 2 ^ n) where
  -- The low n of the w bits are the n bits.
  extended_low : SignExtend n x w % 2 ^ n ≡ x
  extended_low = go (ltb x (2 ^ (n - 1))) refl
    where
      go : (b : Bool) → ltb x (2 ^ (n - 1)) ≡ b → bits_of w (cond b (pos x) (negsuc (2 ^ n - suc x))) % 2 ^ n ≡ x
      go true e = mod-eq_of_lt small
      go false e =
          let back : 2 ^ n - suc (2 ^ n - suc x) ≡ x = omega arith in
          negative_low w n (2 ^ n - suc x) fits (omega arith) ∙ back

  -- They are w bits.
  extended_below : SignExtend n x w < 2 ^ w
  extended_below = go (ltb x (2 ^ (n - 1))) refl
    where
      more : 2 ^ n ≤ 2 ^ w
      more = pow_mono fits

      go : (b : Bool) → ltb x (2 ^ (n - 1)) ≡ b → bits_of w (cond b (pos x) (negsuc (2 ^ n - suc x))) < 2 ^ w
      go true e = omega (arith, more)
      go false e = omega (arith, pow_pos w)

-- ---- the four: each brings its bits of the number

-- A number above the low k bits, of which the low j stay.
over : (j k q r : ℕ) → r < 2 ^ k → (q * 2 ^ k + r) % 2 ^ (j + k) ≡ q % 2 ^ j * 2 ^ k + r
over j k q r h = mod-pow-add (q * 2 ^ k + r) j k ∙ ap₂ (λ (a b : ℕ). a % 2 ^ j * 2 ^ k + b) (high q k h) (low q k h)

low-slice : (n x : ℕ) → slice 0 n x ≡ x % 2 ^ n
low-slice n x = ap (λ (y : ℕ). y % 2 ^ n) (div-one x)

module _ (x : ℕ) where
  -- lu12i.w brings bits 31 to 12, as signed, and ori bits 11 to 0.
  abbrev pub first_two : ℕ
  first_two = bit_or (SignExtend 32 (slice 12 20 x * 2 ^ 12) 64) (slice 0 12 x)

  low_32 : first_two % 2 ^ 32 ≡ x % 2 ^ 32
  low_32 =
      let y : ℕ = slice 12 20 x in
      let v : ℕ = SignExtend 32 (y * 2 ^ 12) 64 in
      let q : ℕ = v / 2 ^ 12 in
      let r : ℕ = slice 0 12 x in
      let up : y * 2 ^ 12 < 2 ^ 32 = shl_lt 20 12 (mod-lt (x / 2 ^ 12) (pow_pos 20)) in
      let is : v % 2 ^ 32 ≡ y * 2 ^ 12 = extended_low 32 64 (y * 2 ^ 12) (omega arith) up in
      let none : v % 2 ^ 12 ≡ 0 = sym (low-mod 12 32 v (omega arith)) ∙ ap (λ (a : ℕ). a % 2 ^ 12) is ∙ mul-mod_left y (2 ^ 12) in
      let zeros : v ≡ q * 2 ^ 12 = omega arith in
      let bits : q % 2 ^ 20 ≡ y = sym (field v 20 12) ∙ ap (λ (a : ℕ). a / 2 ^ 12) is ∙ shl-shr y 12 in
      let below : r < 2 ^ 12 = mod-lt (x / 1) (pow_pos 12) in
      ap (λ (a : ℕ). a % 2 ^ 32) (ap (λ (a : ℕ). bit_or a r) zeros ∙ or_shifted q 12 r below)
      ∙ over 20 12 q r below
      ∙ ap₂ (λ (a b : ℕ). a * 2 ^ 12 + b) bits (low-slice 12 x)
      ∙ sym (mod-pow-add x 20 12)

  -- lu32i.d brings bits 51 to 32, as signed.
  abbrev pub first_three : ℕ
  first_three = SignExtend 20 (slice 32 20 x) 32 * 2 ^ 32 + slice 0 32 first_two

  low_52 : first_three % 2 ^ 52 ≡ x % 2 ^ 52
  low_52 =
      let z : ℕ = slice 32 20 x in
      over 20 32 (SignExtend 20 z 32) (slice 0 32 first_two) (mod-lt (first_two / 1) (pow_pos 32))
      ∙ ap₂ (λ (a b : ℕ). a * 2 ^ 32 + b) (extended_low 20 32 z (omega arith) (mod-lt (x / 2 ^ 32) (pow_pos 20))) (low-slice 32 first_two ∙ low_32)
      ∙ sym (mod-pow-add x 20 32)

  -- lu52i.d brings bits 63 to 52.
  pub all_four : x < 2 ^ 64 → slice 52 12 x * 2 ^ 52 + slice 0 52 first_three ≡ x
  all_four small =
      ap (λ (b : ℕ). slice 52 12 x * 2 ^ 52 + b) (low-slice 52 first_three ∙ low_52) ∙ sym (mod-pow-add x 12 52) ∙ mod-eq_of_lt small

-- ---- the pair: by the distance d that is split, of which pcalau12i brings 20 bits, as signed

-- A number that is a multiple of 2 ^ 32, and not 0, away from another.
pub record MultipleAway (a b : ℕ) : Type 0 where
  pub times : ℕ
  pub some : 1 ≤ times
  pub away : (a ≡ b + times * 2 ^ 32) ⊎ (b ≡ a + times * 2 ^ 32)

pub apart : (a b : ℕ) → a % 2 ^ 32 ≡ b % 2 ^ 32 → (a ≡ b → ⊥) → MultipleAway a b
apart a b same other = go (ltb a b) refl
  where
    go : (t : Bool) → ltb a b ≡ t → MultipleAway a b
    go true e =
        let less = ltb-true a b e in
        record { times = (b - a) / 2 ^ 32; some = omega arith; away = inr (omega arith) }
    go false e =
        let more : b < a = ⊎_elim (λ f. absurd (other (sym f))) (λ l. l) (eq-or-lt_of_le (ltb-false a b e)) in
        record { times = (a - b) / 2 ^ 32; some = omega arith; away = inl (omega arith) }

-- 32 bits as signed fit 32 bits.
signed_fits : (y : ℕ) → y < 2 ^ 32 → FitsSigned 32 (signed 32 y) × (mag (signed 32 y) < 2 ^ 63)
signed_fits y small = go (ltb y (2 ^ 31)) refl
  where
    go : (b : Bool) → ltb y (2 ^ 31) ≡ b →
        FitsSigned 32 (cond b (pos y) (negsuc (2 ^ 32 - suc y))) × (mag (cond b (pos y) (negsuc (2 ^ 32 - suc y))) < 2 ^ 63)
    go true e =
        let less = ltb-true y (2 ^ 31) e in
        (record { not_above = le-ltb (2 ^ 31 - 1) y (omega arith); not_below = refl }, omega arith)
    go false e =
        let more = ltb-false y (2 ^ 31) e in
        (record { not_above = refl; not_below = le-ltb (2 ^ 31 - 1) (2 ^ 32 - suc y) (omega arith) }, omega arith)

-- Sums of numbers with the same low 32 bits have the same low 32 bits.
same_low : (a b n : ℕ) → a % 2 ^ 32 ≡ b % 2 ^ 32 → plus 64 a n % 2 ^ 32 ≡ plus 64 b n % 2 ^ 32
same_low a b n e =
    low-mod 32 64 (a + n) (omega arith)
    ∙ sym (mod-add-mod a (2 ^ 32) n)
    ∙ ap (λ (y : ℕ). (y + n) % 2 ^ 32) e
    ∙ mod-add-mod b (2 ^ 32) n
    ∙ sym (low-mod 32 64 (b + n) (omega arith))

-- Sums modulo 2 ^ 64 that are equal, and differ in one number.
cancelled : (c n a b : ℕ) → a < 2 ^ 64 → b < 2 ^ 64 → plus 64 (plus 64 c a) n ≡ plus 64 (plus 64 c b) n → a ≡ b
cancelled c n a b low-a low-b e = omega arith

-- Whole pages can be added before the low bits are cleared, or after.
clear_late : (a b : ℕ) → b % 2 ^ 12 ≡ 0 → cleared 12 (plus 64 a b) ≡ plus 64 (cleared 12 a) b
clear_late a b zeros = omega arith

-- The distance's 20 bits above 12 zeros, as signed: what pcalau12i adds to PC.
abbrev pub upper : ℕ → ℕ
upper d = SignExtend 32 (slice 12 20 d * 2 ^ 12) 64

module _ (pc d n : ℕ) (zeros : d % 2 ^ 12 ≡ 0) (below : d < 2 ^ 64) where
  abbrev split : ℕ
  split = slice 12 20 d * 2 ^ 12

  short : split < 2 ^ 32
  short = shl_lt 20 12 (mod-lt (d / 2 ^ 12) (pow_pos 20))

  upper-low : upper d % 2 ^ 32 ≡ d % 2 ^ 32
  upper-low = extended_low 32 64 split (omega arith) short ∙ restored 12 20 d zeros

  -- pcalau12i adds before it clears, and comes to the same.
  pub cleared-sum : cleared 12 (plus 64 pc (upper d)) ≡ plus 64 (cleared 12 pc) (upper d)
  cleared-sum =
      clear_late pc (upper d)
      (sym (low-mod 12 32 (upper d) (omega arith)) ∙ ap (λ (y : ℕ). y % 2 ^ 12) upper-low ∙ low-mod 12 32 d (omega arith) ∙ zeros)

  -- If it leads where the whole distance leads, the distance fits.
  pub fits_if : reached 64 pc (upper d) n ≡ reached 64 pc d n → FitsSigned 32 (signed 64 d)
  fits_if e =
      let z : ℤ = signed 32 split in
      let small-upper = extended_below 32 64 split (omega arith) short in
      let same : upper d ≡ d = cancelled (cleared 12 pc) n (upper d) d small-upper below e in
      let (fits, small) = signed_fits split short in
      let back : signed 64 (upper d) ≡ z = ap (signed 64) (sym (mod-eq_of_lt small-upper)) ∙ signed_low 64 64 z (omega arith) (omega arith) small in
      subst (FitsSigned 32) (sym back ∙ ap (signed 64) same) fits

  -- Its low 32 bits are those of where the whole distance leads.
  pub same-low_32 : reached 64 pc (upper d) n % 2 ^ 32 ≡ reached 64 pc d n % 2 ^ 32
  same-low_32 =
      same_low (plus 64 (cleared 12 pc) (upper d)) (plus 64 (cleared 12 pc) d) n
      (ap (λ (y : ℕ). y % 2 ^ 64 % 2 ^ 32) (add_comm (cleared 12 pc) (upper d))
      ∙ same_low (upper d) d (cleared 12 pc) upper-low
      ∙ ap (λ (y : ℕ). y % 2 ^ 64 % 2 ^ 32) (add_comm d (cleared 12 pc)))
