-- A pair of instructions lands on its target: pcalau12i, whose field the types 71, 75, 87, 95 and 97 put, and after it addi.d or a load,
-- which adds the target's low 12 bits as a signed number.
use Rattle.std.specs.Prelude.{ℕ, suc, ◌+◌, ◌-◌, ◌*◌, ◌/◌, ◌%◌, ◌^◌, ◌<◌, ◌≤◌, Bool, true, false, cond, not, ◌||◌, List, [], ◌∷◌, ◌++◌, ◌↔◌, ◌≡◌, ltb, ℤ, pos, negsuc, length}
use Rattle.std.proofs.Common.{div-one, mod-lt, mod-eq_of_lt, arith, inl, inr, sym, ap, ◌∙◌, subst, ltb-true, ltb-false, pow_pos}
use Rattle.std.proofs.Math.Nat.{mod-eq-sub-mod, mod-add-mod, add-mod-mod, add-mod_right, mul-mod_left}
use Rattle.std.proofs.Math.Path.{refl, subst⁻¹}
use Rattle.std.proofs.Math.Dec.{T}
use Rattle.std.proofs.Math.Pow.{suc_ones}
use Rattle.std.specs.Int.Signed.{lt_z, mag}
use mir.Val.{has_key}
use types.Run.{OneOf, hit}
use Rattle.meaning.specs.Numbers.{plus, minus, cleared, signed, bits_of}
use Rattle.meaning.specs.Table.{Sum, only, with_A, with_GP, S+A, GP+G, GP+IE, GP+GD, whole, ◌-PC, pages, far, neg, HI20}
use Rattle.meaning.specs.Table.{Source, stack, of, Semantics, unnamed, word, any, table, look, semantics}
use Rattle.meaning.specs.Field.{slice, wide, lowest, bare}
use Rattle.meaning.specs.Call.{Card, semantics_on, Setting, Call, Record, records_of, value_in, PC, sum, formula}
use Rattle.meaning.specs.Checks.{of_word}
use Rattle.meaning.specs.Patch.{answer_of, section_of}
use Rattle.lemmas.specs.Look.{every, found, on_card}
use Rattle.lemmas.specs.Modulo.{bits_signed}
use Rattle.laws.specs.Bits.{word_at}
use Rattle.laws.specs.Order.{implied}
use Rattle.laws.specs.FieldBack.{low-mod, pow-split, signed_range, signed_back}
use Rattle.laws.specs.ReadBack.{WordUntouched, bits_read}
use Rattle.laws.specs.Types.{named_passes, numbered}

-- A signed number of n bits is -2^(n-1) to 2^(n-1)-1.
pub record FitsSigned (n : ℕ) (z : ℤ) : Type 0 where
  pub not_above : lt_z (pos (2 ^ (n - 1) - 1)) z ≡ false
  pub not_below : lt_z z (neg (2 ^ (n - 1))) ≡ false

-- What is reached from a PC, if m is added to its page, and n to that.
abbrev pub reached : ℕ → ℕ → ℕ → ℕ → ℕ
reached w pc m n = plus w (plus w (cleared 12 pc) m) n

-- Where the pair leads from a PC, by the fields of its words: the 20 bits shifted up by 12 are added to PC's page, and the 12 bits to
-- that, both read as signed.
abbrev pub leads : ℕ → ℕ → ℕ → ℕ → ℕ
leads w pc upper low = reached w pc (bits_of w (signed 32 (upper * 2 ^ 12))) (bits_of w (signed 12 low))

-- ---- the laws, modulo 2 ^ w

-- What was taken away and is added again.
plus-minus : (w a b : ℕ) → a < 2 ^ w → plus w b (minus w a b) ≡ a
plus-minus w a b h =
    let m : ℕ = 2 ^ w in
    let low : b % m < m = mod-lt b (pow_pos w) in
    let e : b % m + (a + (m - b % m)) ≡ a + m = omega arith in
    add-mod-mod b (a + (m - b % m)) m
    ∙ sym (mod-add-mod b m (a + (m - b % m)))
    ∙ ap (λ (x : ℕ). x % m) e
    ∙ add-mod_right a m
    ∙ mod-eq_of_lt h

-- The low 12 bits, as signed, added to the upper part: from 800h up they count back from the page after.
low-added : (w x : ℕ) → 12 ≤ w → x < 2 ^ w → plus w (cleared 12 (plus w x 0x800)) (bits_of w (signed 12 (x % 4096))) ≡ x
low-added w x fits h = go (ltb (x % 4096) 2048) (ltb (x + 2048) (2 ^ w)) refl refl
  where
    go : (b d : Bool) → ltb (x % 4096) 2048 ≡ b → ltb (x + 2048) (2 ^ w) ≡ d →
        plus w (cleared 12 (plus w x 0x800)) (bits_of w (cond b (pos (x % 4096)) (negsuc (4096 - suc (x % 4096))))) ≡ x
    go true true e f =
        let p = pow-split w 12 fits in
        let low = ltb-true (x % 4096) 2048 e in
        let up : (x + 2048) % 2 ^ w ≡ x + 2048 = mod-eq_of_lt (ltb-true (x + 2048) (2 ^ w) f) in
        let q : (x + 2048) / 4096 * 4096 + x % 4096 ≡ x = omega arith in
        ap (λ (y : ℕ). (y / 4096 * 4096 + x % 4096) % 2 ^ w) up ∙ ap (λ (y : ℕ). y % 2 ^ w) q ∙ mod-eq_of_lt h
    go true false e f =
        let p = pow-split w 12 fits in
        let low = ltb-true (x % 4096) 2048 e in
        let past = ltb-false (x + 2048) (2 ^ w) f in
        absurd (omega arith)
    go false true e f =
        let p = pow-split w 12 fits in
        let low = ltb-false (x % 4096) 2048 e in
        let up : (x + 2048) % 2 ^ w ≡ x + 2048 = mod-eq_of_lt (ltb-true (x + 2048) (2 ^ w) f) in
        let q : (x + 2048) / 4096 * 4096 + (2 ^ w - suc (4096 - suc (x % 4096))) ≡ x + 2 ^ w = omega arith in
        ap (λ (y : ℕ). (y / 4096 * 4096 + (2 ^ w - suc (4096 - suc (x % 4096)))) % 2 ^ w) up
        ∙ ap (λ (y : ℕ). y % 2 ^ w) q
        ∙ add-mod_right x (2 ^ w)
        ∙ mod-eq_of_lt h
    go false false e f =
        let p = pow-split w 12 fits in
        let low = ltb-false (x % 4096) 2048 e in
        let past = ltb-false (x + 2048) (2 ^ w) f in
        let less : x + 2048 - 2 ^ w < 2 ^ w = omega arith in
        let up : (x + 2048) % 2 ^ w ≡ x + 2048 - 2 ^ w = mod-eq-sub-mod past ∙ mod-eq_of_lt less in
        let q : (x + 2048 - 2 ^ w) / 4096 * 4096 + (2 ^ w - suc (4096 - suc (x % 4096))) ≡ x = omega arith in
        ap (λ (y : ℕ). (y / 4096 * 4096 + (2 ^ w - suc (4096 - suc (x % 4096)))) % 2 ^ w) up
        ∙ ap (λ (y : ℕ). y % 2 ^ w) q
        ∙ mod-eq_of_lt h

-- A difference of pages is whole pages.
pages_apart : (w a b : ℕ) → 12 ≤ w → minus w (cleared 12 a) (cleared 12 b) % 2 ^ 12 ≡ 0
pages_apart w a b h =
    let p = pow-split w 12 h in
    let d : ℕ = cleared 12 b % 2 ^ w in
    let none : d % 4096 ≡ 0 = low-mod 12 w (cleared 12 b) h ∙ mul-mod_left (b / 4096) 4096 in
    let less : d < 2 ^ w = mod-lt (cleared 12 b) (pow_pos w) in
    let whole : (cleared 12 a + (2 ^ w - d)) % 4096 ≡ 0 = omega arith in
    low-mod 12 w (cleared 12 a + (2 ^ w - d)) h ∙ whole

-- ---- the theorem

-- The target of a record, on any card whose numbers have 32 bits or more, and the distance that its type splits. Where the distance fits
-- 32 bits, HI20 of it and LO12 of the target lead from PC to the target.
module _ (c : Setting) (r : Record) (x : Sum) (wide_enough : 32 ≤ c.card.width) where
  abbrev w : ℕ
  w = c.card.width

  abbrev distance : ℕ
  distance = formula c r (pages x)

  pub whole_pages : formula c r (pages x) % 2 ^ 12 ≡ 0
  whole_pages = pages_apart w (plus w (sum c r x) 0x800) (PC c r) (omega arith)

  field_is : FitsSigned 32 (signed w distance) → bits_of w (signed 32 (slice 12 20 distance * 2 ^ 12)) ≡ distance
  field_is fits =
      let least = suc_ones 31 in
      let back : bits_of w (signed w distance) ≡ distance = bits_signed w distance (mod-lt _ (pow_pos w)) in
      let small : mag (signed w distance) < 2 ^ 31 =
      signed_range (2 ^ 31) (2 ^ 31 - 1) (2 ^ 31 - 1) (signed w distance) least least fits.not_above fits.not_below in
      ap (bits_of w)
      (ap (λ (d : ℕ). signed 32 (slice 12 20 d * 2 ^ 12)) (sym back)
      ∙ signed_back w 12 20 (signed w distance) (omega arith) wide_enough (ap (λ (d : ℕ). d % 2 ^ 12) back ∙ whole_pages) small)
      ∙ back

  -- The whole distance, and the low 12 bits, always lead there.
  pub distance_lands : sum c r x < 2 ^ c.card.width →
      reached c.card.width (PC c r) (formula c r (pages x)) (bits_of c.card.width (signed 12 (slice 0 12 (sum c r x)))) ≡ sum c r x
  distance_lands below =
      let upper : ℕ = cleared 12 (plus w (sum c r x) 0x800) in
      let low : ℤ = signed 12 (sum c r x % 4096) in
      let after : plus w (sum c r x) 0x800 < 2 ^ w = mod-lt (sum c r x + 0x800) (pow_pos w) in
      let less : upper < 2 ^ w = omega arith in
      rw (div-one (sum c r x))
      (ap (λ (d : ℕ). plus w d (bits_of w low)) (plus-minus w upper (cleared 12 (PC c r)) less) ∙ low-added w (sum c r x) (omega arith) below)

  pub pair_lands : sum c r x < 2 ^ c.card.width → FitsSigned 32 (signed c.card.width (formula c r (pages x))) →
      leads c.card.width (PC c r) (slice 12 20 (formula c r (pages x))) (slice 0 12 (sum c r x)) ≡ sum c r x
  pair_lands below fits =
      ap (λ (d : ℕ). reached w (PC c r) d (bits_of w (signed 12 (slice 0 12 (sum c r x))))) (field_is fits) ∙ distance_lands below

-- ---- the five types

-- On a card, a type that puts the upper part of its target.
pub record UpperPart (card : Card) (t : ℕ) : Type 0 where
  pub target : Sum
  pub is : semantics_on card t ≡ word (of (pages target)) HI20 any

abbrev five : List ℕ
five = 71 ∷ 75 ∷ 87 ∷ 95 ∷ 97 ∷ []

-- A test of the target, where a type puts the upper part of one.
of_pages : (Sum → Bool) → Source → Bool
of_pages test stack = false
of_pages test (of (whole x)) = false
of_pages test (of (x -PC)) = false
of_pages test (of (pages x)) = test x
of_pages test (of (far x)) = false

puts : (Sum → Bool) → Semantics → Bool
puts test does = of_word does (λ source range. of_pages test source)

-- A sum with A or with GP: it is one modulo 2 ^ width.
wraps : Sum → Bool
wraps (only v) = false
wraps (with_A v) = true
wraps (with_GP v) = true

module _ (card : Card) (t : ℕ) where
  passes : UpperPart card t → T (puts (λ x. true) (semantics_on card t))
  unfolding puts of_pages
  passes u = subst⁻¹ (λ (d : Semantics). T (puts (λ x. true) d)) u.is tt

  line : (k : ℕ) (x : Sum) → T (card.names t) → t ≡ k → semantics k ≡ word (of (pages x)) HI20 any → UpperPart card t
  line k x n e at-k = record { target = x; is = go (card.names t) n ∙ ap semantics e ∙ at-k }
    where
      go : (b : Bool) → T b → cond b (semantics t) unnamed ≡ semantics t
      go true h = refl
      go false h = absurd h

  -- They are exactly 71, 75, 87, 95 and 97, where the card names them.
  pub upper_part_types : UpperPart card t ↔ (T (card.names t) × OneOf (71 ∷ 75 ∷ 87 ∷ 95 ∷ 97 ∷ []) t)
  unfolding every table look puts of_pages
  upper_part_types =
      let (there, back) = named_passes (puts (λ x. true)) refl card t in (
        (λ u. ((there (passes u)).0, hit five t (numbered (puts (λ x. true)) refl (has_key five) tt t (there (passes u)).1))),
        (λ h. go h.0 h.1),
      )
    where
      go : T (card.names t) → OneOf five t → UpperPart card t
      go n (inl e) = line 71 S+A n e refl
      go n (inr (inl e)) = line 75 GP+G n e refl
      go n (inr (inr (inl e))) = line 87 GP+IE n e refl
      go n (inr (inr (inr (inl e)))) = line 95 GP+GD n e refl
      go n (inr (inr (inr (inr e)))) = line 97 GP+GD n e refl

-- Their targets are sums with A or with GP, and so below 2 ^ width.
target_below : (c : Setting) (r : Record) (u : UpperPart c.card r.type) → sum c r u.target < 2 ^ c.card.width
unfolding every table puts of_pages wraps
target_below c r u =
    let Wraps : Semantics → Type 0 = λ d. T (puts (λ x. true) d) → T (puts wraps d) in
    let line_wraps : ℕ → Semantics → Bool = λ n d. not (puts (λ x. true) d) || puts wraps d in
    let in_table = found Wraps line_wraps table r.type tt (λ d. implied (puts (λ x. true) d) (puts wraps d)) (λ p. absurd p) in
    go u.target
    (subst (λ (d : Semantics). T (puts wraps d)) u.is (on_card Wraps c.card r.type in_table (λ p. absurd p) (passes c.card r.type u)))
  where
    go : (x : Sum) → T (wraps x) → sum c r x < 2 ^ c.card.width
    go (only v) h = absurd h
    go (with_A v) h = mod-lt (value_in v r.row + r.addend) (pow_pos c.card.width)
    go (with_GP v) h = mod-lt (c.gp + value_in v r.row) (pow_pos c.card.width)

-- The call is accepted, r is a record of it of one of the five types, and no record after r writes a byte of r's word. Then the field in
-- that word, with the low 12 bits of the target, leads to the target, wherever the distance fits 32 bits.
pub patched-pair_lands : (c : Call) (s records : List ℕ) → c.setting.size ≡ length s →
    (before later : List Record) (r : Record) (u : UpperPart c.setting.card r.type) →
    (answer_of c records).number ≡ 0 → records_of c records ≡ before ++ r ∷ later → WordUntouched c.setting later r.offset →
    32 ≤ c.setting.card.width → FitsSigned 32 (signed c.setting.card.width (formula c.setting r (pages u.target))) →
    leads c.setting.card.width (PC c.setting r) (bare HI20 (word_at r.offset (section_of c records s))) (slice 0 12 (sum c.setting r u.target))
    ≡ sum c.setting r u.target
unfolding lowest wide
patched-pair_lands c s records size before later r u accepted is last enough fits =
    let w : ℕ = c.setting.card.width in
    let X : ℕ = sum c.setting r u.target in
    let D : ℕ = formula c.setting r (pages u.target) in
    let field : bare HI20 (word_at r.offset (section_of c records s)) ≡ slice 12 20 D =
    bits_read c s records size before later r (of (pages u.target)) HI20 any accepted is u.is last
    ∙ ap (slice 12 20) (bits_signed w D (mod-lt _ (pow_pos w))) in
    ap (λ (f : ℕ). leads w (PC c.setting r) f (slice 0 12 X)) field
    ∙ pair_lands c.setting r u.target enough (target_below c.setting r u) fits
