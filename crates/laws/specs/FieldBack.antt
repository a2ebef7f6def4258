-- A field reads back what was put into it. Said once, over the description of fields: any parts that are sound, any range that they hold.
use Rattle.std.specs.Prelude.{ℕ, suc, ◌+◌, ◌-◌, ◌*◌, ◌/◌, ◌%◌, ◌^◌, ◌<◌, ◌≤◌, Bool, true, false, not, ◌&&◌, ◌||◌, List, [], ◌∷◌, ◌⊎◌, ◌≢◌, ◌≡◌, refl, T, eqb, ltb, leb, ℤ, pos, negsuc, neg_ℤ, nat_abs}
use Rattle.std.proofs.Common.{add-zero, mul-one, mod-lt, mod-eq_of_lt, arith, true≢false, inl, inr, sym, ap, ap₂, ◌∙◌, subst, ltb-false, lt-ltb, le-ltb, eqb→eq, ltb→lt, leb→le, pow_pos, pow-add, shr-shr}
use Rattle.std.proofs.Math.Nat.{mod-one}
use Rattle.std.proofs.Math.Pow.{suc_ones, mod-mod-pow, field, not_mod}
use Rattle.std.proofs.lemmas.Nat.{mod-pow-add}
use Rattle.std.specs.Int.Signed.{lt_z, mag}
use Rattle.meaning.specs.Numbers.{signed, bits_of}
use Rattle.meaning.specs.Table.{Part, bits◌⋯◌to◌⋯◌, Accepted, from◌to◌, signed_multiple_of_4, any}
use Rattle.meaning.specs.Field.{many, low, at, slice, splice, put, wide, lowest, bare}
use Rattle.meaning.specs.Checks.{above, below, not_multiple}
use Rattle.meaning.specs.ReadBack.{field_value}
use Rattle.meaning.proofs.Sound.{inside, apart, apart_from, adjoining, sound_parts, holds_range}
use Rattle.lemmas.specs.Look.{both}
use Rattle.lemmas.specs.Splice.{splice-inside, splice-apart}

-- ---- the test of soundness, taken apart

-- One of two tests passes.
pub either : (a b : Bool) → T (a || b) → T a ⊎ T b
either true b h = inl tt
either false b h = inr h

-- A sound part lies inside the word.
inside_fits : (p : Part) → T (inside p) → many p + at p ≤ 32
unfolding inside
inside_fits (bits h ⋯ l to H ⋯ L) t =
    let (t₄, equal) = both (leb l h && ltb h 64 && leb L H && ltb H 32) (eqb (H - L) (h - l)) t in
    let (t₃, e) = both (leb l h && ltb h 64 && leb L H) (ltb H 32) t₄ in
    let (t₂, d) = both (leb l h && ltb h 64) (leb L H) t₃ in
    let (a, b) = both (leb l h) (ltb h 64) t₂ in
    omega (arith, leb→le, ltb→lt, eqb→eq)

-- What soundness says of the first part and of the others.
record First (p : Part) (ps : List Part) : Type 0 where
  fits : many p + at p ≤ 32
  alone : T (apart_from p ps)
  adjoins : T (adjoining p ps)
  others : T (sound_parts ps)

first_part : (p : Part) (ps : List Part) → T (sound_parts (p ∷ ps)) → First p ps
unfolding sound_parts
first_part p ps t =
    let (t₃, others) = both (inside p && apart_from p ps && adjoining p ps) (sound_parts ps) t in
    let (t₂, adjoins) = both (inside p && apart_from p ps) (adjoining p ps) t₃ in
    let (fits, alone) = both (inside p) (apart_from p ps) t₂ in
    record { fits = inside_fits p fits; alone = alone; adjoins = adjoins; others = others }

-- ---- the parts of a field

-- The bits of a part that lies apart from those put in stay.
put-apart : (p : Part) (ps : List Part) (x w : ℕ) → T (apart_from p ps) → slice (at p) (many p) (put ps x w) ≡ slice (at p) (many p) w
unfolding put apart_from apart
put-apart p [] x w h = refl
put-apart p (q ∷ ps) x w h =
    let (a, b) = both (leb (many p + at p) (at q) || leb (many q + at q) (at p)) (apart_from p ps) h in
    put-apart p ps x (splice (at q) (many q) (slice (low q) (many q) x) w) b
    ∙ splice-apart (at q) (many q) (slice (low q) (many q) x) w (at p) (many p) (mod-lt (x / 2 ^ low q) (pow_pos (many q)))
    (go (either (leb (many p + at p) (at q)) (leb (many q + at q) (at p)) a))
  where
    go : T (leb (many p + at p) (at q)) ⊎ T (leb (many q + at q) (at p)) → (at p + many p ≤ at q) ⊎ (many q + at q ≤ at p)
    go (inl a) = inl (omega (arith, leb→le))
    go (inr a) = inr (leb→le (many q + at q) (at p) a)

-- The value's bits end where the first part's do.
top : (p : Part) (ps : List Part) → T (sound_parts (p ∷ ps)) → lowest (p ∷ ps) + wide (p ∷ ps) ≡ many p + low p
unfolding lowest wide adjoining
top p [] h = omega arith
top p (q ∷ ps) h =
    let f = first_part p (q ∷ ps) h in
    let e = eqb→eq (low p) (many q + low q) f.adjoins in
    let rest = top q ps f.others in
    omega arith

-- The first part holds its bits of the value.
put_first : (p : Part) (ps : List Part) (x w : ℕ) → T (apart_from p ps) →
    slice (at p) (many p) (put (p ∷ ps) x w) ≡ slice (low p) (many p) x
unfolding put
put_first p ps x w h =
    put-apart p ps x (splice (at p) (many p) (slice (low p) (many p) x) w) h
    ∙ splice-inside (at p) (many p) (slice (low p) (many p) x) w (mod-lt (x / 2 ^ low p) (pow_pos (many p)))

-- The m bits from k up, and the n bits above them, side by side.
side_by_side : (k m l n x : ℕ) → k + m ≡ l → slice l n x * 2 ^ m + slice k m x ≡ slice k (n + m) x
side_by_side k m l n x e =
    ap (λ (y : ℕ). y % 2 ^ n * 2 ^ m + slice k m x) (ap (λ (j : ℕ). x / 2 ^ j) (sym e) ∙ sym (shr-shr x k m))
    ∙ sym (mod-pow-add (x / 2 ^ k) n m)

-- The bare field of a word is the value's bits that were put in.
pub put-bare : (parts : List Part) (x w : ℕ) → T (sound_parts parts) → bare parts (put parts x w) ≡ slice (lowest parts) (wide parts) x
unfolding put bare wide lowest adjoining
put-bare [] x w h = sym (mod-one (x / 2 ^ 0))
put-bare (p ∷ []) x w h = rw (put_first p [] x w (first_part p [] h).alone) (simp (mul-one, add-zero))
put-bare (p ∷ q ∷ ps) x w h =
    let f = first_part p (q ∷ ps) h in
    let end = top q ps f.others ∙ sym (eqb→eq (low p) (many q + low q) f.adjoins) in
    let v : ℕ = splice (at p) (many p) (slice (low p) (many p) x) w in
    ap₂ (λ (a b : ℕ). a * 2 ^ wide (q ∷ ps) + b) (put_first p (q ∷ ps) x w f.alone) (put-bare (q ∷ ps) x v f.others)
    ∙ side_by_side (lowest (q ∷ ps)) (wide (q ∷ ps)) (low p) (many p) x end

-- The bits below bit m are those of the remainder.
pub low-mod : (k m x : ℕ) → k ≤ m → x % 2 ^ m % 2 ^ k ≡ x % 2 ^ k
low-mod k m x h =
    let e : m - k + k ≡ m = omega arith in
    subst (λ (j : ℕ). x % 2 ^ j % 2 ^ k ≡ x % 2 ^ k) e (mod-mod-pow x (m - k) k)

slice-mod : (k n m w : ℕ) → n + k ≤ m → slice k n (w % 2 ^ m) ≡ slice k n w
slice-mod k n m w h = sym (field (w % 2 ^ m) n k) ∙ ap (λ (y : ℕ). y / 2 ^ k) (low-mod (n + k) m w h) ∙ field w n k

-- The bare field is in the word's 32 bits.
pub bare-mod : (parts : List Part) (w : ℕ) → T (sound_parts parts) → bare parts (w % 2 ^ 32) ≡ bare parts w
unfolding bare
bare-mod [] w h = refl
bare-mod (p ∷ ps) w h =
    let f = first_part p ps h in
    ap₂ (λ (a b : ℕ). a * 2 ^ wide ps + b) (slice-mod (at p) (many p) 32 w f.fits) (bare-mod ps w f.others)

-- ---- a value's bits back to the value

-- Bits with zeros below them, and the zeros restored.
pub restored : (k n x : ℕ) → x % 2 ^ k ≡ 0 → slice k n x * 2 ^ k ≡ x % 2 ^ (n + k)
restored k n x h = let e = mod-pow-add x n k in omega arith

-- A number of n bits above k zeros.
unsigned_back : (k n x : ℕ) → x % 2 ^ k ≡ 0 → x < 2 ^ (n + k) → slice k n x * 2 ^ k ≡ x
unsigned_back k n x h l = restored k n x h ∙ mod-eq_of_lt l

-- A power of two is 2 ^ k times the one k before it.
pub pow-split : (n k : ℕ) → k ≤ n → 2 ^ n ≡ 2 ^ (n - k) * 2 ^ k
pow-split n k h =
    let e : n ≡ n - k + k = omega arith in
    ap (λ (j : ℕ). 2 ^ j) e ∙ pow-add 2 (n - k) k

-- The low n of the w bits of a number below 0, where n bits hold it.
pub negative_low : (w n a : ℕ) → n ≤ w → a < 2 ^ n → (2 ^ w - suc a) % 2 ^ n ≡ 2 ^ n - suc a
negative_low w n a most small =
    let d : w - n + n ≡ w = omega arith in
    let c : 2 ^ w - suc a ≡ 2 ^ w - 1 - a = omega arith in
    let b : 2 ^ n - 1 - a ≡ 2 ^ n - suc a = omega arith in
    ap (λ (y : ℕ). y % 2 ^ n) c ∙ subst (λ (j : ℕ). (2 ^ j - 1 - a) % 2 ^ n ≡ 2 ^ n - 1 - a) d (not_mod (w - n) n small) ∙ b

-- The low n of a number's w bits, where n bits hold it, read as signed, are the number.
pub signed_low : (w n : ℕ) (z : ℤ) → 1 ≤ n → n ≤ w → mag z < 2 ^ (n - 1) → signed n (bits_of w z % 2 ^ n) ≡ z
signed_low w n (pos a) one most small =
    let e = pow-split n 1 one in
    let l : a < 2 ^ n = omega arith in
    rw (mod-eq_of_lt l, lt-ltb a (2 ^ (n - 1)) small)
signed_low w n (negsuc a) one most small =
    let e = pow-split n 1 one in
    let l : a < 2 ^ n = omega arith in
    let high : 2 ^ (n - 1) ≤ 2 ^ n - suc a = omega arith in
    let back : 2 ^ n - suc (2 ^ n - suc a) ≡ a = omega arith in
    rw (negative_low w n a most l, le-ltb (2 ^ n - suc a) (2 ^ (n - 1)) high) (ap negsuc back)

-- A signed number of n bits above k zeros.
pub signed_back : (w k n : ℕ) (z : ℤ) → 1 ≤ n → n + k ≤ w → bits_of w z % 2 ^ k ≡ 0 → mag z < 2 ^ (n + k - 1) →
    signed (n + k) (slice k n (bits_of w z) * 2 ^ k) ≡ z
signed_back w k n z one most h small =
    let l : 1 ≤ n + k = omega arith in
    ap (signed (n + k)) (restored k n (bits_of w z) h) ∙ signed_low w (n + k) z l most small

-- ---- ranges

-- Are the accepted values checked.
abbrev pub checked : Accepted → Bool
checked (from l to h) = true
checked (signed_multiple_of_4 n) = true
checked any = false

pub not_any : (range : Accepted) → range ≢ any → T (checked range)
not_any (from l to h) n = tt
not_any (signed_multiple_of_4 k) n = tt
not_any any n = n refl

-- A test whose failure is false passes.
passes : (b : Bool) → not b ≡ false → T b
passes true e = tt
passes false e = absurd (true≢false e)

-- A signed range holds numbers of that many bits.
pub signed_range : (m l h : ℕ) (z : ℤ) → suc l ≡ m → suc h ≡ m → lt_z (pos h) z ≡ false → lt_z z (negsuc l) ≡ false → mag z < m
signed_range m l h (pos a) e f up down = let g = ltb-false h a up in omega arith
signed_range m l h (negsuc a) e f up down = let g = ltb-false l a down in omega arith

-- A multiple of 4 has two zeros below.
two_zeros : (w : ℕ) (z : ℤ) → 2 ≤ w → nat_abs z % 4 ≡ 0 → bits_of w z % 2 ^ 2 ≡ 0
two_zeros w (pos a) two h = h
two_zeros w (negsuc a) two h =
    let four = pow-split w 2 two in
    omega arith

-- No zeros below are asked for where the field begins at bit 0.
no_zeros : (k x : ℕ) → k ≡ 0 → x % 2 ^ k ≡ 0
no_zeros k x e = rw e (mod-one x)

-- Where the range holds the value and the field has the value's bits, of which there are w, the field's value is the value.
pub range_back : (w : ℕ) (parts : List Part) (range : Accepted) (z : ℤ) (held : ℕ) → wide parts + lowest parts ≤ w → T (holds_range parts range) →
    range ≢ any → above range z ≡ false → below range z ≡ false → not_multiple range z ≡ false →
    bare parts held ≡ slice (lowest parts) (wide parts) (bits_of w z) → field_value parts range held ≡ z
unfolding holds_range
range_back w parts (from pos l to pos h) (pos a) held fits t n up down m e =
    let (t₂, low) = both (eqb l 0 && eqb (suc h) (2 ^ wide parts)) (eqb (lowest parts) 0) t in
    let last = eqb→eq (suc h) (2 ^ wide parts) (both (eqb l 0) (eqb (suc h) (2 ^ wide parts)) t₂).1 in
    let none = eqb→eq (lowest parts) 0 low in
    let most = ltb-false h a up in
    let all : wide parts ≡ wide parts + lowest parts = omega arith in
    let small : a < 2 ^ wide parts = omega arith in
    ap pos (ap (λ (y : ℕ). y * 2 ^ lowest parts) e
    ∙ unsigned_back (lowest parts) (wide parts) a (no_zeros (lowest parts) a none) (subst (λ (j : ℕ). a < 2 ^ j) all small))
range_back w parts (from pos l to pos h) (negsuc a) held fits t n up down m e = absurd (true≢false down)
range_back w parts (from negsuc l to pos h) z held fits t n up down m e =
    let half : ℕ = 2 ^ (wide parts - 1) in
    let (t₃, some) = both (eqb (suc l) half && eqb (suc h) half && eqb (lowest parts) 0) (leb 1 (wide parts)) t in
    let (t₂, low) = both (eqb (suc l) half && eqb (suc h) half) (eqb (lowest parts) 0) t₃ in
    let (least, most) = both (eqb (suc l) half) (eqb (suc h) half) t₂ in
    let none = eqb→eq (lowest parts) 0 low in
    let all : wide parts - 1 ≡ wide parts + lowest parts - 1 = omega arith in
    let small = signed_range half l h z (eqb→eq (suc l) half least) (eqb→eq (suc h) half most) up down in
    ap (λ (y : ℕ). signed (wide parts + lowest parts) (y * 2 ^ lowest parts)) e
    ∙ signed_back w (lowest parts) (wide parts) z (leb→le 1 (wide parts) some) fits
    (no_zeros (lowest parts) (bits_of w z) none) (subst (λ (j : ℕ). mag z < 2 ^ j) all small)
range_back w parts (from pos l to negsuc h) z held fits t n up down m e = absurd t
range_back w parts (from negsuc l to negsuc h) z held fits t n up down m e = absurd t
range_back w parts (signed_multiple_of_4 k) z held fits t n up down m e =
    let half : ℕ = 2 ^ (k - 1) in
    let (t₂, some) = both (eqb k (wide parts + lowest parts) && eqb (lowest parts) 2) (leb 1 (wide parts)) t in
    let (all, low) = both (eqb k (wide parts + lowest parts)) (eqb (lowest parts) 2) t₂ in
    let whole = eqb→eq k (wide parts + lowest parts) all in
    let two = eqb→eq (lowest parts) 2 low in
    let least = suc_ones (k - 1) in
    let small = signed_range half (half - 1) (half - 1) z least least up (subst (λ (y : ℕ). lt_z z (neg_ℤ (pos y)) ≡ false) (sym least) down) in
    let four = eqb→eq (nat_abs z % 4) 0 (passes (eqb (nat_abs z % 4) 0) m) in
    let zeros = two_zeros w z (omega arith) four in
    ap₂ (λ (j y : ℕ). signed j (y * 2 ^ lowest parts)) whole e
    ∙ signed_back w (lowest parts) (wide parts) z (leb→le 1 (wide parts) some) fits
    (subst (λ (j : ℕ). bits_of w z % 2 ^ j ≡ 0) (sym two) zeros)
    (subst (λ (j : ℕ). mag z < 2 ^ (j - 1)) whole small)
range_back w parts any z held fits t n up down m e = absurd (n refl)
