-- Bytes and numbers as the library reads and writes them, and as the meaning does. Assumes nothing.
use Rattle.std.proofs.Common.{◌≡◌, ◌∙◌, ap, ap₂, List, [], ◌∷◌, ◌++◌, ℕ, zero, suc, ◌+◌, ◌-◌, ◌*◌, ◌/◌, ◌%◌, ◌^◌, ◌≤◌, ◌<◌, arith, length, take, drop, get_or, reverse, fold, lt_of_lt_of_le, pow_mono, bit_or, replicate, length-append, length-take-le, div-one, w64, refl, le_of_suc-le-suc}
use Rattle.std.proofs.lemmas.List.{drop-replicate, length-replicate, reverse-append}
use Rattle.std.proofs.lemmas.List.Sums.{fold-append}
use Rattle.std.proofs.lemmas.Grind.{or_after_shift}
use Rattle.std.proofs.Math.Nat.{pow-suc, div-div-eq-div-mul}
use Rattle.std.specs.Int.{to_le_bytes, from_le_bytes, bytes_low_first, byte_at}
use Rattle.meaning.specs.Numbers.{number, bytes_of}
use Rattle.lemmas.specs.Bytes.{number-take_lt}
use Rattle.bytes_le.specs.Library.{read_8}
use Rattle.bytes_le.specs.Little.{Little}

-- ---- reading

-- Zeros above a number's bytes leave the number as it is.
number_zeros : (k : ℕ) → number (replicate k 0) ≡ 0
unfolding number
number_zeros zero = refl
number_zeros (suc k) = rw (number_zeros k)

number-append_zeros : (p : List ℕ) (k : ℕ) → number (p ++ replicate k 0) ≡ number p
unfolding number
number-append_zeros [] k = number_zeros k
number-append_zeros (b ∷ p) k = rw (number-append_zeros p k)

-- n bytes and zeros above them, read as eight.
pub read : (n r : ℕ) (s part : List ℕ) → n ≤ 8 → n ≤ length s → ((k : ℕ) → get_or s k 0 < 256)
    → part ≡ take n s → r ≡ from_le_bytes w64 (part ++ drop n (replicate 8 0)) → Little n s r
read n r s part h l bytes front e =
    let p : List ℕ = take n s ++ replicate (8 - n) 0 in
    let long : length p ≤ 8 = simp (length-append, length-take-le n s l, length-replicate) (omega arith) in
    let is : r ≡ number (take n s) = rw (front, drop-replicate {X = ℕ} n 8 0) at e ∙ read_8 p long ∙ number-append_zeros (take n s) (8 - n) in
    record { is = is; small = rw is (number-take_lt n s bytes) }

-- Bytes taken one by one: a byte, and above it what was read of those that follow.
abbrev above : ℕ → ℕ → ℕ
above r b = bit_or (r * 256 % 18446744073709551616) b

-- Seven bytes or fewer leave room for one more.
more : (k r b : ℕ) → k < 8 → b < 256 → r < 2 ^ (8 * k) → above r b ≡ b + 256 * r
more k r b h byte small =
    let r_fits : r < 2 ^ 56 = lt_of_lt_of_le small (pow_mono {i = 8 * k} {j = 56} (omega arith)) in
    or_after_shift r 256 18446744073709551616 b refl byte (omega arith) ∙ omega arith

-- n bytes, read from the last one down.
folded : (n : ℕ) (s : List ℕ) → n ≤ 8 → ((k : ℕ) → get_or s k 0 < 256) → fold above 0 (reverse (take n s)) ≡ number (take n s)
unfolding number
folded zero s h bytes = refl
folded (suc n) [] h bytes = refl
folded (suc n) (b ∷ s) h bytes =
    let after : (k : ℕ) → get_or s k 0 < 256 = λ k. bytes (suc k) in
    rw (reverse-append (b ∷ []) (take n s), fold-append above 0 (reverse (take n s)) (b ∷ []), folded n s (omega arith) after)
    (more n (number (take n s)) b h (bytes 0) (number-take_lt n s after))

pub read_each : (n r : ℕ) (s : List ℕ) → n ≤ 8 → ((k : ℕ) → get_or s k 0 < 256) → r ≡ fold above 0 (reverse (take n s)) → Little n s r
read_each n r s h bytes e =
    let is : r ≡ number (take n s) = e ∙ folded n s h bytes in
    record { is = is; small = rw is (number-take_lt n s bytes) }

-- ---- storing

-- The first n bytes from byte i of x up, as the library writes them.
first : (n i k x : ℕ) → n ≤ k → take n (bytes_low_first i k x) ≡ bytes_of n (x / 256 ^ i)
unfolding bytes_of
first zero i k x h = refl
first (suc n) i zero x h = absurd (omega arith)
first (suc n) i (suc k) x h =
    ap₂ (λ (b : ℕ) (bs : List ℕ). b ∷ bs) (byte i)
    (first n (suc i) k x (le_of_suc-le-suc h) ∙ rw (pow-suc 256 i, ← div-div-eq-div-mul x (256 ^ i) 256))
  where
    byte : (i : ℕ) → byte_at i x ≡ x / 256 ^ i % 256
    byte zero = rw (div-one x)
    byte (suc i) = refl

pub stored : (n x : ℕ) → n ≤ 8 → take n (to_le_bytes w64 x) ≡ bytes_of n x
stored n x h = first n 0 8 x h ∙ ap (bytes_of n) (div-one x)
