-- Laws of `number` and `bytes_of`, each for every count of bytes.
use Rattle.std.specs.Prelude.{◌≡◌, refl, List, [], ◌∷◌, ◌++◌, ℕ, zero, suc, ◌+◌, ◌*◌, ◌/◌, ◌%◌, ◌^◌, ◌<◌, length, take, drop, get_or, set}
use Rattle.std.proofs.Common.{◌∙◌, ap, add-zero, div-one, le_of_suc-le-suc, not-suc-le-zero, arith, get_or-drop, pow_pos, pow-add, shr-shr}
use Rattle.std.proofs.Math.Seq.{take-nil}
use Rattle.std.proofs.lemmas.Nat.{mod-pow-add}
use Rattle.std.proofs.Math.Pow.{mod-mod-pow, field}
use Rattle.meaning.specs.Numbers.{number, bytes_of}

-- a byte more is eight bits more
pub pow_byte : (n : ℕ) → 2 ^ (8 * suc n) ≡ 2 ^ (8 * n) * 256
pow_byte n =
    let e : 8 * suc n ≡ 8 * n + 8 = omega arith in
    ap (λ (k : ℕ). 2 ^ k) e ∙ pow-add 2 (8 * n) 8

-- the first of suc n bytes, and the rest
pub number_more : (n at : ℕ) (s : List ℕ) → number (take (suc n) (drop at s)) ≡ get_or s at 0 + 256 * number (take n (drop (suc at) s))
unfolding number
number_more n zero [] = rw (take-nil {A = ℕ} n)
number_more n (suc at) [] = rw (take-nil {A = ℕ} n)
number_more n zero (b ∷ s) = refl
number_more n (suc at) (b ∷ s) = number_more n at s

-- n bytes from `at` added up one by one, as code that reads them does
abbrev pub summed : ℕ → ℕ → List ℕ → ℕ
summed zero at s = 0
summed (suc n) at s = get_or s at 0 + 256 * summed n (suc at) s

pub number-summed : (n at : ℕ) (s : List ℕ) → number (take n (drop at s)) ≡ summed n at s
unfolding number
number-summed zero at s = refl
number-summed (suc n) at s = number_more n at s ∙ ap (λ (z : ℕ). get_or s at 0 + 256 * z) (number-summed n (suc at) s)

pub number-take_lt : (n : ℕ) (s : List ℕ) → ((i : ℕ) → get_or s i 0 < 256) → number (take n s) < 2 ^ (8 * n)
unfolding number
number-take_lt zero s h = omega arith
number-take_lt (suc n) [] h = pow_pos (8 * suc n)
number-take_lt (suc n) (b ∷ s) h =
    let byte : b < 256 = h 0 in
    let rest : number (take n s) < 2 ^ (8 * n) = number-take_lt n s (λ i. h (suc i)) in
    rw (pow_byte n) (omega arith)

pub number_part_lt : (n at : ℕ) (s : List ℕ) → ((i : ℕ) → get_or s i 0 < 256) → number (take n (drop at s)) < 2 ^ (8 * n)
number_part_lt n at s h = number-take_lt n (drop at s) (λ i. rw get_or-drop (h (at + i)))

pub length-bytes_of : (n x : ℕ) → length (bytes_of n x) ≡ n
unfolding bytes_of
length-bytes_of zero x = refl
length-bytes_of (suc n) x = ap suc (length-bytes_of n (x / 256))

pub bytes_of_bytes : (n x i : ℕ) → get_or (bytes_of n x) i 0 < 256
unfolding bytes_of
bytes_of_bytes zero x i = omega arith
bytes_of_bytes (suc n) x zero = omega arith
bytes_of_bytes (suc n) x (suc i) = bytes_of_bytes n (x / 256) i

pub number-bytes_of : (n x : ℕ) → number (bytes_of n x) ≡ x % 2 ^ (8 * n)
unfolding number bytes_of
number-bytes_of zero x = omega arith
number-bytes_of (suc n) x =
    let e : 8 * suc n ≡ 8 * n + 8 = omega arith in
    let rest : number (bytes_of n (x / 256)) ≡ x / 256 % 2 ^ (8 * n) = number-bytes_of n (x / 256) in
    rw e (omega (arith, mod-pow-add x (8 * n) 8))

-- bits above those n bytes do not matter
pub bytes_of-mod-more : (n k x : ℕ) → bytes_of n (x % 2 ^ (8 * n + k)) ≡ bytes_of n x
unfolding bytes_of
bytes_of-mod-more zero k x = refl
bytes_of-mod-more (suc n) k x =
    let e : 8 * suc n + k ≡ (8 * n + k) + 8 = omega arith in
    rw (e, mod-mod-pow x (8 * n + k) 8, field x (8 * n + k) 8, bytes_of-mod-more n k (x / 256))

pub bytes_of_mod : (n x : ℕ) → bytes_of n (x % 2 ^ (8 * n)) ≡ bytes_of n x
bytes_of_mod n x = rw add-zero at (bytes_of-mod-more n 0 x)

-- the byte i of x, stored after those below it
pub bytes_of_store : (i x : ℕ) (s : List ℕ) → i < length s
    → set (bytes_of i x ++ drop i s) i (x / 2 ^ (8 * i) % 256) ≡ bytes_of (suc i) x ++ drop (suc i) s
unfolding bytes_of
bytes_of_store i x [] h = absurd (not-suc-le-zero h)
bytes_of_store zero x (b ∷ s) h = ap (λ (z : ℕ). z % 256 ∷ s) (div-one x)
bytes_of_store (suc i) x (b ∷ s) h =
    let e : 8 * suc i ≡ 8 + 8 * i = omega arith in
    rw (e, ← shr-shr x 8 (8 * i), bytes_of_store i (x / 256) s (le_of_suc-le-suc h))
