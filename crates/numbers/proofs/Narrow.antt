-- n bits read as signed, by way of the top of 64 bits. Assumes nothing.
use Rattle.std.proofs.Common.{◌≡◌, ℕ, suc, ◌+◌, ◌-◌, ◌*◌, ◌/◌, ◌%◌, ◌^◌, ◌<◌, ◌≤◌, Bool, true, false, ltb, pos, negsuc, sym, refl, ap, ◌∙◌, mul-le-mul_right, add-mul, mul-lt-mul_of_pos_right, arith, pow_pos, pow-add, shl_exact, ltb-false, ltb-true, le-ltb, lt-ltb}
use lib.Pow.{ones_lt, shl-shr, high}
use lib.Signed.{shr_z}
use mir.ValLaws.{to_z-of_z}
use Rattle.meaning.specs.Numbers.{signed}

-- With k bits below them they are 64; then the sign is the top bit, and what is shifted in below goes out again.
module _ (k n x : ℕ) (all : n + k ≡ 64) (some : 1 ≤ n) (small : x < 2 ^ n) where
  whole : 2 ^ 64 ≡ 2 ^ n * 2 ^ k
  whole = ap (λ (m : ℕ). 2 ^ m) (sym all) ∙ pow-add 2 n k

  half : 2 ^ 63 ≡ 2 ^ (n - 1) * 2 ^ k
  half = let e : 63 ≡ n - 1 + k = omega arith in ap (λ (m : ℕ). 2 ^ m) e ∙ pow-add 2 (n - 1) k

  -- what is left above x, with its low bits set
  left : 2 ^ 64 - suc (x * 2 ^ k) ≡ (2 ^ n - suc x) * 2 ^ k + (2 ^ k - 1)
  left =
      let y : ℕ = 2 ^ n - suc x in
      let e : 2 ^ n ≡ x + 1 + y = omega arith in
      let d : 2 ^ n * 2 ^ k ≡ x * 2 ^ k + 1 * 2 ^ k + y * 2 ^ k = ap (λ (m : ℕ). m * 2 ^ k) e ∙ add-mul (x + 1) y (2 ^ k) ∙ ap (λ (m : ℕ). m + y * 2 ^ k) (add-mul x 1 (2 ^ k)) in
      let p = pow_pos k in
      let w = whole in
      omega arith

  pub up_and_down : shr_z (signed 64 (x * 2 ^ k % 2 ^ 64)) (2 ^ k) ≡ signed n x
  up_and_down = ap (λ (y : ℕ). shr_z (signed 64 y) (2 ^ k)) (shl_exact n k 64 small (omega arith)) ∙ go (ltb x (2 ^ (n - 1))) refl
    where
      go : (b : Bool) → ltb x (2 ^ (n - 1)) ≡ b → shr_z (signed 64 (x * 2 ^ k)) (2 ^ k) ≡ signed n x
      go true e =
          let low : x * 2 ^ k < 2 ^ 63 = rw half (mul-lt-mul_of_pos_right (ltb-true x (2 ^ (n - 1)) e) (pow_pos k)) in
          rw (lt-ltb (x * 2 ^ k) (2 ^ 63) low, e) (ap pos (shl-shr x k))
      go false e =
          let high_up : 2 ^ 63 ≤ x * 2 ^ k = rw half (mul-le-mul_right (2 ^ k) (ltb-false x (2 ^ (n - 1)) e)) in
          rw (le-ltb (x * 2 ^ k) (2 ^ 63) high_up, e)
          (ap negsuc (ap (λ (y : ℕ). y / 2 ^ k) left ∙ high (2 ^ n - suc x) k (ones_lt k)))

-- of a number that the code has as its bits
pub ruleset narrow = (up_and_down, to_z-of_z)
