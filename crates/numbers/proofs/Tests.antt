-- What the functions' tests by a shift say of the numbers, by the numbers' signs. Assumes nothing.
use Rattle.std.proofs.Common.{◌≡◌, ℕ, zero, suc, ◌+◌, ◌-◌, ◌*◌, ◌/◌, ◌^◌, ◌<◌, ◌≤◌, Bool, true, false, ◌&&◌, eqb, leb, ℤ, pos, negsuc, neg_ℤ, ap, ◌∙◌, pow_pos, zero-mul, div-le_self, arith, w64, SFits, of_z}
use Rattle.std.proofs.lemmas.Bool.Decides.{nat_tests}
use native.Mathlib.Nat.{div-eq_of_lt, lt-div-mul-add}
use lib.Signed.{shr_z}
use mir.ValLaws.{to_z-of_z}
use Rattle.numbers.specs.Ranges.{between}

-- a quotient is 0 below the divisor
none_left : (m x : ℕ) → 0 < x → eqb (m / x) 0 ≡ leb m (x - 1)
none_left m x p =
    let h : m < m / x * x + x = lt-div-mul-add p in
    let none : m / x ≡ 0 → m / x * x ≡ 0 = λ e. ap (λ (q : ℕ). q * x) e ∙ zero-mul x in
    let low : m < x → m / x ≡ 0 = div-eq_of_lt in
    grind (arith, nat_tests)

least : (x : ℕ) → 0 < x → neg_ℤ (pos x) ≡ negsuc (x - 1)
least zero p = absurd (omega arith)
least (suc x) p = ap negsuc (omega arith)

pub signed_range : (x : ℕ) → 0 < x → (z : ℤ) → SFits w64 z
    → eqb (of_z w64 (shr_z z x)) (of_z w64 (shr_z z (2 ^ 63))) ≡ between (neg_ℤ (pos x)) (pos (x - 1)) z
signed_range x p (pos m) f =
    let b : m / 2 ^ 63 ≡ 0 = omega (arith, f.sfits) in
    rw (least x p, b) (none_left m x p)
signed_range x p (negsuc m) f =
    let b : m / 2 ^ 63 ≡ 0 = omega (arith, f.sfits) in
    let h : m / x ≤ m = div-le_self m x in
    let t = none_left m x p in
    rw (least x p, b) (grind (arith, nat_tests))

pub unsigned_range : (x : ℕ) → 0 < x → (z : ℤ) → SFits w64 z → eqb (of_z w64 (shr_z z x)) 0 ≡ between (pos 0) (pos (x - 1)) z
unsigned_range x p (pos m) f =
    let t = none_left m x p in
    grind (arith, nat_tests)
unsigned_range x p (negsuc m) f =
    let h : m / x ≤ m = div-le_self m x in
    grind (arith, nat_tests, f.sfits)

-- both, of a number that the code has as its bits
pub ruleset ranges = (signed_range, unsigned_range, pow_pos, to_z-of_z)
