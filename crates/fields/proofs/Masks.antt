-- Shifts and masks against slices and splices, in a word of m bits: one law over all places and widths. Assumes nothing.
use mathlib.Core.Path.{◌≡◌, sym, ap, ap₂, ◌∙◌, subst}
use Prim.Native.Nat.{ℕ, ◌+◌, ◌-◌, ◌*◌, ◌/◌, ◌%◌, ◌^◌, ◌≤◌, ◌<◌}
use native.Mathlib.Nat.{add_assoc, lt_of_lt_of_le, mod-lt, zero-add, zero-mul}
use native.Mathlib.Omega.{arith}
use lib.Bits.{bit_and, bit_or, and_block, and_mask, or_block, or_shifted_r, or_zero_r}
use lib.Pow.{pow_pos, pow_mono, shl_lt, shl_exact, split, shr_mod, mod-mod-pow, ones_lt, ones_split}
use Rattle.meaning.specs.Field.{splice}

-- j is how many bits of the word lie above the part
module _ (j n k : ℕ) where
  -- a mask of all bits but the part's
  others : 2 ^ (j + (n + k)) - 1 - (2 ^ n - 1) * 2 ^ k ≡ (2 ^ j - 1) * 2 ^ (n + k) + (2 ^ k - 1)
  others =
      let above : 2 ^ (j + (n + k)) - 1 ≡ (2 ^ j - 1) * 2 ^ (n + k) + (2 ^ (n + k) - 1) = ones_split j (n + k) in
      let below : 2 ^ (n + k) - 1 ≡ (2 ^ n - 1) * 2 ^ k + (2 ^ k - 1) = ones_split n k in
      omega arith

  module _ (w : ℕ) (h : w < 2 ^ (j + (n + k))) where
    kept : bit_and w (2 ^ (j + (n + k)) - 1 - (2 ^ n - 1) * 2 ^ k) ≡ w / 2 ^ (n + k) * 2 ^ (n + k) + w % 2 ^ k
    kept =
        ap₂ bit_and (sym (split w (n + k))) others
        ∙ and_block (n + k) (w / 2 ^ (n + k)) (2 ^ j - 1) (w % 2 ^ (n + k)) (2 ^ k - 1) (mod-lt w (pow_pos (n + k))) (lt_of_lt_of_le (ones_lt k) (pow_mono (omega arith)))
        ∙ ap₂ (λ (a b : ℕ). a * 2 ^ (n + k) + b)
        (and_mask (w / 2 ^ (n + k)) j ∙ shr_mod j (n + k) h)
        (and_mask (w % 2 ^ (n + k)) k ∙ mod-mod-pow w n k)

-- the part put beside what was kept, from bits a above it and b below it
joined : (n k a b x : ℕ) → x < 2 ^ n → b < 2 ^ k → bit_or (a * 2 ^ (n + k) + b) (x * 2 ^ k) ≡ a * 2 ^ (n + k) + x * 2 ^ k + b
joined n k a b x hx hb =
    let z : x * 2 ^ k ≡ 0 * 2 ^ (n + k) + x * 2 ^ k = sym (ap (λ (y : ℕ). y + x * 2 ^ k) (zero-mul (2 ^ (n + k))) ∙ zero-add (x * 2 ^ k)) in
    ap (bit_or (a * 2 ^ (n + k) + b)) z
    ∙ or_block (n + k) a 0 b (x * 2 ^ k) (lt_of_lt_of_le hb (pow_mono (omega arith))) (shl_lt n k hx)
    ∙ ap₂ (λ (y z : ℕ). y * 2 ^ (n + k) + z) (or_zero_r a) (or_shifted_r x k b hb)
    ∙ sym (add_assoc (a * 2 ^ (n + k)) (x * 2 ^ k) b)

-- o is the mask of the part's bits at the word's foot
pub inserted : (m k n x w : ℕ) {o : ℕ} → n + k ≤ m → x < 2 ^ n → w < 2 ^ m → o ≡ 2 ^ n - 1
    → bit_or (bit_and w (2 ^ m - 1 - o * 2 ^ k % 2 ^ m)) (x * 2 ^ k % 2 ^ m) ≡ splice k n x w
inserted m k n x w l hx hw e =
    let q : m - (n + k) + (n + k) ≡ m = omega arith in
    ap₂ (λ (y z : ℕ). bit_or (bit_and w (2 ^ m - 1 - y)) z)
    (ap (λ (o : ℕ). o * 2 ^ k % 2 ^ m) e ∙ shl_exact n k m (ones_lt n) l)
    (shl_exact n k m hx l)
    ∙ ap (λ (y : ℕ). bit_or y (x * 2 ^ k))
    (subst (λ (i : ℕ). bit_and w (2 ^ i - 1 - (2 ^ n - 1) * 2 ^ k) ≡ w / 2 ^ (n + k) * 2 ^ (n + k) + w % 2 ^ k) q
    (kept (m - (n + k)) n k w (subst (λ (i : ℕ). w < 2 ^ i) (sym q) hw)))
    ∙ joined n k (w / 2 ^ (n + k)) (w % 2 ^ k) x hx (mod-lt w (pow_pos k))
