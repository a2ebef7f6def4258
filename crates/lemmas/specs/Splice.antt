-- What a splice changes and what it leaves, over all places and widths. Assumes nothing.
use Rattle.std.specs.Prelude.{◌≡◌, ◌⊎◌, ℕ, ◌+◌, ◌-◌, ◌*◌, ◌/◌, ◌%◌, ◌^◌, ◌≤◌, ◌<◌}
use Rattle.std.proofs.Common.{sym, ap, ◌∙◌, subst, inl, inr, add_assoc, add-mul, mul_assoc, mod-lt, arith, pow_pos, pow-add, shr_lt, shr-shr}
use Rattle.std.proofs.Math.Arith.{digits_lt}
use Rattle.std.proofs.Math.Pow.{high, low, mod-mod-pow, field}
use Rattle.meaning.specs.Field.{slice, splice}

-- ---- a slice of the bits below k, and of the bits from k up

slice-below : (k k' n' v w : ℕ) → k' + n' ≤ k → v % 2 ^ k ≡ w % 2 ^ k → slice k' n' v ≡ slice k' n' w
slice-below k k' n' v w h e = sym (field v n' k') ∙ ap (λ (y : ℕ). y / 2 ^ k') (sym (lower v) ∙ ap (λ (y : ℕ). y % 2 ^ (n' + k')) e ∙ lower w) ∙ field w n' k'
  where
    lower : (y : ℕ) → y % 2 ^ k % 2 ^ (n' + k') ≡ y % 2 ^ (n' + k')
    lower y =
        let q : k - (n' + k') + (n' + k') ≡ k = omega arith in
        subst (λ (m : ℕ). y % 2 ^ m % 2 ^ (n' + k') ≡ y % 2 ^ (n' + k')) q (mod-mod-pow y (k - (n' + k')) (n' + k'))

slice-above : (k k' n' v w : ℕ) → k ≤ k' → v / 2 ^ k ≡ w / 2 ^ k → slice k' n' v ≡ slice k' n' w
slice-above k k' n' v w h e = ap (λ (y : ℕ). y % 2 ^ n') (sym (upper v) ∙ ap (λ (y : ℕ). y / 2 ^ (k' - k)) e ∙ upper w)
  where
    upper : (y : ℕ) → y / 2 ^ k / 2 ^ (k' - k) ≡ y / 2 ^ k'
    upper y =
        let q : k + (k' - k) ≡ k' = omega arith in
        shr-shr y k (k' - k) ∙ ap (λ (m : ℕ). y / 2 ^ m) q

-- ---- a splice, as bits above, the part, and bits below

module _ (k n x w : ℕ) (h : x < 2 ^ n) where
  below : w % 2 ^ k < 2 ^ k
  below = mod-lt w (pow_pos k)

  -- the part with what is below it
  part_lt : x * 2 ^ k + w % 2 ^ k < 2 ^ (n + k)
  part_lt = subst (λ (m : ℕ). x * 2 ^ k + w % 2 ^ k < m) (sym (pow-add 2 n k)) (digits_lt h below)

  from_above : splice k n x w ≡ w / 2 ^ (n + k) * 2 ^ (n + k) + (x * 2 ^ k + w % 2 ^ k)
  from_above = add_assoc (w / 2 ^ (n + k) * 2 ^ (n + k)) (x * 2 ^ k) (w % 2 ^ k)

  from_below : splice k n x w ≡ (w / 2 ^ (n + k) * 2 ^ n + x) * 2 ^ k + w % 2 ^ k
  from_below =
      ap (λ (y : ℕ). y + x * 2 ^ k + w % 2 ^ k)
      (ap (λ (y : ℕ). w / 2 ^ (n + k) * y) (pow-add 2 n k) ∙ sym (mul_assoc (w / 2 ^ (n + k)) (2 ^ n) (2 ^ k)))
      ∙ ap (λ (y : ℕ). y + w % 2 ^ k) (sym (add-mul (w / 2 ^ (n + k) * 2 ^ n) x (2 ^ k)))

  splice-low : splice k n x w % 2 ^ k ≡ w % 2 ^ k
  splice-low = ap (λ (y : ℕ). y % 2 ^ k) from_below ∙ low (w / 2 ^ (n + k) * 2 ^ n + x) k below

  splice_high : splice k n x w / 2 ^ (n + k) ≡ w / 2 ^ (n + k)
  splice_high = ap (λ (y : ℕ). y / 2 ^ (n + k)) from_above ∙ high (w / 2 ^ (n + k)) (n + k) part_lt

-- ---- the laws

-- the part reads back
pub splice-inside : (k n x w : ℕ) → x < 2 ^ n → slice k n (splice k n x w) ≡ x
splice-inside k n x w h =
    ap (λ (y : ℕ). y / 2 ^ k % 2 ^ n) (from_below k n x w h)
    ∙ ap (λ (y : ℕ). y % 2 ^ n) (high (w / 2 ^ (n + k) * 2 ^ n + x) k (below k n x w h))
    ∙ low (w / 2 ^ (n + k)) n h

-- a part that lies apart from it stays
pub splice-apart : (k n x w k' n' : ℕ) → x < 2 ^ n → (k' + n' ≤ k) ⊎ (n + k ≤ k') → slice k' n' (splice k n x w) ≡ slice k' n' w
splice-apart k n x w k' n' h (inl p) = slice-below k k' n' (splice k n x w) w p (splice-low k n x w h)
splice-apart k n x w k' n' h (inr p) = slice-above (n + k) k' n' (splice k n x w) w p (splice_high k n x w h)

-- so does a bit
pub splice-outside : (k n x w b : ℕ) → x < 2 ^ n → (b < k) ⊎ (n + k ≤ b) → splice k n x w / 2 ^ b % 2 ≡ w / 2 ^ b % 2
splice-outside k n x w b h (inl p) = splice-apart k n x w b 1 h (inl (omega arith))
splice-outside k n x w b h (inr p) = splice-apart k n x w b 1 h (inr p)

-- a word stays as wide as it is
pub splice_lt : (k n x w m : ℕ) → x < 2 ^ n → n + k ≤ m → w < 2 ^ m → splice k n x w < 2 ^ m
splice_lt k n x w m h p b =
    let q : m - (n + k) + (n + k) ≡ m = omega arith in
    subst (λ (l : ℕ). splice k n x w < 2 ^ l) q
    (subst (λ (y : ℕ). splice k n x w < y) (sym (pow-add 2 (m - (n + k)) (n + k)))
    (subst (λ (y : ℕ). y < 2 ^ (m - (n + k)) * 2 ^ (n + k)) (sym (from_above k n x w h))
    (digits_lt (shr_lt (m - (n + k)) (n + k) (subst (λ (l : ℕ). w < 2 ^ l) (sym q) b)) (part_lt k n x w h))))
