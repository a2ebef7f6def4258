-- The signed reading at 64 bits: it is the machine's, a number's bits read back are the number, and a shift to the right fits.
-- Assumes nothing.
use Rattle.std.specs.Prelude.{◌≡◌, ℕ, suc, ◌-◌, ◌^◌, Bool, true, false, cond, ℤ, pos, negsuc, FitsSigned, nat_lt, refl}
use Rattle.std.proofs.Common.{sym, ap, ◌∙◌}
use Rattle.std.specs.Int.Signed.{shr_z, mag_shr}
use Rattle.std.specs.Int.{w64}
use mir.Val.{of_z, to_z, sel}
use mir.ValLaws.{to_z-of_z, sfits_le}
use Rattle.meaning.specs.Numbers.{signed, bits_of}

-- ---- the meaning's reading is the machine's

sel_cond : (b : Bool) (y z : ℤ) → sel b y z ≡ cond b y z
sel_cond true y z = refl
sel_cond false y z = refl

pub to_z-signed : (x : ℕ) → to_z w64 x ≡ signed 64 x
to_z-signed x = sel_cond (nat_lt x (2 ^ 63)) (pos x) (negsuc (2 ^ 64 - suc x))

pub of_z_bits : (z : ℤ) → of_z w64 z ≡ bits_of 64 z
of_z_bits (pos n) = refl
of_z_bits (negsuc n) = refl

-- ---- a number's bits read back

pub signed_bits : (z : ℤ) → FitsSigned w64 z → signed 64 (bits_of 64 z) ≡ z
signed_bits z f = sym (to_z-signed (bits_of 64 z)) ∙ ap (to_z w64) (sym (of_z_bits z)) ∙ to_z-of_z w64 z f

-- ---- a shift to the right fits

pub shift_fits : {z : ℤ} (m : ℕ) → FitsSigned w64 z → FitsSigned w64 (shr_z z m)
shift_fits {z} m f = sfits_le (mag_shr z m) f
