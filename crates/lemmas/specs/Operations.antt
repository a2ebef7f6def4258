-- An operation refuses with 12, with 13 or not at all.
use Rattle.std.specs.Prelude.{ℕ, Bool, true, false, cond, ◌≡◌, refl, eqb, ℤ}
use Rattle.std.proofs.Common.{sym, ◌∙◌}
use Rattle.meaning.specs.Table.{Operation, dup, assert, not, sub, sl, sr, add, and, if_else}
use Rattle.meaning.specs.Stack.{is_zero}
use Rattle.meaning.specs.Checks.{not_count, refuses}

own : ℕ → ℕ
own n = cond (eqb n 12) 12 (cond (eqb n 13) 13 0)

own_cond : (b : Bool) (n : ℕ) → own n ≡ n → own (cond b n 0) ≡ cond b n 0
unfolding own
own_cond true n e = e
own_cond false n e = refl

pub own-number : (w : ℕ) (o : Operation) (z : ℤ) → cond (eqb (refuses w o z) 12) 12 (cond (eqb (refuses w o z) 13) 13 0) ≡ refuses w o z
unfolding own
own-number w dup z = refl
own-number w assert z = own_cond (is_zero z) 13 refl
own-number w not z = refl
own-number w sub z = refl
own-number w sl z = own_cond (not_count w z) 12 refl
own-number w sr z = own_cond (not_count w z) 12 refl
own-number w add z = refl
own-number w and z = refl
own-number w if_else z = refl

-- So one that passes both checks refuses nothing.
pub refuses-nothing : (w : ℕ) (o : Operation) (z : ℤ) → eqb (refuses w o z) 12 ≡ false → eqb (refuses w o z) 13 ≡ false → refuses w o z ≡ 0
refuses-nothing w o z a b = sym (own-number w o z) ∙ simp (a, b)
