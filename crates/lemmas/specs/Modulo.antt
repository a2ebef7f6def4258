-- A sum or a difference modulo 2 ^ 64 has the low n bytes of the one modulo their width; w bits read as signed have the same bits.
use Rattle.std.specs.Prelude.{ℕ, suc, ◌+◌, ◌-◌, ◌*◌, ◌/◌, ◌%◌, ◌^◌, ◌≤◌, ◌<◌, Bool, true, false, cond, ◌≡◌, refl, ltb, pos, negsuc}
use Rattle.std.proofs.Math.Nat.{add-mul-mod_self_right}
use Rattle.std.proofs.Common.{div-lt_iff_lt-mul, sub-add_cancel, add-mul, suc-mul, mod-lt, div-add-mod', arith, sym, ap, ◌∙◌, subst, pow_pos, pow-add}
use Rattle.std.proofs.Math.Pow.{mod-mod-pow}
use Rattle.meaning.specs.Numbers.{bytes_of, plus, minus, signed, bits_of}
use Rattle.lemmas.specs.Bytes.{bytes_of_mod, bytes_of-mod-more}

pub bytes_plus : (n a b : ℕ) → n ≤ 8 → bytes_of n (plus 64 a b) ≡ bytes_of n (plus (8 * n) a b)
bytes_plus n a b h =
    let e : 8 * n + (64 - 8 * n) ≡ 64 = omega arith in
    subst (λ (w : ℕ). bytes_of n (plus w a b) ≡ bytes_of n (plus (8 * n) a b)) e
    (bytes_of-mod-more n (64 - 8 * n) (a + b) ∙ sym (bytes_of_mod n (a + b)))

-- m times as many less b, modulo m, is m less b's remainder
wrapped : (m many a b : ℕ) → 0 < m → b < many * m → (a + (many * m - b)) % m ≡ (a + (m - b % m)) % m
wrapped m many a b some h =
    let q : b / m < many = (div-lt_iff_lt-mul some).1 h in
    let rest : ℕ = (many - suc (b / m)) * m in
    let all : many * m ≡ rest + suc (b / m) * m =
    ap (λ (x : ℕ). x * m) (sym (sub-add_cancel q)) ∙ add-mul (many - suc (b / m)) (suc (b / m)) m in
    let one : suc (b / m) * m ≡ b / m * m + m = suc-mul (b / m) m in
    let parts : b / m * m + b % m ≡ b = div-add-mod' b m in
    let low : b % m < m = mod-lt b some in
    let e : a + (many * m - b) ≡ a + (m - b % m) + rest = omega arith in
    ap (λ (x : ℕ). x % m) e ∙ add-mul-mod_self_right (a + (m - b % m)) (many - suc (b / m)) m

minus-low : (j k a b : ℕ) → (a + (2 ^ (k + j) - b % 2 ^ (k + j))) % 2 ^ j ≡ minus j a b
minus-low j k a b =
    let p : 2 ^ (k + j) ≡ 2 ^ k * 2 ^ j = pow-add 2 k j in
    let low : b % 2 ^ (k + j) < 2 ^ k * 2 ^ j = subst (λ (x : ℕ). b % 2 ^ (k + j) < x) p (mod-lt b (pow_pos (k + j))) in
    ap (λ (x : ℕ). (a + (x - b % 2 ^ (k + j))) % 2 ^ j) p
    ∙ wrapped (2 ^ j) (2 ^ k) a (b % 2 ^ (k + j)) (pow_pos j) low
    ∙ ap (λ (x : ℕ). (a + (2 ^ j - x)) % 2 ^ j) (mod-mod-pow b k j)

pub bytes_minus : (n a b : ℕ) → n ≤ 8 → bytes_of n (minus 64 a b) ≡ bytes_of n (minus (8 * n) a b)
bytes_minus n a b h =
    let e : 8 * n + (64 - 8 * n) ≡ 64 = omega arith in
    let f : 64 - 8 * n + 8 * n ≡ 64 = omega arith in
    let low : (a + (2 ^ 64 - b % 2 ^ 64)) % 2 ^ (8 * n) ≡ minus (8 * n) a b =
    subst (λ (w : ℕ). (a + (2 ^ w - b % 2 ^ w)) % 2 ^ (8 * n) ≡ minus (8 * n) a b) f (minus-low (8 * n) (64 - 8 * n) a b) in
    subst (λ (w : ℕ). bytes_of n ((a + (2 ^ 64 - b % 2 ^ 64)) % 2 ^ w) ≡ bytes_of n (a + (2 ^ 64 - b % 2 ^ 64))) e
    (bytes_of-mod-more n (64 - 8 * n) (a + (2 ^ 64 - b % 2 ^ 64)))
    ∙ sym (bytes_of_mod n (a + (2 ^ 64 - b % 2 ^ 64)))
    ∙ ap (bytes_of n) low

pub bits_signed : (w x : ℕ) → x < 2 ^ w → bits_of w (signed w x) ≡ x
bits_signed w x h = go (ltb x (2 ^ (w - 1)))
  where
    go : (b : Bool) → bits_of w (cond b (pos x) (negsuc (2 ^ w - suc x))) ≡ x
    go true = refl
    go false = omega arith
