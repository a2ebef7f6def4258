-- Read back over plain numbers. Assumes nothing.
use Rattle.std.proofs.Common.{◌≡◌, ℕ, ◌+◌, ◌*◌, ◌/◌, ◌%◌, ◌^◌, ◌≤◌, ◌<◌, Bool, true, false, not, ◌||◌, List, [], ◌∷◌, ◌++◌, map, refl, sym, ap, ◌∙◌, add-zero, mul-one, add-mul, mul_assoc, add_assoc, zero-mul, zero-add, mod-lt, pow_pos, lt_of_lt_of_le, arith, bit_or, leb, T, pow-add, pow_mono, shl_lt, shl_exact, length, take, get_or}
use Rattle.std.proofs.lemmas.Bool.{lt-leb, false≢true}
use Rattle.std.proofs.lemmas.List.{take_more}
use Rattle.std.proofs.lemmas.List.Sums.{sum_by_more, sum_by_more_le}
use lib.Bits.{or_lt, or_shifted}
use types.Run.{OneOf}
use Rattle.meaning.specs.Table.{Semantics, table, look, semantics}
use Rattle.meaning.specs.Field.{many, slice, wide, bare}
use Rattle.meaning.specs.Checks.{of_word}
use Rattle.lemmas.specs.Look.{every, found}
use Rattle.table.specs.declared.Part.{Part}
use Rattle.table.specs.Columns.{part_from}
use Rattle.table.specs.Keys.{same_keys, from_up, in_range, NoKey, some_key, last_arm}
use Rattle.back.specs.Fields.{bits_in, Bare}

-- ---- the word types

abbrev is_word : Semantics → Bool
is_word d = of_word d (λ source range. true)

-- One answer at each of n types, from type k on.
from_to : (b : Bool) (k n t : ℕ) → map (λ j. b) (from_up k n) ≡ map (λ j. is_word (semantics j)) (from_up k n) → k ≤ t → t < k + n →
    b ≡ is_word (semantics t)
from_to b k n t p l h = same_keys (λ j. is_word (semantics j)) b (from_up k n) t (in_range k n t l h) p

is_false : (b : Bool) → T (not b) → false ≡ b
is_false true h = absurd h
is_false false h = refl

pub below_38 : (t : ℕ) → t < 38 → false ≡ is_word (semantics t)
unfolding from_up look table
below_38 t h = from_to false 0 38 t refl (omega arith) h

pub to_46 : (t : ℕ) → 38 ≤ t → t < 47 → true ≡ is_word (semantics t)
unfolding from_up look table
to_46 t l h = from_to true 38 9 t refl l h

pub to_63 : (t : ℕ) → 47 ≤ t → t < 64 → false ≡ is_word (semantics t)
unfolding from_up look table
to_63 t l h = from_to false 47 17 t refl l h

pub to_98 : (t : ℕ) → 64 ≤ t → t < 99 → true ≡ is_word (semantics t)
unfolding from_up look table
to_98 t l h = from_to true 64 35 t refl l h

pub above_98 : (t : ℕ) → 98 < t → false ≡ is_word (semantics t)
unfolding every table
above_98 t h =
    found (λ d. false ≡ is_word d) (λ k d. leb k 98 || not (is_word d)) table t tt (λ d p. is_false (is_word d) (rw (lt-leb t 98 h) at p)) refl

pub ruleset word_types = (below_38, to_46, to_63, to_98, above_98)

-- ---- the bare field, part by part

many_is : (p : Part) → many (part_from p) ≡ p.many
many_is p = omega (arith, p.some)

-- a part more, below the others
wide_more : (ps : List Part) (q : Part) → wide (map part_from (ps ++ q ∷ [])) ≡ wide (map part_from ps) + q.many
unfolding wide
wide_more [] q = rw (many_is q) (omega arith)
wide_more (p ∷ ps) q = omega (arith, wide_more ps q)

bare-more : (ps : List Part) (q : Part) (w : ℕ) →
    bare (map part_from (ps ++ q ∷ [])) w ≡ bare (map part_from ps) w * 2 ^ q.many + slice q.at q.many w
unfolding bare wide
bare-more [] q w = simp (many_is q, mul-one, add-zero, zero-mul, zero-add)
bare-more (p ∷ ps) q w = simp (wide_more ps q, bare-more ps q w, pow-add, add-mul, mul_assoc, add_assoc)

-- no part yet, and after i of the parts one more
pub bare_none : (w : ℕ) → Bare [] 0 w 0
unfolding bare
bare_none w = record { is = refl; small = omega arith }

pub field_more : (parts : List Part) (i : ℕ) (d : Part) (w x : ℕ) → i < length parts → bits_in parts ≤ 64 →
    Bare (map part_from (take i parts)) (bits_in (take i parts)) w x →
    Bare (map part_from (take (i + 1) parts)) (bits_in (take (i + 1) parts)) w
    (bit_or (x * 2 ^ (get_or parts i d).many % 2 ^ 64) (slice (get_or parts i d).at (get_or parts i d).many w))
field_more parts i d w x l fits b =
    let q = get_or parts i d in
    let n = bits_in (take i parts) in
    let most : n + q.many ≤ 64 = omega (arith, sum_by_more_le (λ (p : Part). p.many) parts i d l) in
    let small : slice q.at q.many w < 2 ^ q.many = mod-lt (w / 2 ^ q.at) (pow_pos q.many) in
    let exact : x * 2 ^ q.many % 2 ^ 64 ≡ x * 2 ^ q.many = shl_exact n q.many 64 b.small most in
    rw (exact, sum_by_more (λ (p : Part). p.many) parts i d l, take_more parts i d l)
    record {
      is = or_shifted x q.many (slice q.at q.many w) small ∙ ap (λ (y : ℕ). y * 2 ^ q.many + slice q.at q.many w) b.is ∙ sym (bare-more (take i parts) q w);
      small = or_lt (n + q.many) (x * 2 ^ q.many) (slice q.at q.many w) (shl_lt n q.many b.small) (lt_of_lt_of_le small (pow_mono (omega arith)));
    }

pub ruleset bare_parts = (bare_none, field_more)

-- ---- the word types that are left for the default arm

-- The keys of the other arms.
abbrev arms : List (List ℕ)
arms =
    (38 ∷ []) ∷ (39 ∷ []) ∷ (40 ∷ []) ∷ (41 ∷ []) ∷ (42 ∷ 64 ∷ []) ∷ (43 ∷ []) ∷ (44 ∷ 65 ∷ []) ∷ (45 ∷ 66 ∷ []) ∷ (46 ∷ []) ∷
    (68 ∷ 70 ∷ 72 ∷ 74 ∷ 76 ∷ 78 ∷ 80 ∷ 82 ∷ 84 ∷ 86 ∷ 88 ∷ 90 ∷ 92 ∷ 94 ∷ []) ∷ []

abbrev pub left : List ℕ
left = 67 ∷ 69 ∷ 71 ∷ 73 ∷ 75 ∷ 77 ∷ 79 ∷ 81 ∷ 83 ∷ 85 ∷ 87 ∷ 89 ∷ 91 ∷ 93 ∷ 95 ∷ 96 ∷ 97 ∷ 98 ∷ []

pub default_arm : (t : ℕ) → is_word (semantics t) ≡ true → NoKey (Unit {0}) arms t → OneOf left t
unfolding every table
default_arm t e p =
    last_arm left arms t
    (found (λ d. is_word d ≡ true → T (some_key (left ∷ arms) t)) (λ k d. not (is_word d) || some_key (left ∷ arms) k) table t tt (λ d h f. rw f at h)
    (λ f. absurd (false≢true f)) e) p
