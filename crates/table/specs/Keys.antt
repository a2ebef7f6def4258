-- What links an arm of a match on the type to the lines of the meaning's table: its keys, or for the default arm the keys of the others.
use Rattle.std.specs.Prelude.{ℕ, zero, suc, ◌+◌, ◌≤◌, ◌<◌, Bool, true, false, not, cond, ◌||◌, List, [], ◌∷◌, map, ◌⊎◌, ◌≡◌, refl, T, eqb, leb, ltb}
use Rattle.std.proofs.Common.{zero-le, eq-or-lt_of_le, arith, inl, inr, ⊎_elim, sym, leb→le}
use Rattle.std.proofs.Math.Path.{subst⁻¹}
use mir.Val.{has_key}
use types.Run.{OneOf, hit}
use Rattle.meaning.specs.Table.{Semantics, unnamed, idle, loaders, push, operation, word, bytes, stack, of, table, semantics}
use Rattle.lemmas.specs.Look.{differ, every, found}

-- ---- an arm's keys

-- P of each key
abbrev pub Each : (ℕ → Type 0) → List ℕ → Type 0
Each P [] = Unit {0}
Each P (k ∷ ks) = P k × Each P ks

-- What holds at each of an arm's keys holds at a number that is one of them.
pub at_keys : (P : ℕ → Type 0) (ks : List ℕ) (t : ℕ) → OneOf ks t → Each P ks → P t
at_keys P [] t h p = absurd h
at_keys P (k ∷ []) t e p = subst⁻¹ P e p.0
at_keys P (k ∷ l ∷ ks) t (inl e) p = subst⁻¹ P e p.0
at_keys P (k ∷ l ∷ ks) t (inr h) p = at_keys P (l ∷ ks) t h p.1

-- So does an equation, which at all the keys together is one equation of lists.
pub same_keys : {A : Type 0} (f : ℕ → A) (a : A) (ks : List ℕ) (t : ℕ) → OneOf ks t → map (λ k. a) ks ≡ map f ks → a ≡ f t
same_keys f a ks t h e = at_keys (λ k. a ≡ f k) ks t h (each ks e)
  where
    each : (ls : List ℕ) → map (λ k. a) ls ≡ map f ls → Each (λ k. a ≡ f k) ls
    each [] p = tt
    each (l ∷ ls) p = (cc, each ls (cc))

-- The keys of an arm of a range: the n numbers from k up.
unfoldable pub from_up : ℕ → ℕ → List ℕ
from_up k zero = []
from_up k (suc n) = k ∷ from_up (suc k) n

pub in_range : (k n t : ℕ) → k ≤ t → t < k + n → OneOf (from_up k n) t
unfolding from_up
in_range k zero t l h = absurd (omega arith)
in_range k (suc zero) t l h = omega arith
in_range k (suc (suc n)) t l h =
    ⊎_elim (λ e. inl (sym e)) (λ above. inr (in_range (suc k) (suc n) t above (omega arith))) (eq-or-lt_of_le l)

pub out_of_range : (k n t : ℕ) → (t < k) ⊎ (k + n ≤ t) → OneOf (from_up k n) t → ⊥
unfolding from_up
out_of_range k zero t out h = h
out_of_range k (suc zero) t (inl p) e = omega arith
out_of_range k (suc zero) t (inr p) e = omega arith
out_of_range k (suc (suc n)) t (inl p) (inl e) = omega arith
out_of_range k (suc (suc n)) t (inr p) (inl e) = omega arith
out_of_range k (suc (suc n)) t (inl p) (inr h) = out_of_range (suc k) (suc n) t (inl (omega arith)) h
out_of_range k (suc (suc n)) t (inr p) (inr h) = out_of_range (suc k) (suc n) t (inr (omega arith)) h

-- ---- the default arm

-- The classes in the order in which a record is looked at, the last first: what the code passes on from one match to the next.
abbrev pub class : Semantics → ℕ
class unnamed = 0
class idle = 0
class loaders = 0
class (bytes way n f) = 1
class (word (of f) parts range) = 2
class (word stack parts range) = 3
class (push f) = 4
class (operation o) = 4

pub highest : (t : ℕ) → class (semantics t) ≤ 4
unfolding every table
highest t = found (λ d. class d ≤ 4) (λ k d. leb (class d) 4) table t tt (λ d h. leb→le (class d) 4 h) zero-le

-- The class of each type that has one, by its number: 0 below 1, 1 below 3, and so on.
abbrev pub class_at : ℕ → ℕ
class_at t =
    cond (ltb t 1) 0 (cond (ltb t 3) 1 (cond (ltb t 22) 0 (cond (ltb t 38) 4 (cond (ltb t 47) 3
    (cond (ltb t 57) 1 (cond (ltb t 64) 0 (cond (ltb t 99) 2 (cond (ltb t 100) 1 0))))))))

pub classed : (t : ℕ) → (class (semantics t) ≤ 0) ⊎ (class (semantics t) ≡ class_at t)
unfolding every table
classed t =
    found (λ d. (class d ≤ 0) ⊎ (class d ≡ class_at t)) (λ k d. eqb (class d) 0 || eqb (class d) (class_at k)) table t tt
    (λ d h. grind arith) (inl (omega arith))

-- t is no key of any arm, in the form in which a match tells it.
abbrev pub NoKey : Type 0 → List (List ℕ) → ℕ → Type 0
NoKey before [] t = before
NoKey before (ks ∷ arms) t = NoKey (before × (OneOf ks t → ⊥)) arms t

abbrev pub some_key : List (List ℕ) → ℕ → Bool
some_key [] t = false
some_key (ks ∷ arms) t = has_key ks t || some_key arms t

either : (a b : Bool) → T (a || b) → T a ⊎ T b
either true b h = inl tt
either false b h = inr h

no_key : (before : Type 0) (arms : List (List ℕ)) (t : ℕ) → NoKey before arms t → before × (T (some_key arms t) → ⊥)
no_key before [] t p = (p, λ h. h)
no_key before (ks ∷ arms) t p =
    let (q, rest) = no_key (before × (OneOf ks t → ⊥)) arms t p in
    (q.0, λ h. elim (either (has_key ks t) (some_key arms t) h) [ inl a ↦ q.1 (hit ks t a) | inr b ↦ rest b ])

-- So a number that is a key of some arm, and of none but the last, is one of the last one's.
pub last_arm : (ks : List ℕ) (arms : List (List ℕ)) (t : ℕ) → T (some_key (ks ∷ arms) t) → NoKey (Unit {0}) arms t → OneOf ks t
last_arm ks arms t h p =
    elim (either (has_key ks t) (some_key arms t) h) [ inl a ↦ hit ks t a | inr b ↦ absurd ((no_key (Unit {0}) arms t p).1 b) ]

-- Every type that a test picks is a key of some arm.
abbrev pub all_keys : (Semantics → Bool) → List (List ℕ) → Bool
all_keys picks arms = every (λ t d. not (picks d) || some_key arms t) table

-- So a type that is no key is not picked, or not named.
pub unlisted : (picks : Semantics → Bool) (arms : List (List ℕ)) (t : ℕ) → T (all_keys picks arms) → NoKey (Unit {0}) arms t →
    (semantics t ≡ unnamed) ⊎ T (not (picks (semantics t)))
unlisted picks arms t all p =
    found (λ d. (d ≡ unnamed) ⊎ T (not (picks d))) (λ k d. not (picks d) || some_key arms k) table t all (λ d h. go d h) (inl refl)
  where
    go : (d : Semantics) → T (not (picks d) || some_key arms t) → (d ≡ unnamed) ⊎ T (not (picks d))
    go d h = elim (either (not (picks d)) (some_key arms t) h) [ inl a ↦ inr a | inr b ↦ absurd ((no_key (Unit {0}) arms t p).1 b) ]

-- Where every type of a class is a key, a type that is none is of a lower class.
pub lower : (n : ℕ) (arms : List (List ℕ)) (t : ℕ) → T (all_keys (λ d. eqb (class d) (suc n)) arms) → NoKey (Unit {0}) arms t →
    class (semantics t) ≤ suc n → class (semantics t) ≤ n
lower n arms t all p low = elim (unlisted (λ d. eqb (class d) (suc n)) arms t all p) [ inl e ↦ nothing e | inr h ↦ below h ]
  where
    nothing : semantics t ≡ unnamed → class (semantics t) ≤ n
    nothing e = rw e zero-le

    below : T (not (eqb (class (semantics t)) (suc n))) → class (semantics t) ≤ n
    below h =
        let other : class (semantics t) ≡ suc n → ⊥ = differ (class (semantics t)) (suc n) h in
        omega arith

-- Where every type that does nothing or is the loader's is a key, it is not named.
pub not_named : (arms : List (List ℕ)) (t : ℕ) → T (all_keys (λ d. eqb (class d) 0) arms) → NoKey (Unit {0}) arms t → class (semantics t) ≤ 0 → semantics t ≡ unnamed
not_named arms t all p low = elim (unlisted (λ d. eqb (class d) 0) arms t all p) [ inl e ↦ e | inr h ↦ absurd (never h) ]
  where
    never : T (not (eqb (class (semantics t)) 0)) → ⊥
    never h =
        let none : class (semantics t) ≡ 0 = omega arith in
        differ (class (semantics t)) 0 h none
