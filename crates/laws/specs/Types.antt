-- The types that read back serves, by their numbers: those whose range is checked, of which `read_back_gives` speaks, and those with no
-- range check, of which `read_back-bare` does.
use Rattle.std.specs.Prelude.{ℕ, zero, suc, ◌+◌, ◌<◌, ◌≤◌, Bool, true, false, cond, not, ◌&&◌, ◌||◌, List, ◌⊎◌, ◌↔◌, ◌≢◌, ◌≡◌, refl, T, leb}
use Rattle.std.proofs.Common.{eq-or-lt_of_le, arith, inl, inr, ⊎_elim, subst, leb→le}
use Rattle.std.proofs.Math.Path.{subst⁻¹}
use Rattle.meaning.specs.Table.{Semantics, unnamed, idle, loaders, push, operation, word, bytes, Source, Part, Accepted, from◌to◌, signed_multiple_of_4, any, table, look, semantics}
use Rattle.meaning.specs.Call.{Card, semantics_on}
use Rattle.meaning.specs.Checks.{of_word}
use Rattle.lemmas.specs.Look.{both, every, found}
use Rattle.laws.specs.FieldBack.{either, checked, not_any}
use Rattle.laws.specs.Order.{implied}

-- On a card, a word type whose accepted values are such: where its value comes from, its field, and what it accepts.
pub record WordType (card : Card) (Such : Accepted → Type 0) (t : ℕ) : Type 0 where
  pub source : Source
  pub parts : List Part
  pub range : Accepted
  pub is : semantics_on card t ≡ word source parts range
  pub such : Such range

-- ---- a test of what is accepted, at each line of the table and at each number of a span

abbrev accepts : (Accepted → Bool) → Semantics → Bool
accepts test does = of_word does (λ source range. test range)

-- On a card, the types that pass a test which `unnamed` does not are those of the table that it names.
pub named_passes : (test : Semantics → Bool) → test unnamed ≡ false → (card : Card) (t : ℕ) →
    T (test (semantics_on card t)) ↔ (T (card.names t) × T (test (semantics t)))
named_passes test none card t = go (card.names t)
  where
    go : (b : Bool) → T (test (cond b (semantics t) unnamed)) ↔ (T b × T (test (semantics t)))
    go true = (λ h. (tt, h), λ h. h.1)
    go false = (λ h. absurd (subst T none h), λ h. absurd h.0)

module _ (Such : Accepted → Type 0) (test : Accepted → Bool) (card : Card) (t : ℕ) where
  tested : ((range : Accepted) → Such range → T (test range)) → WordType card Such t → T (accepts test (semantics_on card t))
  tested of w = subst⁻¹ (λ (d : Semantics). T (accepts test d)) w.is (of w.range w.such)

  passing : ((range : Accepted) → T (test range) → Such range) → (does : Semantics) → semantics_on card t ≡ does → T (accepts test does) →
      WordType card Such t
  passing of unnamed is h = absurd h
  passing of idle is h = absurd h
  passing of loaders is h = absurd h
  passing of (push f) is h = absurd h
  passing of (operation o) is h = absurd h
  passing of (word source parts range) is h = record { source = source; parts = parts; range = range; is = is; such = of range h }
  passing of (bytes way n f) is h = absurd h

  -- So such types are those that the card names and that pass in the table.
  such_exactly : ((range : Accepted) → Such range → T (test range)) → ((range : Accepted) → T (test range) → Such range) →
      WordType card Such t ↔ (T (card.names t) × T (accepts test (semantics t)))
  such_exactly passes such =
      let (there, back) = named_passes (accepts test) refl card t in
      (λ w. there (tested passes w), λ h. passing such (semantics_on card t) refl (back h))

-- Where each line that passes has a listed number, so has each type that passes.
pub numbered : (test : Semantics → Bool) → test unnamed ≡ false → (listed : ℕ → Bool) → T (every (λ n does. not (test does) || listed n) table) →
    (t : ℕ) → T (test (semantics t)) → T (listed t)
numbered test none listed h t =
    found (λ d. T (test d) → T (listed t)) (λ n does. not (test does) || listed n) table t h (λ does. implied (test does) (listed t))
    (λ p. absurd (subst T none p))

-- A test of n numbers from k up.
all_from : (ℕ → Bool) → ℕ → ℕ → Bool
all_from test k zero = true
all_from test k (suc n) = test k && all_from test (suc k) n

all_from_lem : (test : ℕ → Bool) (k n t : ℕ) → T (all_from test k n) → k ≤ t → t < k + n → T (test t)
unfolding all_from
all_from_lem test k zero t h a b = absurd (omega arith)
all_from_lem test k (suc n) t h a b =
    let (here, rest) = both (test k) (all_from test (suc k) n) h in
    ⊎_elim (λ e. subst (λ (j : ℕ). T (test j)) e here) (λ l. all_from_lem test (suc k) n t rest l (omega arith)) (eq-or-lt_of_le a)

-- ---- the theorems

-- The number t is one of k to l.
abbrev span : ℕ → ℕ → ℕ → Bool
span k l t = leb k t && leb t l

in_span : (k l t : ℕ) → T (span k l t) → (k ≤ t) × (t ≤ l)
in_span k l t h = let (a, b) = both (leb k t) (leb t l) h in (leb→le k t a, leb→le t l b)

is_any : (range : Accepted) → T (not (checked range)) → range ≡ any
is_any (from l to h) n = absurd n
is_any (signed_multiple_of_4 k) n = absurd n
is_any any n = refl

-- On a card, a type's range is checked exactly where the card names it and it is one of 38 to 46 or 64 to 66.
pub checked_types : (card : Card) (t : ℕ) →
    WordType card (λ range. range ≢ any) t ↔ (T (card.names t) × (((38 ≤ t) × (t ≤ 46)) ⊎ ((64 ≤ t) × (t ≤ 66))))
unfolding all_from every table look
checked_types card t =
    let (there, back) = such_exactly (λ range. range ≢ any) checked card t not_any (λ range h e. subst (λ (a : Accepted). T (checked a)) e h) in
    let listed : ℕ → Bool = λ n. span 38 46 n || span 64 66 n in
    let accepted : ℕ → Bool = λ n. accepts checked (semantics n) in (
      (λ w. (
        (there w).0,
        ⊎_elim (λ h. inl (in_span 38 46 t h)) (λ h. inr (in_span 64 66 t h))
            (either (span 38 46 t) (span 64 66 t) (numbered (accepts checked) refl listed tt t (there w).1)),
      )),
      (λ h. back (h.0, ⊎_elim (λ i. all_from_lem accepted 38 9 t tt i.0 (omega arith)) (λ i. all_from_lem accepted 64 3 t tt i.0 (omega arith)) h.1)),
    )

-- It is a word type with no range check exactly where the card names it and it is one of 67 to 98.
pub bare_types : (card : Card) (t : ℕ) → WordType card (λ range. range ≡ any) t ↔ (T (card.names t) × ((67 ≤ t) × (t ≤ 98)))
unfolding all_from every table look
bare_types card t =
    let bare : Accepted → Bool = λ range. not (checked range) in
    let (there, back) = such_exactly (λ range. range ≡ any) bare card t (λ range e. subst⁻¹ (λ (a : Accepted). T (bare a)) e tt) is_any in (
      (λ w. ((there w).0, in_span 67 98 t (numbered (accepts bare) refl (span 67 98) tt t (there w).1))),
      (λ h. back (h.0, all_from_lem (λ n. accepts bare (semantics n)) 67 32 t tt h.1.0 (omega arith))),
    )
