-- Read back: the immediate that a word holds.
use Rattle.std.specs.Prelude.{ℕ, ◌+◌, ◌*◌, ◌^◌, true, cond, not, List, [], ◌∷◌, eqb, ltb, ℤ, pos, negsuc, length, take, drop}
use Rattle.meaning.specs.Numbers.{number, plus, signed}
use Rattle.meaning.specs.Table.{Semantics, unnamed, idle, loaders, push, operation, word, bytes, Part, Accepted, from◌to◌, signed_multiple_of_4, any}
use Rattle.meaning.specs.Call.{Card, semantics_on}
use Rattle.meaning.specs.Field.{wide, lowest, bare}
use Rattle.meaning.specs.Checks.{Answer, answer, Check, check, first, section_limit, of_word, outside, unaligned}

-- A number of refusal, its place, and the value: 0 on refusal.
pub record Immediate : Type 0 where
  pub number : ℕ
  pub place : ℕ
  pub value : ℤ

-- The checks of read back, in its order; the place is always 0.
abbrev pub back_checks : Card → ℕ → ℕ → ℕ → Semantics → List Check
back_checks card size address offset does =
    check 1 0 (ltb section_limit size) ∷
    check 4 0 (not (of_word does (λ source range. true))) ∷
    check 8 0 (outside size offset 4) ∷
    check 9 0 (unaligned (plus card.width address offset)) ∷
    []

-- A field's value, its low zeros restored: signed where the accepted range has negative numbers. With no range, the bare field.
abbrev pub field_value : List Part → Accepted → ℕ → ℤ
field_value parts (from pos l to h) held = pos (bare parts held * 2 ^ lowest parts)
field_value parts (from negsuc l to h) held = signed (wide parts + lowest parts) (bare parts held * 2 ^ lowest parts)
field_value parts (signed_multiple_of_4 n) held = signed n (bare parts held * 2 ^ lowest parts)
field_value parts any held = pos (bare parts held)

abbrev pub value_back : Semantics → ℕ → ℤ
value_back unnamed held = pos 0
value_back idle held = pos 0
value_back loaders held = pos 0
value_back (push f) held = pos 0
value_back (operation o) held = pos 0
value_back (word source parts range) held = field_value parts range held
value_back (bytes way n f) held = pos 0

abbrev pub immediate : Answer → ℤ → Immediate
immediate a z = record { number = a.number; place = a.place; value = cond (eqb a.number 0) z (pos 0) }

-- Read back of the word at an offset, on a card.
abbrev pub read_back_of : Card → List ℕ → ℕ → ℕ → ℕ → Immediate
read_back_of card section address offset type =
    immediate (first (back_checks card (length section) address offset (semantics_on card type)) (answer 0 0))
    (value_back (semantics_on card type) (number (take 4 (drop offset section))))
