-- A symbol's row out of the rows, the refusal of a value by its row, and the answer of the masks. Over plain numbers and lists.
use Rattle.std.proofs.Common.{ℕ, zero, suc, ◌+◌, ◌-◌, ◌/◌, ◌%◌, ◌^◌, ◌≤◌, ◌<◌, arith, List, [], ◌∷◌, ◌≡◌, refl, sym, ap, ◌∙◌, Bool, true, false, cond, Option, Some, None, bit_or, le-ltb, ltb, add-one, length, get_or}
use Rattle.std.proofs.Math.Nat.{zero-div}
use Rattle.std.proofs.Math.ListN.{get_or-eq_default}
use Rattle.std.specs.Simd.{first_chunks}
use Rattle.std.specs.List.{fold, position, position_from}
use Rattle.std.proofs.lemmas.Nat.{le_or_l, le_or_r}
use Rattle.std.proofs.lemmas.Iterator.Adapters.{position_from-zero}
use Rattle.meaning.specs.Numbers.{number}
use Rattle.meaning.specs.Call.{row_bytes, rows_of, row_of, no_row, mask}
use Rattle.meaning.specs.Checks.{Answer, answer, first, mask_limit, of_masks}
use Rattle.lemmas.specs.Pieces.{length_cut, chunks_cut}

-- from symbol 1 up it is looked up in the library's chunks
pub row_found : (values : List ℕ) (symbol : ℕ) → 1 ≤ symbol →
    get_or (first_chunks row_bytes (length values / row_bytes) values) (symbol - 1) no_row ≡ row_of (rows_of values) symbol
row_found values zero h = absurd (omega arith)
row_found values (suc k) h =
    let e : suc k - 1 ≡ k = omega arith in
    rw (e, chunks_cut row_bytes (length values / row_bytes) values)

-- past the rows it is the row of nothing
pub row_none : (values : List ℕ) (symbol : ℕ) → length values / row_bytes < symbol → row_of (rows_of values) symbol ≡ no_row
row_none values zero h = absurd (omega arith)
row_none values (suc k) h =
    let past : length (rows_of values) ≤ k = rw (length_cut row_bytes (length values / row_bytes) values) (omega arith) in
    get_or-eq_default (rows_of values) no_row past

-- that has no value present
pub none_present : (row : List ℕ) (bit : ℕ) → row ≡ no_row → mask row / 2 ^ bit % 2 ≡ 0
unfolding number
none_present row bit e = rw (e, zero-div) refl

-- ---- the answer of the masks

-- The masks or-ed onto a number: it is not above them all, and where they fit, each of them does.
abbrev pub or_all : ℕ → List (List ℕ) → ℕ
or_all all rows = fold (λ all row. bit_or all (mask row)) all rows

or_all_le : (all : ℕ) (rows : List (List ℕ)) → all ≤ or_all all rows
or_all_le all [] = omega arith
or_all_le all (row ∷ rows) = omega (arith, le_or_l all (mask row), or_all_le (bit_or all (mask row)) rows)

fit_from : (i all : ℕ) (rows : List (List ℕ)) → or_all all rows ≤ mask_limit → answer 0 0 ≡ first (of_masks i rows) (answer 0 0)
unfolding first of_masks
fit_from i all [] h = refl
fit_from i all (row ∷ rows) h =
    let fits : mask row ≤ mask_limit = omega (arith, le_or_r all (mask row), or_all_le (bit_or all (mask row)) rows) in
    rw (le-ltb mask_limit (mask row) fits) (fit_from (suc i) (bit_or all (mask row)) rows h)

pub masks_fit : (rows : List (List ℕ)) → or_all 0 rows ≤ mask_limit → answer 0 0 ≡ first (of_masks 0 rows) (answer 0 0)
masks_fit = fit_from 0 0

abbrev above : List ℕ → Bool
above row = ltb mask_limit (mask row)

-- The answer where so many rows stand before the first that is above.
abbrev at_first : Option ℕ → Answer
at_first None = answer 0 0
at_first (Some i) = answer 3 i

above_from : (i : ℕ) (rows : List (List ℕ)) → at_first (position_from above i rows) ≡ first (of_masks i rows) (answer 0 0)
unfolding first of_masks
above_from i [] = refl
above_from i (row ∷ rows) =
    elim (above row) as (λ b. at_first (cond b (Some i) (position_from above (i + 1) rows)) ≡ cond b (answer 3 i) (first (of_masks (suc i) rows) (answer 0 0)))
    [ true ↦ refl | false ↦ rw add-one (above_from (suc i) rows) ]

pub masks_above : (rows : List (List ℕ)) → first (of_masks 0 rows) (answer 0 0) ≡ at_first (position above rows)
masks_above rows = sym (ap at_first (position_from-zero above rows) ∙ above_from 0 rows)

pub ruleset masks_answered = (masks_fit, masks_above, chunks_cut)
