-- Writing text, over plain numbers and lists: what is written goes on from what was written.
use Prim.Native.Nat.{ℕ, zero, suc, min, ◌+◌, ◌-◌, ◌*◌, ◌/◌, ◌%◌, ◌≤◌, ◌<◌}
use native.Mathlib.Nat.{zero-add}
use native.Mathlib.Numerals.{add-one}
use native.Mathlib.Omega.{arith}
use mathlib.Core.Bool.{Bool, true, false}
use mathlib.Core.List.{List, [], ◌∷◌, ◌++◌, append_assoc, append-nil}
use Rattle.std.specs.Int.{w32, w64, to_be_bytes}
use Rattle.std.proofs.Math.Nat.{div-div-eq-div-mul}
use mathlib.Core.Path.{◌≡◌, refl, sym, ap, ◌∙◌}
use borrow.Author.Tests.{leb-true, leb-false, ne_eqb}
use lib.Dec.{leb}
use lib.ListN.{length, take, drop, get_or, set, length-set, length-append, length-drop, take-append-drop, drop_of_length-le}
use lib.Seq.{drop-cons, take_all, take_at, drop_at}
use Rattle.meaning.specs.Numbers.{cut}
use Rattle.meaning.specs.Checks.{answer_at, section_limit}
use Rattle.meaning.specs.Frames.{digit_for, digits, digits_of, frames02, section_lines, written}
use Rattle.frames.specs.Text.{laid}
use Rattle.output.specs.Text.{frame02, place_line, output_bytes}
use Rattle.frames.proofs.Laws.{laid_none, laid_cons, laid-append, length-laid}

-- ---- one write after another

pub laid_one : (at b : ℕ) (s : List ℕ) → at < length s → laid at (b ∷ []) s ≡ set s at b
laid_one at b s h = laid_cons at s b [] h ∙ laid_none (suc at) (set s at b)

pub laid_front : (n : ℕ) (w s : List ℕ) → n ≡ length w → w ++ drop n s ≡ laid 0 w s
unfolding laid
laid_front n w s e = rw (e, zero-add)

-- ---- digits

pub length_digits : (n x : ℕ) → length (digits n x) ≡ n
unfolding digits
length_digits zero x = refl
length_digits (suc n) x = ap suc (length_digits n x)

pub length-digits_of : (bs : List ℕ) → length (digits_of bs) ≡ 2 * length bs
unfolding digits_of
length-digits_of [] = refl
length-digits_of (b ∷ bs) = rw (length-append, length_digits 2 b, length-digits_of bs) (omega arith)

module _ (to i : ℕ) (bs out : List ℕ) where
  pub bytes_next : i < length bs → get_or bs i 0 < 256 → to + 2 ≤ length out →
      laid (to + 2) (digits_of (drop (i + 1) bs)) (set (set out to (digit_for (get_or bs i 0 / 16))) (to + 1) (digit_for (get_or bs i 0 % 16)))
      ≡ laid to (digits_of (drop i bs)) out
  unfolding digits_of digits
  bytes_next h small k =
      let n : to + 2 ≡ suc (suc to) = omega arith in
      let high : get_or bs i 0 / 16 % 16 ≡ get_or bs i 0 / 16 = omega arith in
      let low : get_or bs i 0 / 1 % 16 ≡ get_or bs i 0 % 16 = omega arith in
      rw (add-one i, drop-cons bs i 0 h, high, low, n, add-one to)
      (sym (laid_cons to out _ _ (omega arith) ∙ laid_cons (suc to) (set out to (digit_for (get_or bs i 0 / 16))) _ _ (rw length-set (omega arith))))

  pub bytes_done : length bs ≤ i → laid to (digits_of (drop i bs)) out ≡ out
  unfolding digits_of
  bytes_done h = rw (drop_of_length-le bs {i = i} h) (laid_none to out)

-- bytes of their own as digits: one, two, and a number's, the highest first
pub one_byte : (b : ℕ) → digits_of (b ∷ []) ≡ digits 2 b
unfolding digits_of
one_byte b = append-nil (digits 2 b)

high_digit : (y : ℕ) → y % 256 / 16 % 16 ≡ y / 16 % 16
high_digit y = omega arith

low_digit : (y : ℕ) → y % 256 / 1 % 16 ≡ y / 1 % 16
low_digit y = omega arith

pub place_digits : (x : ℕ) → digits_of (to_be_bytes w32 x) ≡ digits 8 x
unfolding digits_of digits
place_digits x = simp (high_digit, low_digit, div-div-eq-div-mul)

pub offset_digits : (x : ℕ) → digits_of (to_be_bytes w64 x) ≡ digits 16 x
unfolding digits_of digits
offset_digits x = simp (high_digit, low_digit, div-div-eq-div-mul)

-- those of a refusal, of which the low two are written
pub refusal_digits : (x : ℕ) → digits_of (255 ∷ x % 256 ∷ []) ≡ digits 2 255 ++ digits 2 x
unfolding digits_of digits
refusal_digits x = simp (high_digit, low_digit)

-- ---- a line, and the section's lines

pub length-frame02 : (bs : List ℕ) → length (frame02 bs) ≡ 2 * length bs + 3
length-frame02 bs = simp (length-append, length_digits, length-digits_of) (omega arith)

-- what is written piece by piece
pub ruleset pieces = (one_byte, place_digits, offset_digits, laid-append, laid_one, length-append, length-laid, length_digits, length-digits_of)

frames02_cons : (p : List ℕ) (ps : List (List ℕ)) → frames02 (p ∷ ps) ≡ frame02 p ++ frames02 ps
unfolding frames02
frames02_cons p ps = sym (simp append_assoc)

-- the lines of what is left of the section: one of at most 64 bytes, and those after it
sixty_four : (t : List ℕ) → 0 < length t → section_lines t ≡ frame02 (take 64 t) ++ section_lines (drop 64 t)
unfolding section_lines cut
sixty_four t h =
    let d : length (drop 64 t) ≡ length t - 64 = length-drop 64 t in
    let n : (length t + 63) / 64 ≡ suc ((length (drop 64 t) + 63) / 64) = omega arith in
    rw n (frames02_cons (take 64 t) (cut 64 ((length (drop 64 t) + 63) / 64) (drop 64 t)))

length_none : (l : List ℕ) → length l ≡ 0 → l ≡ []
length_none [] e = refl
length_none (b ∷ l) e = absurd (omega arith)

module _ (left piece rest : List ℕ) (parts : left ≡ piece ++ rest) (size : length piece ≡ min 64 (length left)) (some : 0 < length left) where
  cut_off : (take 64 left ≡ piece) × (drop 64 left ≡ rest)
  cut_off = go (leb 64 (length left)) refl
    where
      n : length left ≡ length piece + length rest
      n = ap length parts ∙ length-append piece rest

      go : (t : Bool) → leb 64 (length left) ≡ t → (take 64 left ≡ piece) × (drop 64 left ≡ rest)
      go true e =
          let h = leb-true 64 (length left) e in
          (rw parts (take_at piece rest 64 (omega arith)), rw parts (drop_at piece rest 64 (omega arith)))
      go false e =
          let h = leb-false 64 (length left) e in
          let none : rest ≡ [] = length_none rest (omega (arith, n)) in
          let all : left ≡ piece = parts ∙ rw (none, append-nil) in
          (take_all 64 left (omega arith) ∙ all, drop_of_length-le left {i = 64} (omega arith) ∙ sym none)

  section_more : section_lines left ≡ frame02 piece ++ section_lines rest
  section_more = sixty_four left some ∙ rw (cut_off.0, cut_off.1)

  pub section_length : length (section_lines left) ≡ 2 * length piece + 3 + length (section_lines rest)
  section_length =
      ap length section_more ∙ length-append (frame02 piece) (section_lines rest) ∙ ap (λ (n : ℕ). n + length (section_lines rest)) (length-frame02 piece)

  pub section_laid : (to : ℕ) (out : List ℕ) → to + (2 * length piece + 3) ≤ length out →
      laid (to + (2 * length piece + 3)) (section_lines rest) (laid to (frame02 piece) out) ≡ laid to (section_lines left) out
  section_laid to out fits =
      let m = length-frame02 piece in
      sym
      (ap (λ (w : List ℕ). laid to w out) section_more
      ∙ laid-append to (frame02 piece) (section_lines rest) out (omega arith)
      ∙ ap (λ (n : ℕ). laid (to + n) (section_lines rest) (laid to (frame02 piece) out)) m)

pub section_end : (s : List ℕ) → length s ≡ 0 → section_lines s ≡ []
unfolding section_lines frames02 cut
section_end [] h = refl
section_end (b ∷ s) h = absurd (omega arith)

-- a full section's lines: 1,024 of 131 bytes
lines_fit : (m : ℕ) (s : List ℕ) → length s ≤ 64 * m → length (frames02 (cut 64 m s)) ≡ 3 * m + 2 * length s
unfolding frames02 cut
lines_fit zero s h = omega arith
lines_fit (suc m) s h =
    let d : length (drop 64 s) ≡ length s - 64 = length-drop 64 s in
    let rest : length (frames02 (cut 64 m (drop 64 s))) ≡ 3 * m + 2 * length (drop 64 s) = lines_fit m (drop 64 s) (omega arith) in
    let t : length (take 64 s) + length (drop 64 s) ≡ length s = sym (length-append (take 64 s) (drop 64 s)) ∙ ap length (take-append-drop 64 s) in
    let one : length (frame02 (take 64 s)) ≡ 2 * length (take 64 s) + 3 = length-frame02 (take 64 s) in
    let all : length (frame02 (take 64 s) ++ frames02 (cut 64 m (drop 64 s))) ≡ length (frame02 (take 64 s)) + length (frames02 (cut 64 m (drop 64 s))) =
    length-append (frame02 (take 64 s)) (frames02 (cut 64 m (drop 64 s))) in
    ap length (frames02_cons (take 64 s) (cut 64 m (drop 64 s))) ∙ all ∙ omega arith

pub section_fits : (s : List ℕ) → length s ≤ section_limit → 27 + length (section_lines s) ≤ output_bytes
unfolding section_lines
section_fits s h = rw (lines_fit ((length s + 63) / 64) s (omega arith)) (omega arith)

-- ---- the whole output

pub accepted_is : (number place offset : ℕ) (section : List ℕ) → number ≡ 0 →
    written (answer_at number place offset) section ≡ (digits 2 0 ++ place_line place offset) ++ section_lines section
unfolding written
accepted_is number place offset section h = simp (h, append_assoc)

pub refused_is : (number place offset : ℕ) (section : List ℕ) → (number ≡ 0 → ⊥) →
    written (answer_at number place offset) section ≡ (digits 2 255 ++ digits 2 number) ++ place_line place offset
unfolding written
refused_is number place offset section h = simp (ne_eqb number 0 h, append_assoc)

-- and all of it
pub ruleset whole = (pieces, refusal_digits, laid_front, section_fits, accepted_is, refused_is)
