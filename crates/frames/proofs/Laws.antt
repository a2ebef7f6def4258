-- Text as the code goes through it, over plain numbers and lists.
use Prim.Native.Nat.{ℕ, zero, suc, ◌+◌, ◌-◌, ◌*◌, ◌/◌, ◌%◌, ◌≤◌, ◌<◌}
use native.Mathlib.Nat.{zero-add, add-zero, add_assoc, mul-zero, mul-suc, le_of_suc-le-suc, not-suc-le-zero}
use native.Mathlib.Numerals.{add-one}
use native.Mathlib.Omega.{arith}
use mathlib.Core.Bool.{Bool, true, false, cond, ◌&&◌, false≢true}
use mathlib.Core.List.{List, [], ◌∷◌, ◌++◌, append_assoc, append-nil}
use mathlib.Core.Path.{◌≡◌, refl, sym, ap, ◌∙◌}
use borrow.Rule.Slice.PartMut.{put_mid}
use borrow.Author.Tests.{eqb-true}
use Rattle.std.proofs.lemmas.Bool.Decides.{nat_tests}
use Rattle.std.specs.List.{prefix_len}
use Rattle.std.specs.Simd.{first_chunks}
use lib.Dec.{eqb, ltb}
use lib.ListN.{length, take, drop, get_or, set, length-append, length-drop, length-set, take-append-drop, drop_of_length-le}
use Rattle.std.proofs.lemmas.List.{get_or-take, get_or-drop}
use Rattle.std.specs.Int.{w64, from_be_bytes}
use lib.Seq.{drop-cons, take-suc-set, drop-set-lt, length-take-le, take_all, take_at, drop_at, drop-drop}
use Rattle.meaning.specs.Frames.{lines_of, onto, digit, all_digits, numeral, bytes_in, kind, sized, follows, well_formed}
use Rattle.std.specs.Prelude.{Ok, Err}
use Rattle.refusals.specs.declared.Refusal.{Refusal}
use Rattle.refusals.specs.declared.Refusal.TheVariants.{BadLine}
use Rattle.frames.specs.declared.Kind.{Kind}
use Rattle.frames.specs.declared.Kind.TheVariants.{Numbers, Section, Row, Record}
use Rattle.frames.specs.Kinds.{kind_number, kind_numbered}
use Rattle.frames.specs.Text.{line_length, FirstLine, digits_length, IsFrame, laid}

-- ---- a digit

pub both : (a b : Bool) → a && b ≡ true → (a ≡ true) × (b ≡ true)
both true b e = (refl, e)
both false b e = absurd (false≢true e)

-- a digit is no line feed, and below 128
pub no_feed : (b : ℕ) → digit b < 16 → (11 ≤ b) × (b < 128)
unfolding digit
no_feed b d = (grind (arith, nat_tests), grind (arith, nat_tests))

-- ---- a line

pub line_inside : (s : List ℕ) → line_length s ≤ length s
unfolding line_length
line_inside [] = omega arith
line_inside (b ∷ s) = let r = line_inside s in grind (arith, nat_tests)

-- by what a text begins with: nothing, a line feed, or another byte
pub no_line : (s : List ℕ) → length s < 1 → (line_length s ≡ 0) × (s ≡ drop 1 s)
unfolding line_length
no_line [] h = (refl, refl)
no_line (b ∷ s) h = absurd (omega arith)

pub feed_first : (s : List ℕ) → get_or s 0 0 ≡ 10 → line_length s ≡ 0
unfolding line_length
feed_first [] e = refl
feed_first (b ∷ s) e = grind (arith, nat_tests)

pub none_first : (s : List ℕ) → 1 ≤ length s → (get_or s 0 0 ≡ 10 → ⊥) → 0 < line_length s
unfolding line_length
none_first [] h e = absurd (omega arith)
none_first (b ∷ s) h e = grind (arith, nat_tests)

-- the first line, and those after it
pub first-line : (s : List ℕ) → 0 < length s → lines_of s ≡ take (line_length s) s ∷ lines_of (drop (suc (line_length s)) s)
unfolding lines_of line_length
first-line [] h = absurd (not-suc-le-zero h)
first-line (b ∷ s) h = go (eqb b 10) s (first-line s)
  where
    go : (feed : Bool) (t : List ℕ) → (0 < length t → lines_of t ≡ take (line_length t) t ∷ lines_of (drop (suc (line_length t)) t)) →
        cond feed ([] ∷ lines_of t) (onto b (lines_of t)) ≡ take (cond feed 0 (suc (line_length t))) (b ∷ t) ∷ lines_of (drop (suc (cond feed 0 (suc (line_length t)))) (b ∷ t))
    go true t rest = refl
    go false [] rest = refl
    go false (a ∷ t) rest = ap (onto b) (rest (omega arith))

-- ---- its digits

pub no_more : all_digits [] ≡ true
unfolding all_digits
no_more = refl

-- a byte more
pub digits_more : (l : List ℕ) (b : ℕ) → all_digits (l ++ (b ∷ [])) ≡ all_digits l && ltb (digit b) 16
unfolding all_digits
digits_more [] b = grind (arith, nat_tests)
digits_more (a ∷ l) b = let r = digits_more l b in grind (arith, nat_tests)

-- a piece of digits, and those after it
pub digits-run : (n : ℕ) (l : List ℕ) → n ≤ length l → all_digits (take n l) ≡ true → digits_length l ≡ n + digits_length (drop n l)
unfolding digits_length all_digits
digits-run zero l h e = omega arith
digits-run (suc n) [] h e = absurd (not-suc-le-zero h)
digits-run (suc n) (b ∷ l) h e = let r = digits-run n l (le_of_suc-le-suc h) in grind (arith, nat_tests)

-- ---- how many digits a text begins with

pub digits_inside : (l : List ℕ) → digits_length l ≤ length l
unfolding digits_length
digits_inside [] = omega arith
digits_inside (b ∷ l) = let r = digits_inside l in grind (arith, nat_tests)

digits_single : (l : List ℕ) → prefix_len (λ b. ltb (digit b) 16) l ≡ digits_length l
unfolding digits_length
digits_single [] = refl
digits_single (b ∷ l) = go (ltb (digit b) 16) (digits_single l)
  where
    go : (t : Bool) → prefix_len (λ b. ltb (digit b) 16) l ≡ digits_length l → cond t (1 + prefix_len (λ b. ltb (digit b) 16) l) 0 ≡ cond t (suc (digits_length l)) 0
    go true e = omega arith
    go false e = refl

-- how many pieces of sixteen are digits, of the first k
abbrev pub pieces : ℕ → List ℕ → ℕ
pieces k l = prefix_len all_digits (first_chunks 16 k l)

pieces_few : (k : ℕ) (l : List ℕ) → pieces k l ≤ k
pieces_few zero l = omega arith
pieces_few (suc k) l = let r : pieces k (drop 16 l) ≤ k = pieces_few k (drop 16 l) in go (all_digits (take 16 l)) r
  where
    go : (t : Bool) → pieces k (drop 16 l) ≤ k → cond t (1 + pieces k (drop 16 l)) 0 ≤ suc k
    go true r = omega arith
    go false r = omega arith

digits_after : (k : ℕ) (l : List ℕ) → 16 * k ≤ length l → 16 * pieces k l + digits_length (drop (16 * pieces k l) l) ≡ digits_length l
digits_after zero l h = zero-add (digits_length l)
digits_after (suc k) l h =
    let d : length (drop 16 l) ≡ length l - 16 = length-drop 16 l in
    let n : 16 * (1 + pieces k (drop 16 l)) ≡ 16 + 16 * pieces k (drop 16 l) = omega arith in
    go (all_digits (take 16 l)) refl (λ e.
    rw (n, ← drop-drop (16 * pieces k (drop 16 l)) 16 l, digits-run 16 l (omega arith) e, ← digits_after k (drop 16 l) (omega arith))
    (add_assoc 16 (16 * pieces k (drop 16 l)) (digits_length (drop (16 * pieces k (drop 16 l)) (drop 16 l)))))
  where
    go : (t : Bool) → all_digits (take 16 l) ≡ t →
        (all_digits (take 16 l) ≡ true → 16 * (1 + pieces k (drop 16 l)) + digits_length (drop (16 * (1 + pieces k (drop 16 l))) l) ≡ digits_length l) →
        16 * cond t (1 + pieces k (drop 16 l)) 0 + digits_length (drop (16 * cond t (1 + pieces k (drop 16 l)) 0) l) ≡ digits_length l
    go true e more = more e
    go false e more = zero-add (digits_length l)

pub whole_fits : (l : List ℕ) → 16 * pieces (length l / 16) l ≤ length l
whole_fits l = let f : pieces (length l / 16) l ≤ length l / 16 = pieces_few (length l / 16) l in omega arith

pub digits_whole : (l : List ℕ) (k n : ℕ) → k ≡ pieces (length l / 16) l → n ≡ prefix_len (λ b. ltb (digit b) 16) (drop (16 * k) l) → 16 * k + n ≡ digits_length l
digits_whole l k n e f =
    rw (f, digits_single (drop (16 * k) l), e) (digits_after (length l / 16) l (omega arith))

-- `digits_len`
pub ruleset whole_and_single = (whole_fits, digits_whole, digits_inside)

-- digits are no line feeds: a line is its first digits, and what is left of it
pub digits-first : (l : List ℕ) → line_length l ≡ digits_length l + line_length (drop (digits_length l) l)
unfolding line_length digits_length
digits-first [] = refl
digits-first (b ∷ l) = let r = digits-first l in grind (arith, nat_tests, no_feed)

pub digits_alone : (l : List ℕ) → all_digits (take (digits_length l) l) ≡ true
unfolding digits_length all_digits
digits_alone [] = refl
digits_alone (b ∷ l) = let r = digits_alone l in grind (arith, nat_tests)

-- what reaches past them has a byte that is no digit
pub no_digits : (n : ℕ) (l : List ℕ) → digits_length l < n → digits_length l < length l → all_digits (take n l) ≡ false
unfolding digits_length all_digits
no_digits n [] h k = absurd (not-suc-le-zero k)
no_digits zero (b ∷ l) h k = absurd (not-suc-le-zero h)
no_digits (suc n) (b ∷ l) h k = let r = no_digits n l in grind (arith, nat_tests)

-- a text whose digits end its line, and one whose digits do not
module _ (s left : List ℕ) (n : ℕ) (is : n ≡ digits_length s) (after : left ≡ drop n s) where
  line_split : line_length s ≡ n + line_length left
  line_split = rw (after, is) (digits-first s)

  pub line_here : line_length left ≡ 0 → (rest : List ℕ) → rest ≡ drop 1 left → FirstLine s (take n s) rest
  line_here e rest r =
      let q = line_split in
      let k : line_length s ≡ n = omega arith in
      record { line_is = rw k; digits = rw is (digits_alone s); rest_is = rw (r, after, k) (drop-drop 1 n s) }

  pub line_broken : 0 < line_length left → all_digits (take (line_length s) s) ≡ false
  line_broken h =
      let q = line_split in
      let l : line_length left ≤ length left = line_inside left in
      let d : length left ≡ length s - n = rw after (length-drop n s) in
      no_digits (line_length s) s (omega arith) (omega arith)

pub digits_at : (l : List ℕ) (i : ℕ) → all_digits l ≡ true → i < length l → digit (get_or l i 0) < 16
unfolding all_digits
digits_at [] i e h = absurd (not-suc-le-zero h)
digits_at (b ∷ l) zero e h = grind (arith, nat_tests)
digits_at (b ∷ l) (suc i) e h = digits_at l i (grind (arith, nat_tests)) (le_of_suc-le-suc h)

pub bytes_more : (from : ℕ) (l : List ℕ) → suc from < length l →
    bytes_in (drop from l) ≡ (16 * digit (get_or l from 0) + digit (get_or l (suc from) 0)) ∷ bytes_in (drop (suc (suc from)) l)
unfolding bytes_in
bytes_more from l h = rw (drop-cons l from 0 (omega arith), drop-cons l (suc from) 0 h)

pub bytes_end : (from : ℕ) (l : List ℕ) → length l ≤ suc from → bytes_in (drop from l) ≡ []
unfolding bytes_in
bytes_end zero [] h = refl
bytes_end zero (b ∷ []) h = refl
bytes_end zero (b ∷ d ∷ l) h = absurd (omega arith)
bytes_end (suc from) [] h = refl
bytes_end (suc from) (b ∷ l) h = bytes_end from l (omega arith)

pub length_bytes : (l : List ℕ) → length (bytes_in l) ≡ length l / 2
unfolding bytes_in
length_bytes [] = refl
length_bytes (b ∷ []) = refl
length_bytes (b ∷ d ∷ l) = let e : length (bytes_in l) ≡ length l / 2 = length_bytes l in omega arith

-- ---- a frame

kind_of : (line : List ℕ) → 1 < length line → kind line ≡ 16 * digit (get_or line 0 0) + digit (get_or line 1 0)
unfolding numeral
kind_of [] h = absurd (not-suc-le-zero h)
kind_of (a ∷ []) h = absurd (not-suc-le-zero (le_of_suc-le-suc h))
kind_of (a ∷ b ∷ line) h = omega arith

-- a line that is no well-formed frame, by the first test that says so
module _ (last : ℕ) (line : List ℕ) where
  pub no_digit : all_digits line ≡ false → well_formed last line ≡ false
  unfolding well_formed
  no_digit e = rw e

  pub no_kind : length line < 2 → well_formed last line ≡ false
  unfolding well_formed sized numeral all_digits bytes_in
  no_kind h = go line h
    where
      go : (l : List ℕ) → length l < 2 → well_formed last l ≡ false
      go [] h = refl
      go (b ∷ []) h = go1 (all_digits (b ∷ []))
        where
          go1 : (t : Bool) → ((t && false) && sized (kind (b ∷ [])) 0) && follows last (kind (b ∷ [])) ≡ false
          go1 true = refl
          go1 false = refl
      go (b ∷ d ∷ l) h = absurd (omega arith)

  -- and what is left to test of a line of digits
  pub tests_left : all_digits line ≡ true →
      well_formed last line ≡ ((eqb (length line % 2) 0 && sized (kind line) (length (drop 2 line) / 2)) && follows last (kind line))
  unfolding well_formed
  tests_left e = rw (e, length_bytes (drop 2 line))

-- no kind is 0, which says that there is none
pub some_kind : (k : Kind) → kind_number k ≡ 0 → ⊥
some_kind k = elim k as (λ j. kind_number j ≡ 0 → ⊥) [ Numbers ↦ λ z. omega arith | _ ↦ λ z. omega arith ]

-- the kind of a number, and a number that no kind has
its_kind : (n : ℕ) (k : Kind) → kind_numbered n ≡ Ok k → kind_number k ≡ n
its_kind n Numbers e = grind (arith, nat_tests)
its_kind n Section e = grind (arith, nat_tests)
its_kind n Row e = grind (arith, nat_tests)
its_kind n Record e = grind (arith, nat_tests)

pub two_numbers : (k : Kind) (n : ℕ) → k ≡ Numbers → sized (kind_number k) n ≡ true → n ≡ 16
unfolding sized
two_numbers k n e s = eqb-true n 16 (rw e at s)

no_kind_has : (n m : ℕ) (e : Refusal) → kind_numbered n ≡ Err e → (e ≡ BadLine) × (sized n m ≡ false)
unfolding sized
no_kind_has n m e h = (grind (arith, nat_tests), grind (arith, nat_tests))

-- whether a line of digits is a frame, by its kind's number n and how many digits stand after it
module _ (last n : ℕ) (line : List ℕ) (long : 2 ≤ length line) (digits : all_digits line ≡ true)
    (first : n ≡ 16 * digit (get_or line 0 0) + digit (get_or line 1 0)) where
  kind_is : kind line ≡ n
  kind_is = kind_of line long ∙ sym first

  pub bad_kind : (e : Refusal) → kind_numbered n ≡ Err e → (e ≡ BadLine) × (well_formed last line ≡ false)
  bad_kind e h =
      let k = no_kind_has n (length (drop 2 line) / 2) e h in
      (k.0, rw (tests_left last line digits, kind_is, k.1) (none (eqb (length line % 2) 0) (follows last n)))
    where
      none : (a b : Bool) → (a && false) && b ≡ false
      none true b = refl
      none false b = refl

  pub its_frame : (k : Kind) (m : ℕ) → kind_numbered n ≡ Ok k → m ≡ length (drop 2 line) →
      (eqb (m % 2) 0 && follows last (kind_number k)) && sized (kind_number k) (m / 2) ≡ well_formed last line
  its_frame k m h e =
      let d : length (drop 2 line) ≡ length line - 2 = length-drop 2 line in
      let even : m % 2 ≡ length line % 2 = omega arith in
      rw (tests_left last line digits, kind_is, its_kind n k h, even, e) (swapped (eqb (length line % 2) 0) (follows last n) (sized n (length (drop 2 line) / 2)))
    where
      swapped : (a b d : Bool) → (a && b) && d ≡ (a && d) && b
      swapped true true true = refl
      swapped true true false = refl
      swapped true false true = refl
      swapped true false false = refl
      swapped false b d = refl

  pub is_frame : (k : Kind) → kind_numbered n ≡ Ok k → (tail : List ℕ) → tail ≡ drop 2 line →
      true ≡ (eqb (length tail % 2) 0 && follows last (kind_number k)) && sized (kind_number k) (length tail / 2) → IsFrame last line (kind_number k) tail
  is_frame k h tail e t =
      record { formed = sym (t ∙ its_frame k (length tail) h (ap length e)); kind_is = its_kind n k h ∙ sym kind_is; digits_are = e }

-- ---- laying bytes over others

module _ (at : ℕ) (s : List ℕ) where
  pub laid_none : laid at [] s ≡ s
  unfolding laid
  laid_none = rw add-zero (take-append-drop at s)

  pub laid_cons : (b : ℕ) (w : List ℕ) → at < length s → laid at (b ∷ w) s ≡ laid (suc at) w (set s at b)
  unfolding laid
  laid_cons b w h =
      let e : at + suc (length w) ≡ suc at + length w = omega arith in
      rw (e, take-suc-set s at b h, drop-set-lt (suc at + length w) s at b (omega arith), append_assoc)

  module _ (w : List ℕ) (fits : at + length w ≤ length s) where
    pub length-laid : length (laid at w s) ≡ length s
    unfolding laid
    length-laid = simp (length-append, length-drop, length-take-le at s (omega arith)) (omega arith)

    pub take-laid : take (at + length w) (laid at w s) ≡ take at s ++ w
    unfolding laid
    take-laid =
        rw (← append_assoc (take at s) w (drop (at + length w) s))
        (take_at (take at s ++ w) (drop (at + length w) s) (at + length w) (simp (length-append, length-take-le at s (omega arith))))

    pub drop-laid : drop (at + length w) (laid at w s) ≡ drop (at + length w) s
    unfolding laid
    drop-laid =
        rw (← append_assoc (take at s) w (drop (at + length w) s))
        (drop_at (take at s ++ w) (drop (at + length w) s) (at + length w) (simp (length-append, length-take-le at s (omega arith))))

-- laid into the front of what stands from a place on
pub laid_after : (at : ℕ) (w s part : List ℕ) → part ≡ laid 0 w (take (length s - at) (drop at s)) → put_mid at (length s - at) s part ≡ laid at w s
unfolding laid
laid_after at w s part e =
    let d : length (drop at s) ≡ length s - at = length-drop at s in
    let all : take (length s - at) (drop at s) ≡ drop at s = take_all (length s - at) (drop at s) (omega arith) in
    let none : drop (length s - at) (drop at s) ≡ [] = drop_of_length-le (drop at s) {i = length s - at} (omega arith) in
    rw (none, e, all, zero-add, append-nil, drop-drop (length w) at s) refl

pub laid-append : (at : ℕ) (v w s : List ℕ) → at + length v ≤ length s → laid at (v ++ w) s ≡ laid (at + length v) w (laid at v s)
laid-append at [] w s h = rw (add-zero, laid_none)
laid-append at (b ∷ v) w s h =
    let e : at + suc (length v) ≡ suc at + length v = omega arith in
    rw (e, laid_cons at s b (v ++ w) (omega arith), laid_cons at s b v (omega arith))
    (laid-append (suc at) v w (set s at b) (rw length-set (omega arith)))

-- a frame's bytes laid one by one, from the digits that are left
module _ (at from : ℕ) (l s : List ℕ) where
  pub laid_next : (b : ℕ) → from + 1 < length l → at < length s → b ≡ 16 * digit (get_or l from 0) + digit (get_or l (from + 1) 0) →
      laid (at + 1) (bytes_in (drop (from + 2) l)) (set s at b) ≡ laid at (bytes_in (drop from l)) s
  laid_next b h k e =
      let n : from + 2 ≡ suc (suc from) = omega arith in
      rw (add-one at, n, bytes_more from l (omega arith), laid_cons at s (16 * digit (get_or l from 0) + digit (get_or l (suc from) 0)) (bytes_in (drop (suc (suc from)) l)) k, e, add-one from)

  pub laid_done : length l ≤ from + 1 → laid at (bytes_in (drop from l)) s ≡ s
  laid_done h = rw (bytes_end from l (omega arith)) (laid_none at s)

pub laid_whole : (w s : List ℕ) → length w ≡ length s → laid 0 w s ≡ w
unfolding laid
laid_whole w s e =
    let n : drop (0 + length w) s ≡ [] = drop_of_length-le s {i = 0 + length w} (omega arith) in
    rw (n, append-nil w)

-- sixteen digits more
pub bytes_split : (n : ℕ) (l : List ℕ) → n + n ≤ length l → bytes_in l ≡ bytes_in (take (n + n) l) ++ bytes_in (drop (n + n) l)
unfolding bytes_in
bytes_split zero l h = refl
bytes_split (suc n) [] h = absurd (omega arith)
bytes_split (suc n) (a ∷ []) h = absurd (omega arith)
bytes_split (suc n) (a ∷ b ∷ l) h =
    let m : suc n + suc n ≡ suc (suc (n + n)) = omega arith in
    let r : bytes_in l ≡ bytes_in (take (n + n) l) ++ bytes_in (drop (n + n) l) = bytes_split n l (omega arith) in
    rw m (ap (λ (t : List ℕ). (16 * digit a + digit b) ∷ t) r)

digits-taken : (n : ℕ) (l : List ℕ) → all_digits l ≡ true → all_digits (take n l) ≡ true
unfolding all_digits
digits-taken zero l e = refl
digits-taken (suc n) [] e = refl
digits-taken (suc n) (b ∷ l) e = let r = digits-taken n l in grind (arith, nat_tests)

pub digits_left : (at : ℕ) (l : List ℕ) → all_digits l ≡ true → all_digits (drop at l) ≡ true
unfolding all_digits
digits_left zero l e = e
digits_left (suc at) [] e = refl
digits_left (suc at) (b ∷ l) e = digits_left at l (grind (arith, nat_tests))

pub digits_part : (at n : ℕ) (l : List ℕ) → all_digits l ≡ true → all_digits (take n (drop at l)) ≡ true
digits_part at n l e = digits-taken n (drop at l) (digits_left at l e)

-- the i-th of the first k pieces of n
pub piece_is : {X : Type 0} (n k i : ℕ) (l : List X) (d : List X) → i < k → get_or (first_chunks n k l) i d ≡ take n (drop (n * i) l)
piece_is n zero i l d h = absurd (not-suc-le-zero h)
piece_is n (suc k) zero l d h = let e : n * 0 ≡ 0 = omega (arith, mul-zero n) in ap (λ (j : ℕ). take n (drop j l)) (sym e)
piece_is n (suc k) (suc i) l d h =
    let e : n * suc i ≡ n + n * i = omega (arith, mul-suc n i) in
    piece_is n k i (drop n l) d (le_of_suc-le-suc h) ∙ ap (take n) (drop-drop (n * i) n l ∙ ap (λ (j : ℕ). drop j l) (sym e))

-- a whole piece of digits, and its eight bytes laid as a part
module _ (l : List ℕ) (pieces : List (List ℕ)) (cut : pieces ≡ first_chunks 16 (length l / 16) l) (i : ℕ) (here : i < length l / 16) where
  piece : get_or pieces i [] ≡ take 16 (drop (16 * i) l)
  piece = rw cut (piece_is 16 (length l / 16) i l [] here)

  pub piece_digits : all_digits l ≡ true → all_digits (get_or pieces i []) ≡ true
  piece_digits e = rw piece (digits_part (16 * i) 16 l e)

  module _ (at : ℕ) (s w : List ℕ) (fits : at + 8 ≤ length s) (bytes : w ≡ bytes_in (get_or pieces i [])) where
    eight_long : length w ≡ 8
    eight_long = rw (bytes, piece, length_bytes, length-take-le 16 (drop (16 * i) l) (rw length-drop (omega arith))) refl

    part_laid : put_mid at (at + 8 - at) s w ≡ laid at w s
    unfolding laid
    part_laid = let k : at + 8 - at ≡ 8 = omega arith in rw (k, eight_long, drop-drop 8 at s)

    pub length_part : length (put_mid at (at + 8 - at) s w) ≡ length s
    length_part = let n = eight_long in ap length part_laid ∙ length-laid at s w (omega arith)

    pub laid_piece : laid (at + 8) (bytes_in (drop (16 * (i + 1)) l)) (put_mid at (at + 8 - at) s w) ≡ laid at (bytes_in (drop (16 * i) l)) s
    laid_piece =
        let n = eight_long in
        let k : 16 * (i + 1) ≡ 16 * i + 16 = omega arith in
        let some : 16 ≤ length (drop (16 * i) l) = rw length-drop (omega arith) in
        let parts : bytes_in (drop (16 * i) l) ≡ w ++ bytes_in (drop (16 * i + 16) l) = rw (bytes, piece, ← drop-drop 16 (16 * i) l) (bytes_split 8 (drop (16 * i) l) some) in
        rw k (sym (ap (λ (x : List ℕ). laid at x s) parts ∙ laid-append at w (bytes_in (drop (16 * i + 16) l)) s (omega arith) ∙ rw (part_laid, eight_long)))

-- a pair of digits, and its byte laid
module _ (l : List ℕ) (pairs : List (List ℕ)) (cut : pairs ≡ first_chunks 2 (length l / 2) l) (j : ℕ) (here : j < length l / 2) where
  of_pair : (k : ℕ) → k < 2 → get_or (get_or pairs j []) k 0 ≡ get_or l (2 * j + k) 0
  of_pair k less = rw (cut, piece_is 2 (length l / 2) j l [] here, get_or-take 2 (drop (2 * j) l) k 0 less, get_or-drop (2 * j) l k 0)

  pub pair_digits : all_digits l ≡ true → (digit (get_or (get_or pairs j []) 0 0) < 16) × (digit (get_or (get_or pairs j []) 1 0) < 16)
  pair_digits e = (rw (of_pair 0 (omega arith)) (digits_at l (2 * j + 0) e (omega arith)), rw (of_pair 1 (omega arith)) (digits_at l (2 * j + 1) e (omega arith)))

  pub laid_pair : (at b : ℕ) (s : List ℕ) → at < length s → b ≡ 16 * digit (get_or (get_or pairs j []) 0 0) + digit (get_or (get_or pairs j []) 1 0) →
      laid (at + 1) (bytes_in (drop (2 * (j + 1)) l)) (set s at b) ≡ laid at (bytes_in (drop (2 * j) l)) s
  laid_pair at b s fits e =
      let n : 2 * (j + 1) ≡ 2 * j + 2 = omega arith in
      let m : 2 * j + 0 ≡ 2 * j = omega arith in
      rw n (laid_next at (2 * j) l s b (omega arith) fits (e ∙ rw (of_pair 0 (omega arith), of_pair 1 (omega arith), m)))

-- ---- eight bytes as a number, the highest first

abbrev worth : ℕ → List ℕ → ℕ
worth x [] = x
worth x (b ∷ bs) = worth (256 * x + b) bs

numeral_worth : (n x : ℕ) (l : List ℕ) → length l ≡ n + n → numeral x l ≡ worth x (bytes_in l)
unfolding numeral bytes_in
numeral_worth zero x [] h = refl
numeral_worth zero x (a ∷ l) h = absurd (omega arith)
numeral_worth (suc n) x [] h = absurd (omega arith)
numeral_worth (suc n) x (a ∷ []) h = absurd (omega arith)
numeral_worth (suc n) x (a ∷ b ∷ l) h =
    let e : 16 * (16 * x + digit a) + digit b ≡ 256 * x + (16 * digit a + digit b) = omega arith in
    rw e (numeral_worth n (256 * x + (16 * digit a + digit b)) l (omega arith))

eight_worth : (l : List ℕ) → length l ≡ 8 → from_be_bytes w64 l ≡ worth 0 l
eight_worth (a ∷ b ∷ c ∷ d ∷ e ∷ f ∷ g ∷ h ∷ []) n = omega arith
eight_worth l n = absurd (omega arith)

pub number_of : (l : List ℕ) → length l ≡ 16 → from_be_bytes w64 (bytes_in l) ≡ numeral 0 l
number_of l h = eight_worth (bytes_in l) (rw (length_bytes, h) refl) ∙ sym (numeral_worth 8 0 l h)

-- ---- what the functions' goals ask, by function

-- `eight`
pub ruleset eight_bytes = (laid_whole, length_bytes, laid_done)
