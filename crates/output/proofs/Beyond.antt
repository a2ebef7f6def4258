-- An input's first bytes decide its output, so many as `input_bytes` says: no good line begins after those of the longest good input, and no
-- line that is longer than the longest is a frame.
use Prim.Native.Nat.{ℕ, zero, suc, ◌+◌, ◌-◌, ◌*◌, ◌/◌, ◌≤◌, ◌<◌}
use native.Mathlib.Nat.{not-suc-le-zero, le_of_suc-le-suc}
use native.Mathlib.Omega.{arith}
use mathlib.Core.Bool.{Bool, true, false, cond}
use mathlib.Core.List.{List, [], ◌∷◌, ◌++◌}
use mathlib.Core.Logic.{◌⊎◌, inl, inr, ⊎_elim}
use mathlib.Core.Path.{◌≡◌, refl, sym, ap, ◌∙◌}
use Rattle.std.specs.Prelude.{Option, Some, None}
use borrow.Author.Tests.{ltb-true, ltb-false}
use lib.Dec.{eqb, ltb}
use lib.ListN.{length, take, drop, length-append, length-drop}
use lib.Seq.{take-nil, take-take, length-take-le}
use Rattle.meaning.specs.Call.{card64, row_bytes}
use Rattle.meaning.specs.Checks.{answer, section_limit, values_limit}
use Rattle.meaning.specs.Frames.{lines_of, kind, body, well_formed, Input, nothing, added, reading, reading_of, output_for, output_of}
use Rattle.frames.specs.Text.{line_length}
use Rattle.frames.specs.Gathered.{Within}
use Rattle.frames.proofs.Laws.{first-line, line_inside}
use Rattle.frames.proofs.Reader.{Sizes, one, two, three, four, bounds, Frame, frame, past, unless, bad_line, good_line, length-own, within}
use Rattle.output.specs.Text.{line_of, too_long, input_bytes}

-- ---- the first line of a part

line_in_part : (n : ℕ) (s : List ℕ) → line_length s < n → line_length (take n s) ≡ line_length s
unfolding line_length
line_in_part n [] h = ap line_length (take-nil {A = ℕ} n)
line_in_part zero (b ∷ s) h = absurd (not-suc-le-zero h)
line_in_part (suc n) (b ∷ s) h = go (eqb b 10) h (line_in_part n s)
  where
    go : (t : Bool) → cond t 0 (suc (line_length s)) < suc n → (line_length s < n → line_length (take n s) ≡ line_length s) →
        cond t 0 (suc (line_length (take n s))) ≡ cond t 0 (suc (line_length s))
    go true h rest = refl
    go false h rest = ap suc (rest (le_of_suc-le-suc h))

long_in_part : (m n : ℕ) (s : List ℕ) → m ≤ line_length s → m ≤ n → m ≤ line_length (take n s)
unfolding line_length
long_in_part zero n s h k = omega arith
long_in_part (suc m) n [] h k = absurd (not-suc-le-zero h)
long_in_part (suc m) zero (b ∷ s) h k = absurd (not-suc-le-zero k)
long_in_part (suc m) (suc n) (b ∷ s) h k = go (eqb b 10) h (long_in_part m n s)
  where
    go : (t : Bool) → suc m ≤ cond t 0 (suc (line_length s)) → (m ≤ line_length s → m ≤ n → m ≤ line_length (take n s)) →
        suc m ≤ cond t 0 (suc (line_length (take n s)))
    go true h rest = absurd (not-suc-le-zero h)
    go false h rest = let r : m ≤ line_length (take n s) = rest (le_of_suc-le-suc h) (le_of_suc-le-suc k) in omega arith

drop_of_take : (k n : ℕ) (s : List ℕ) → drop k (take n s) ≡ take (n - k) (drop k s)
drop_of_take zero n s = let e : n - 0 ≡ n = omega arith in rw e
drop_of_take (suc k) n [] = ap (drop (suc k)) (take-nil {A = ℕ} n) ∙ sym (take-nil {A = ℕ} (n - suc k))
drop_of_take (suc k) zero (b ∷ s) = let e : 0 - suc k ≡ 0 = omega arith in rw e
drop_of_take (suc k) (suc n) (b ∷ s) = let e : suc n - suc k ≡ n - k = omega arith in rw e (drop_of_take k n s)

-- no line that is too long is a frame
too_long_lem : (last : ℕ) (line : List ℕ) → too_long ≤ length line → well_formed last line ≡ false
too_long_lem last line h = go (well_formed last line) refl
  where
    go : (t : Bool) → well_formed last line ≡ t → t ≡ false
    go true e = let b = bounds (frame last line e).size in absurd (omega (arith, length-drop 2 line))
    go false e = refl

-- ---- what good lines may still come

-- With x, y and z bytes read: room for a bytes of section, b rows and d records, and for the 01 line where none came, in n bytes.
pub record Room (last x y z a b d n : ℕ) : Type 0 where
  pub section : x + a ≡ section_limit
  pub values : y + row_bytes * b ≡ values_limit
  pub records : z + card64.record_bytes * d ≡ card64.records_limit
  pub enough : cond (eqb last 0) (line_of 16) 0 + line_of 1 * a + line_of row_bytes * b + line_of card64.record_bytes * d + too_long ≤ n

-- a frame of m bytes, in a line of u digits, takes its own room
room_after : (last k u m x y z x' y' z' a b d n : ℕ) → Sizes k m → (k ≡ 1 → last ≡ 0) → u ≡ 2 * m + 2 →
    x' ≡ x + cond (eqb k 2) m 0 → y' ≡ y + cond (eqb k 3) m 0 → z' ≡ z + cond (eqb k 4) m 0 → Within x' y' z' → Room last x y z a b d n →
    Room k x' y' z' (a - cond (eqb k 2) m 0) (b - cond (eqb k 3) 1 0) (d - cond (eqb k 4) 1 0) (n - suc u)
room_after last k u m x y z x' y' z' a b d n (one p q) f l e₁ e₂ e₃ w r =
    let zero_last : last ≡ 0 = f p in
    let h = rw zero_last at r.enough in
    let e₁ : x' ≡ x + 0 = rw p at e₁ in
    let e₂ : y' ≡ y + 0 = rw p at e₂ in
    let e₃ : z' ≡ z + 0 = rw p at e₃ in
    let r₁ = r.section in
    let r₂ = r.values in
    let r₃ = r.records in
    rw p (record { section = omega arith; values = omega arith; records = omega arith; enough = omega arith })
room_after last k u m x y z x' y' z' a b d n (two p q t) f l e₁ e₂ e₃ w r =
    let h = r.enough in
    let e₁ : x' ≡ x + m = rw p at e₁ in
    let e₂ : y' ≡ y + 0 = rw p at e₂ in
    let e₃ : z' ≡ z + 0 = rw p at e₃ in
    let r₁ = r.section in
    let r₂ = r.values in
    let r₃ = r.records in
    let w₁ = w.section in
    rw p (record { section = omega arith; values = omega arith; records = omega arith; enough = omega arith })
room_after last k u m x y z x' y' z' a b d n (three p q) f l e₁ e₂ e₃ w r =
    let h = r.enough in
    let e₁ : x' ≡ x + 0 = rw p at e₁ in
    let e₂ : y' ≡ y + m = rw p at e₂ in
    let e₃ : z' ≡ z + 0 = rw p at e₃ in
    let r₁ = r.section in
    let r₂ = r.values in
    let r₃ = r.records in
    let w₂ = w.values in
    rw p (record { section = omega arith; values = omega arith; records = omega arith; enough = omega arith })
room_after last k u m x y z x' y' z' a b d n (four p q) f l e₁ e₂ e₃ w r =
    let h = r.enough in
    let e₁ : x' ≡ x + 0 = rw p at e₁ in
    let e₂ : y' ≡ y + 0 = rw p at e₂ in
    let e₃ : z' ≡ z + m = rw p at e₃ in
    let r₁ = r.section in
    let r₂ = r.values in
    let r₃ = r.records in
    let w₃ = w.records in
    rw p (record { section = omega arith; values = omega arith; records = omega arith; enough = omega arith })

-- ---- the part reads as the whole

abbrev InRoom : ℕ → Input → ℕ → ℕ → ℕ → ℕ → Type 0
InRoom last got a b d n = Room last (length got.section) (length got.values) (length got.records) a b d n

-- a line that is long in both is bad in both
both_long : (s t : List ℕ) (i last : ℕ) (got : Input) → too_long ≤ line_length s → too_long ≤ line_length t →
    reading i last got (lines_of s) ≡ reading i last got (lines_of t)
both_long s t i last got h k = stops s h ∙ sym (stops t k)
  where
    stops : (l : List ℕ) → too_long ≤ line_length l → reading i last got (lines_of l) ≡ record { refusal = answer 17 i; input = got }
    stops l h =
        let inside : line_length l ≤ length l = line_inside l in
        let n : length (take (line_length l) l) ≡ line_length l = length-take-le (line_length l) l inside in
        rw (first-line l (omega arith))
        (bad_line i last (take (line_length l) l) got (lines_of (drop (suc (line_length l)) l)) (too_long_lem last (take (line_length l) l) (omega arith)))

-- a line that is in the part: what comes after it decides
after_line : (line : List ℕ) (ls ms : List (List ℕ)) (i last : ℕ) (got : Input) →
    (Frame last line (kind line) → past i last line got ls ≡ None → reading (suc i) (kind line) (added line got) ls ≡ reading (suc i) (kind line) (added line got) ms) →
    reading i last got (line ∷ ls) ≡ reading i last got (line ∷ ms)
after_line line ls ms i last got rest = go (well_formed last line) refl
  where
    then : (o : Option ℕ) → o ≡ past i last line got ls → Frame last line (kind line) →
        unless o got (reading (suc i) (kind line) (added line got) ls) ≡ unless o got (reading (suc i) (kind line) (added line got) ms)
    then (Some place) q f = refl
    then None q f = rest f (sym q)

    go : (t : Bool) → well_formed last line ≡ t → reading i last got (line ∷ ls) ≡ reading i last got (line ∷ ms)
    go true e =
        good_line i last line got ls e
        ∙ then (past i last line got ls) refl (frame last line e)
        ∙ sym (good_line i last line got ms e)
    go false e = bad_line i last line got ls e ∙ sym (bad_line i last line got ms e)

some_taken : (n : ℕ) (s : List ℕ) → 0 < n → 0 < length s → 0 < length (take n s)
some_taken zero s h k = absurd (not-suc-le-zero h)
some_taken (suc n) [] h k = absurd (not-suc-le-zero k)
some_taken (suc n) (b ∷ s) h k = omega arith

abbrev Same : List ℕ → ℕ → ℕ → ℕ → Input → Type 0
Same s n i last got = reading i last got (lines_of (take n s)) ≡ reading i last got (lines_of s)

-- the first line of the part is that of the whole, where it ends in the part
part_line : (n : ℕ) (s : List ℕ) → 0 < length s → line_length s < n →
    lines_of (take n s) ≡ take (line_length s) s ∷ lines_of (take (n - suc (line_length s)) (drop (suc (line_length s)) s))
part_line n s h k =
    let e : line_length (take n s) ≡ line_length s = line_in_part n s k in
    first-line (take n s) (some_taken n s (omega arith) h)
    ∙ rw (e, take-take (line_length s) n s (omega arith), drop_of_take (suc (line_length s)) n s)

module _ (s : List ℕ) (n i last : ℕ) (got : Input) (a b d : ℕ) (some : 0 < length s) (r : InRoom last got a b d n)
    (rest : (t : List ℕ) (m j k : ℕ) (with : Input) (a b d : ℕ) → length t < length s → InRoom k with a b d m → Same t m j k with) where
  abbrev u : ℕ
  u = line_length s

  abbrev line : List ℕ
  line = take u s

  digits-many : length line ≡ u
  digits-many = length-take-le u s (line_inside s)

  more_room : (f : Frame last line (kind line)) → past i last line got [] ≡ None →
      InRoom (kind line) (added line got)
      (a - cond (eqb (kind line) 2) (length (drop 2 line) / 2) 0) (b - cond (eqb (kind line) 3) 1 0) (d - cond (eqb (kind line) 4) 1 0) (n - suc u)
  more_room f o =
      let z = bounds f.size in
      let v = f.even in
      room_after last (kind line) u (length (drop 2 line) / 2) _ _ _ _ _ _ a b d n f.size f.first (omega (arith, digits-many, length-drop 2 line))
      (grown got.section 2) (grown got.values 3) (grown got.records 4) (within _ _ _ o) r
    where
      grown : (l : List ℕ) (mine : ℕ) →
          length (l ++ cond (eqb (kind line) mine) (body line) []) ≡ length l + cond (eqb (kind line) mine) (length (drop 2 line) / 2) 0
      grown l mine = length-append l (cond (eqb (kind line) mine) (body line) []) ∙ ap (λ (x : ℕ). length l + x) (length-own (kind line) mine (drop 2 line))

  step : Same s n i last got
  step = go (ltb u too_long) refl
    where
      go : (t : Bool) → ltb u too_long ≡ t → Same s n i last got
      go true e =
          let short : u < too_long = ltb-true u too_long e in
          let h = r.enough in
          rw (part_line n s some (omega arith), first-line s some)
          (after_line line (lines_of (take (n - suc u) (drop (suc u) s))) (lines_of (drop (suc u) s)) i last got
          (λ f o. rest (drop (suc u) s) (n - suc u) (suc i) (kind line) (added line got) _ _ _ (rw length-drop (omega arith)) (more_room f o)))
      go false e =
          let long : too_long ≤ u = ltb-false u too_long e in
          let h = r.enough in
          both_long (take n s) s i last got (long_in_part too_long n s long (omega arith)) long

none_left : (s : List ℕ) (n i last : ℕ) (got : Input) → length s ≤ 0 → Same s n i last got
none_left [] n i last got h = ap (λ (l : List ℕ). reading i last got (lines_of l)) (take-nil {A = ℕ} n)
none_left (x ∷ s) n i last got h = absurd (not-suc-le-zero h)

any_left : (s : List ℕ) → (length s ≤ 0) ⊎ (0 < length s)
any_left [] = inl (omega arith)
any_left (x ∷ s) = inr (omega arith)

part_reads : (f : ℕ) (s : List ℕ) (n i last : ℕ) (got : Input) (a b d : ℕ) → length s ≤ f → InRoom last got a b d n → Same s n i last got
part_reads zero s n i last got a b d h r = none_left s n i last got h
part_reads (suc f) s n i last got a b d h r =
    ⊎_elim (λ e. none_left s n i last got e)
    (λ e. step s n i last got a b d e r (λ t m j k with a b d l r. part_reads f t m j k with a b d (omega arith) r)) (any_left s)

-- ---- the law

pub beyond : (s : List ℕ) (n : ℕ) → input_bytes ≤ n → reading_of (take n s) ≡ reading_of s
beyond s n h =
    part_reads (length s) s n 0 0 nothing section_limit (values_limit / row_bytes) (card64.records_limit / card64.record_bytes) (omega arith)
    (record { section = refl; values = refl; records = refl; enough = omega arith })

pub beyond_no_matter : (s : List ℕ) (n : ℕ) → input_bytes ≤ n → output_of (take n s) ≡ output_of s
beyond_no_matter s n h = ap output_for (beyond s n h)
