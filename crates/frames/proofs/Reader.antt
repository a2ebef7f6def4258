-- Reading, line by line, over plain numbers and lists: a frame's parts, what a line decides, and what holds between two lines.
use Prim.Native.Nat.{ℕ, suc, ◌+◌, ◌-◌, ◌/◌, ◌%◌, ◌≤◌, ◌<◌}
use native.Mathlib.Numerals.{add-one}
use native.Mathlib.Omega.{arith}
use mathlib.Core.Bool.{Bool, true, false, cond, ◌&&◌, false≢true}
use mathlib.Core.List.{List, [], ◌∷◌, ◌++◌}
use mathlib.Core.Path.{◌≡◌, refl, sym, ap, ◌∙◌}
use borrow.Author.Tests.{ne_eqb, eqb-true, leb-true, ltb-false}
use Rattle.std.specs.Prelude.{Option, Some, None, Result}
use Rattle.std.proofs.lemmas.Bool.Decides.{nat_tests}
use lib.Dec.{eqb, ltb, leb}
use lib.ListN.{length, take, drop, length-append, length-drop}
use lib.Seq.{drop-drop, length-take-le, take_all}
use Rattle.meaning.specs.Call.{card64, row_bytes}
use Rattle.meaning.specs.Checks.{answer, first, section_limit, values_limit}
use Rattle.meaning.specs.Frames.{lines_of, all_digits, hexadecimal, numeral, kind, body, bytes_in, sized, follows, well_formed}
use Rattle.meaning.specs.Frames.{Input, Reading, added, of_line, reading, reading_of}
use Rattle.frames.specs.declared.Gathered.{Gathered}
use Rattle.frames.specs.declared.Fault.{Fault}
use Rattle.frames.specs.Text.{line_length, FirstLine, IsFrame, laid}
use Rattle.frames.specs.Gathered.{input_in, gathered_in, reading_in, Filled, Within, over_in, own, gathered_with}
use Rattle.frames.proofs.Laws.{both, first-line, length_bytes, length-laid, take-laid, drop-laid, no_digit}

-- ---- a well-formed frame

-- how many bytes a frame of each kind has
pub data Sizes (k n : ℕ) : Type 0 where
  one : k ≡ 1 → n ≡ 16 → Sizes k n
  two : k ≡ 2 → 1 ≤ n → n ≤ 64 → Sizes k n
  three : k ≡ 3 → n ≡ row_bytes → Sizes k n
  four : k ≡ 4 → n ≡ card64.record_bytes → Sizes k n

pub sizes : (k n : ℕ) → sized k n ≡ true → Sizes k n
unfolding sized
sizes k n e = go1 (eqb k 1) (eqb k 2) (eqb k 3) (eqb k 4) refl refl refl refl e
  where
    go1 : (a b d f : Bool) → eqb k 1 ≡ a → eqb k 2 ≡ b → eqb k 3 ≡ d → eqb k 4 ≡ f →
        cond a (eqb n 16) (cond b (leb 1 n && leb n 64) (cond d (eqb n row_bytes) (cond f (eqb n card64.record_bytes) false))) ≡ true → Sizes k n
    go1 true b d f p q r s e = one (eqb-true k 1 p) (eqb-true n 16 e)
    go1 false true d f p q r s e =
        let h = both (leb 1 n) (leb n 64) e in
        two (eqb-true k 2 q) (leb-true 1 n h.0) (leb-true n 64 h.1)
    go1 false false true f p q r s e = three (eqb-true k 3 r) (eqb-true n row_bytes e)
    go1 false false false true p q r s e = four (eqb-true k 4 s) (eqb-true n card64.record_bytes e)
    go1 false false false false p q r s e = absurd (false≢true e)

-- what that says in numbers
pub record Bounds (k n : ℕ) : Type 0 where
  pub some : 1 ≤ n
  pub few : n ≤ 64
  pub least : 1 ≤ k
  pub most : k ≤ 4
  pub numbers : k ≡ 1 → n ≡ 16

pub bounds : {k n : ℕ} → Sizes k n → Bounds k n
bounds (one p q) = record { some = omega arith; few = omega arith; least = omega arith; most = omega arith; numbers = λ e. q }
bounds (two p q r) = record { some = q; few = r; least = omega arith; most = omega arith; numbers = λ e. omega arith }
bounds (three p q) = record { some = omega arith; few = omega arith; least = omega arith; most = omega arith; numbers = λ e. omega arith }
bounds (four p q) = record { some = omega arith; few = omega arith; least = omega arith; most = omega arith; numbers = λ e. omega arith }

-- the last kind is no greater, and 01 comes first
in_order : (last k : ℕ) → follows last k ≡ true → (last ≤ k) × (k ≡ 1 → last ≡ 0)
unfolding follows
in_order last k e = (grind (arith, nat_tests), λ one. grind (arith, nat_tests))

pub record Frame (last : ℕ) (line : List ℕ) (k : ℕ) : Type 0 where
  pub even : length line % 2 ≡ 0
  pub size : Sizes k (length (drop 2 line) / 2)
  pub rising : last ≤ k
  pub first : k ≡ 1 → last ≡ 0

pub frame : (last : ℕ) (line : List ℕ) → well_formed last line ≡ true → Frame last line (kind line)
unfolding well_formed
frame last line e =
    let h = both (hexadecimal line && sized (kind line) (length (body line))) (follows last (kind line)) e in
    let q = both (hexadecimal line) (sized (kind line) (length (body line))) h.0 in
    let p = both (all_digits line) (eqb (length line % 2) 0) q.0 in
    let o = in_order last (kind line) h.1 in
    record {
      even = eqb-true (length line % 2) 0 p.1;
      size = rw length_bytes at (sizes (kind line) (length (body line)) q.1);
      rising = o.0;
      first = o.1;
    }

-- each frame but the first adds a byte, so the kind and the bytes so far bound the number of lines
one_more : (last k n : ℕ) → Sizes k n → last ≤ k → (k ≡ 1 → last ≡ 0) → (lines s v q : ℕ) → lines ≤ last + (s + v + q) →
    lines + 1 ≤ k + (s + cond (eqb k 2) n 0 + (v + cond (eqb k 3) n 0) + (q + cond (eqb k 4) n 0))
one_more last k n (one p z) r f lines s v q h = let e = f p in rw p (omega arith)
one_more last k n (two p z m) r f lines s v q h = let e : last ≤ 2 = rw p at r in rw p (omega arith)
one_more last k n (three p z) r f lines s v q h = let e : last ≤ 3 = rw p at r in rw p (omega arith)
one_more last k n (four p z) r f lines s v q h = let e : last ≤ 4 = rw p at r in rw p (omega arith)

-- ---- what a line decides

-- a frame is refused where it takes a buffer past its limit, and otherwise the lines after it decide
abbrev pub unless : Option ℕ → Input → Reading → Reading
unless None got rest = rest
unless (Some place) got rest = record { refusal = answer 1 place; input = got }

module _ (i last : ℕ) (line : List ℕ) (got : Input) (ls : List (List ℕ)) where
  pub bad_line : well_formed last line ≡ false → reading i last got (line ∷ ls) ≡ record { refusal = answer 17 i; input = got }
  unfolding reading of_line first
  bad_line e = rw e

  -- the place of the buffer that the line would take past its limit
  abbrev pub past : Option ℕ
  past = let a = added line got in over_in (length a.section) (length a.values) (length a.records)

  pub good_line : well_formed last line ≡ true → reading i last got (line ∷ ls) ≡ unless past got (reading (suc i) (kind line) (added line got) ls)
  unfolding reading of_line first
  good_line e = let a = added line got in rw e (go (ltb section_limit (length a.section)) (ltb card64.records_limit (length a.records)) (ltb values_limit (length a.values)))
    where
      go : (x y z : Bool) →
          let o : Option ℕ = cond x (Some 0) (cond y (Some 1) (cond z (Some 2) None)) in
          let r = reading (suc i) (kind line) (added line got) ls in
          let a = cond x (answer 1 0) (cond y (answer 1 1) (cond z (answer 1 2) (answer 0 0))) in
          cond (eqb a.number 0) r (record { refusal = a; input = got }) ≡ unless o got r
      go true y z = refl
      go false true z = refl
      go false false true = refl
      go false false false = refl

alike : {i j k l : ℕ} {x y : Input} (ls : List (List ℕ)) → i ≡ j → k ≡ l → x ≡ y → reading i k x ls ≡ reading j l y ls
alike ls e f g = rw (e, f, g)

-- ---- a buffer that a frame adds to

-- how many bytes a frame has for a buffer
pub length-own : (k mine : ℕ) (digits : List ℕ) → length (own k mine digits) ≡ cond (eqb k mine) (length digits / 2) 0
length-own k mine digits = go (eqb k mine)
  where
    go : (b : Bool) → length (cond b (bytes_in digits) []) ≡ cond b (length digits / 2) 0
    go true = length_bytes digits
    go false = refl

-- how long a buffer's part is with them
pub length-with : (limit n : ℕ) (came is : List ℕ) (k mine m : ℕ) (digits : List ℕ) → Filled limit n came is →
    m ≡ n + cond (eqb k mine) (length digits / 2) 0 → length (take n is ++ own k mine digits) ≡ m
length-with limit n came is k mine m digits f e =
    let h = f.whole in
    let j = f.within in
    let t : length (take n is) ≡ n = length-take-le n is (omega arith) in
    let o : length (own k mine digits) ≡ cond (eqb k mine) (length digits / 2) 0 = length-own k mine digits in
    length-append (take n is) (own k mine digits) ∙ ap (λ (x : ℕ). x + length (own k mine digits)) t ∙ ap (λ (x : ℕ). n + x) o ∙ sym e

module _ (limit n : ℕ) (came is w next : List ℕ) (f : Filled limit n came is) (m : ℕ) (counted : m ≡ n + length w) (fits : m ≤ limit)
    (e : next ≡ laid n w is) where
  room : n + length w ≤ length is
  room = let h = f.whole in omega arith

  pub filled_more : Filled limit m came next
  filled_more =
      rw (e, counted)
      (record {
        whole = length-laid n is w room ∙ f.whole;
        within = omega arith;
        kept = drop-laid n is w room ∙ sym (drop-drop (length w) n is) ∙ ap (drop (length w)) f.kept ∙ drop-drop (length w) n came;
      })

  pub taken_more : take m next ≡ take n is ++ w
  taken_more = rw (e, counted) (take-laid n is w room)

pub within : (a b d : ℕ) → over_in a b d ≡ None → Within a b d
within a b d e = go (ltb section_limit a) (ltb card64.records_limit d) (ltb values_limit b) refl refl refl e
  where
    go : (x y z : Bool) → ltb section_limit a ≡ x → ltb card64.records_limit d ≡ y → ltb values_limit b ≡ z →
        cond {A = Option ℕ} x (Some 0) (cond y (Some 1) (cond z (Some 2) None)) ≡ None → Within a b d
    go true y z p q r h = cc
    go false true z p q r h = cc
    go false false true p q r h = cc
    go false false false p q r h =
        record { section = ltb-false section_limit a p; values = ltb-false values_limit b r; records = ltb-false card64.records_limit d q }

-- ---- between two lines

pub record State (input s₀ v₀ q₀ s v q : List ℕ) (got : Gathered) (last lines : ℕ) (left : List ℕ) : Type 0 where
  pub same : reading lines last (input_in got s v q) (lines_of left) ≡ reading_of input
  pub section : Filled section_limit got.section s₀ s
  pub values : Filled values_limit got.values v₀ v
  pub records : Filled card64.records_limit got.records q₀ q
  pub few : lines ≤ last + (got.section + got.values + got.records)
  pub kinds : last ≤ 4

-- what reading answers
pub record Answered (input s₀ v₀ q₀ s v q : List ℕ) (r : Result Gathered Fault) : Type 0 where
  pub is : reading_in r s v q ≡ reading_of input
  pub section : Filled section_limit (gathered_in r).section s₀ s
  pub values : Filled values_limit (gathered_in r).values v₀ v
  pub records : Filled card64.records_limit (gathered_in r).records q₀ q

module _ {input s₀ v₀ q₀ s v q left : List ℕ} {got : Gathered} {last lines : ℕ} (now : State input s₀ v₀ q₀ s v q got last lines left) where
  -- after the last line
  module _ (none : left ≡ []) where
    pub ended : (last ≡ 0 → ⊥) → record { refusal = answer 0 0; input = input_in got s v q } ≡ reading_of input
    unfolding reading first lines_of
    ended k = rw (none, ne_eqb last 0 k) at now.same

    pub nothing_read : last ≡ 0 → record { refusal = answer 17 lines; input = input_in got s v q } ≡ reading_of input
    unfolding reading first lines_of
    nothing_read k = rw (none, k) at now.same

  module _ (some : 0 < length left) where
    from_line : reading lines last (input_in got s v q) (take (line_length left) left ∷ lines_of (drop (line_length left + 1) left)) ≡ reading_of input
    from_line = rw (add-one (line_length left), ← first-line left some) now.same

    -- a line that is no frame
    pub bad_here : well_formed last (take (line_length left) left) ≡ false → record { refusal = answer 17 lines; input = input_in got s v q } ≡ reading_of input
    bad_here e = sym (bad_line lines last (take (line_length left) left) (input_in got s v q) (lines_of (drop (line_length left + 1) left)) e) ∙ from_line

    pub broken_here : all_digits (take (line_length left) left) ≡ false → record { refusal = answer 17 lines; input = input_in got s v q } ≡ reading_of input
    broken_here e = bad_here (no_digit last (take (line_length left) left) e)

    module _ (line rest : List ℕ) (here : FirstLine left line rest) (k : ℕ) (digits : List ℕ) (f : IsFrame last line k digits) where
      its : Frame last line k
      its = rw f.kind_is (frame last line f.formed)

      size : Sizes k (length digits / 2)
      size = rw f.digits_are its.size

      abbrev pub more : Gathered
      more = gathered_with k digits got

      past_is : past lines last line (input_in got s v q) (lines_of rest) ≡ over_in more.section more.values more.records
      past_is =
          rw (
            ← f.kind_is,
            ← f.digits_are,
            length-with section_limit got.section s₀ s k 2 more.section digits now.section refl,
            length-with values_limit got.values v₀ v k 3 more.values digits now.values refl,
            length-with card64.records_limit got.records q₀ q k 4 more.records digits now.records refl,
          )

      decided : unless (over_in more.section more.values more.records) (input_in got s v q) (reading (suc lines) (kind line) (added line (input_in got s v q)) (lines_of rest)) ≡ reading_of input
      decided = rw (← past_is) (sym (good_line lines last line (input_in got s v q) (lines_of rest) f.formed) ∙ rw (here.line_is, here.rest_is) from_line)

      module _ (over : Option ℕ) (judged : over ≡ over_in more.section more.values more.records) where
        pub past_here : (place : ℕ) → over ≡ Some place → record { refusal = answer 1 place; input = input_in got s v q } ≡ reading_of input
        past_here place e = rw (← judged, e) at decided

        -- the state after the line
        module _ (fits : over ≡ None) {r : Gathered} {s' v' q' : List ℕ} (gathers : r ≡ more) (lays-section : s' ≡ laid got.section (own k 2 digits) s)
            (lays-values : v' ≡ laid got.values (own k 3 digits) v) (lays-records : q' ≡ laid got.records (own k 4 digits) q) where
          inside : Within more.section more.values more.records
          inside = within more.section more.values more.records (sym judged ∙ fits)

          counted : (n mine : ℕ) → n + cond (eqb k mine) (length digits / 2) 0 ≡ n + length (own k mine digits)
          counted n mine = ap (λ (x : ℕ). n + x) (sym (length-own k mine digits))

          -- the second number's digits are all that is left
          second : cond (eqb k 1) (numeral 0 (drop 18 line)) got.gp ≡ more.gp
          second = go (eqb k 1) refl
            where
              go : (t : Bool) → eqb k 1 ≡ t → cond t (numeral 0 (drop 18 line)) got.gp ≡ cond t (numeral 0 (take 16 (drop 16 digits))) got.gp
              go true e =
                  let n : length digits / 2 ≡ 16 = (bounds size).numbers (eqb-true k 1 e) in
                  let v = its.even in
                  let d : length digits ≡ length line - 2 = rw f.digits_are (length-drop 2 line) in
                  let l : length (drop 18 line) ≡ length line - 18 = length-drop 18 line in
                  rw (f.digits_are, drop-drop 16 2 line, take_all 16 (drop 18 line) (omega arith)) refl
              go false e = refl

          now_added : added line (input_in got s v q) ≡ input_in more s' v' q'
          now_added =
              rw (
                ← f.kind_is,
                second,
                ← f.digits_are,
                taken_more section_limit got.section s₀ s (own k 2 digits) s' now.section more.section (counted got.section 2) inside.section lays-section,
                taken_more values_limit got.values v₀ v (own k 3 digits) v' now.values more.values (counted got.values 3) inside.values lays-values,
                taken_more card64.records_limit got.records q₀ q (own k 4 digits) q' now.records more.records (counted got.records 4) inside.records lays-records,
              )

          pub next : State input s₀ v₀ q₀ s' v' q' r k (lines + 1) rest
          next =
              let going : reading (suc lines) (kind line) (added line (input_in got s v q)) (lines_of rest) ≡ reading_of input = rw (← judged, fits) at decided in
              rw gathers
              (record {
                same = alike (lines_of rest) (add-one lines) f.kind_is (sym now_added) ∙ going;
                section = filled_more section_limit got.section s₀ s (own k 2 digits) s' now.section more.section (counted got.section 2) inside.section lays-section;
                values = filled_more values_limit got.values v₀ v (own k 3 digits) v' now.values more.values (counted got.values 3) inside.values lays-values;
                records = filled_more card64.records_limit got.records q₀ q (own k 4 digits) q' now.records more.records (counted got.records 4) inside.records lays-records;
                few = one_more last k (length digits / 2) size its.rising its.first lines got.section got.values got.records now.few;
                kinds = (bounds size).most;
              })
