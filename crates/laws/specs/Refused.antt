-- Which check refused a call: 14 is a value above its range and 18 one below, and a refused record's offset is the one in its bytes.
use Prim.Native.Nat.{ℕ, suc, ◌+◌, ◌/◌, ◌<◌}
use Rattle.std.proofs.Math.Nat.{add-zero}
use Rattle.std.proofs.Common.{zero-add, arith, inl, inr, ◌∙◌, T_not, length-append, take-append-drop, drop-cons}
use Rattle.std.proofs.Math.Numerals.{add-one}
use Rattle.std.specs.Prelude.{Bool, true, false, cond, not, ◌&&◌, ◌||◌, ◌↔◌, ◌⊎◌, ◌≡◌, eqb, leb, ℤ, get_or}
use mathlib.Core.List.{List, [], ◌∷◌, ◌++◌, append_assoc}
use Rattle.std.proofs.Math.Logic.{⊎_elim}
use Rattle.std.proofs.Math.Path.{refl, sym, ap, subst, subst⁻¹}
use Rattle.std.proofs.Math.Dec.{T}
use Rattle.std.proofs.Math.ListN.{length, take, drop, get_or-map}
use Rattle.std.proofs.Math.Seq.{get_or-append_seam}
use Rattle.meaning.specs.Numbers.{pieces}
use Rattle.meaning.specs.Table.{Semantics, Accepted}
use Rattle.meaning.specs.Call.{Setting, Call, Record, does, offset_in, record_of, records_of, rows_of}
use Rattle.meaning.specs.Stack.{Stack, after}
use Rattle.meaning.specs.Checks.{Answer, answer, answer_at, Check, check, check_of, first, of_word, above, below, of_record, of_records, of_masks, checks}
use Rattle.meaning.specs.Patch.{answer_of}
use Rattle.meaning.specs.Order.{run}
use Rattle.lemmas.specs.Look.{both, differ}
use Rattle.lemmas.specs.Passed.{placed}
use Rattle.lemmas.specs.Pieces.{piece, piece-at, length_records}
use Rattle.laws.specs.First.{Every, Passes, nth, every_append, FailsFirst, refused_by_the_first}
use Rattle.laws.specs.ReadBack.{value}

-- ---- the first that fails

-- after checks that pass
passing : (ls : List Check) {ks : List Check} {k : Check} → Every Passes ls → FailsFirst ks k → FailsFirst (ls ++ ks) k
passing ls {ks} {k} p f =
    record {
      earlier = ls ++ f.earlier;
      later = f.later;
      in_order = ap (λ (l : List Check). ls ++ l) f.in_order ∙ sym (append_assoc ls f.earlier (k ∷ f.later));
      pass = every_append Passes ls f.earlier p f.pass;
      fails = f.fails;
    }

-- ---- by its number

-- No check of a list has the number n.
abbrev without : ℕ → List Check → Bool
without n [] = true
without n (k ∷ ks) = not (eqb k.refusal.number n) && without n ks

-- What answers n then comes after it.
after_those : (n : ℕ) (ks ls : List Check) (a : Answer) → T (without n ks) → (first (ks ++ ls) a).number ≡ n → Every Passes ks × ((first ls a).number ≡ n)
unfolding first
after_those n [] ls a t e = (tt, e)
after_those n (k ∷ ks) ls a t e =
    let (other, others) = both (not (eqb k.refusal.number n)) (without n ks) t in
    go k.fails refl other (after_those n ks ls a others)
  where
    go : (b : Bool) → k.fails ≡ b → T (not (eqb k.refusal.number n)) →
        ((first (ks ++ ls) a).number ≡ n → Every Passes ks × ((first ls a).number ≡ n)) → Every Passes (k ∷ ks) × ((first ls a).number ≡ n)
    go true f other rest = let same : k.refusal.number ≡ n = rw f at e in absurd (differ k.refusal.number n other same)
    go false f other rest = let q = rest (rw f at e) in ((f, q.0), q.1)

masks_without : (n : ℕ) → T (not (eqb 3 n)) → (i : ℕ) (rows : List (List ℕ)) → T (without n (of_masks i rows))
unfolding of_masks
masks_without n t i [] = tt
masks_without n t i (row ∷ rows) = go (not (eqb 3 n)) t (masks_without n t (suc i) rows)
  where
    go : (b : Bool) → T b → T (without n (of_masks (suc i) rows)) → T (b && without n (of_masks (suc i) rows))
    go true t rest = rest
    go false t rest = elim t [ ]

-- A check with the number n among others without it: it is the first that fails, or what answers n comes after them all.
here_or_later : (n : ℕ) (ks ls rest : List Check) (k : Check) (a : Answer) → T (without n ks) → T (without n ls) →
    (first ((ks ++ k ∷ ls) ++ rest) a).number ≡ n →
    FailsFirst ((ks ++ k ∷ ls) ++ rest) k ⊎ (Every Passes (ks ++ k ∷ ls) × ((first rest a).number ≡ n))
unfolding first
here_or_later n ks ls rest k a s t e =
    let q = after_those n ks (k ∷ (ls ++ rest)) a s (subst (λ (l : List Check). (first l a).number ≡ n) (append_assoc ks (k ∷ ls) rest) e) in
    go k.fails refl q.0 q.1
  where
    go : (b : Bool) → k.fails ≡ b → Every Passes ks → (first (k ∷ (ls ++ rest)) a).number ≡ n →
        FailsFirst ((ks ++ k ∷ ls) ++ rest) k ⊎ (Every Passes (ks ++ k ∷ ls) × ((first rest a).number ≡ n))
    go true f p g = inl (record { earlier = ks; later = ls ++ rest; in_order = append_assoc ks (k ∷ ls) rest; pass = p; fails = f })
    go false f p g = let q = after_those n ls rest a t (rw f at g) in inr (every_append Passes ks (k ∷ ls) p (f, q.0), q.1)

-- ---- a refusal of a record, by its place j among the record's checks

-- Record r stands among records, and its check j is the first of a list that fails.
record Found (j : ℕ) (c : Setting) (i : ℕ) (st : Stack) (rs : List Record) (ks : List Check) : Type 0 where
  before : List Record
  r : Record
  rest : List Record
  place : ℕ
  splits : rs ≡ before ++ r ∷ rest
  counts : i + length before ≡ place
  first_to_fail : FailsFirst ks (nth (of_record c place r (does c r) (run c st before)) j)

-- Its number is n, and that is the number of no other check.
module _ (n j : ℕ) (some : n ≡ 0 → ⊥) (there : j < 13)
    (no-limit : T (not (eqb 1 n) && (not (eqb 1 n) && (not (eqb 1 n) && (not (eqb 2 n) && (not (eqb 2 n) && true))))))
    (no-mask : T (not (eqb 3 n))) (none_left : T (not (eqb 16 n) && true))
    (earlier : (c : Setting) (i : ℕ) (r : Record) (d : Semantics) (st : Stack) → T (without n (take j (of_record c i r d st))))
    (later : (c : Setting) (i : ℕ) (r : Record) (d : Semantics) (st : Stack) → T (without n (drop (suc j) (of_record c i r d st)))) where
  found : (c : Setting) (i : ℕ) (st : Stack) (rs : List Record) (a : Answer) → a.number ≡ 0 → (first (of_records c i st rs) a).number ≡ n →
      Found j c i st rs (of_records c i st rs)
  unfolding of_records run first
  found c i st [] a z e =
      let q = after_those n (check 16 i (not (eqb (length st) 0)) ∷ []) [] a none_left e in
      absurd (some (sym q.1 ∙ z))
  found c i st (r ∷ rs) a z e =
      let own : List Check = of_record c i r (does c r) st in
      let others : List Check = of_records c (suc i) (after c r (does c r) st) rs in
      let parts : own ≡ take j own ++ nth own j ∷ drop (suc j) own =
      sym (take-append-drop j own) ∙ ap (λ (l : List Check). take j own ++ l) (drop-cons own j (check 0 0 false) there) in
      ⊎_elim
      (λ (f : FailsFirst ((take j own ++ nth own j ∷ drop (suc j) own) ++ others) (nth own j)).
      record {
        before = [];
        r = r;
        rest = rs;
        place = i;
        splits = refl;
        counts = add-zero i;
        first_to_fail = subst⁻¹ (λ (l : List Check). FailsFirst (l ++ others) (nth own j)) parts f;
      })
      (λ (q : Every Passes (take j own ++ nth own j ∷ drop (suc j) own) × ((first others a).number ≡ n)).
      let f = found c (suc i) (after c r (does c r) st) rs a z q.1 in
      let counts = f.counts in
      record {
        before = r ∷ f.before;
        r = f.r;
        rest = f.rest;
        place = f.place;
        splits = ap (λ (l : List Record). r ∷ l) f.splits;
        counts = omega arith;
        first_to_fail = passing own (subst⁻¹ (Every Passes) parts q.0) f.first_to_fail;
      })
      (here_or_later n (take j own) (drop (suc j) own) others (nth own j) a (earlier c i r (does c r) st) (later c i r (does c r) st)
      (subst (λ (l : List Check). (first (l ++ others) a).number ≡ n) parts e))

  -- Of a call.
  found_in : (c : Call) (records : List ℕ) → (answer_of c records).number ≡ n →
      Found j c.setting 0 [] (records_of c records) (checks c records)
  unfolding checks
  found_in c records e =
      let masks : List Check = of_masks 0 (rows_of c.values) in
      let each : List Check = of_records c.setting 0 [] (records_of c records) in
      let a : Answer = answer 0 (length (records_of c records)) in
      let limits : List Check = take 5 (checks c records) in
      let (p, e₁) = after_those n limits (masks ++ each) a no-limit e in
      let (q, e₂) = after_those n masks each a (masks_without n no-mask 0 (rows_of c.values)) e₁ in
      let f = found c.setting 0 [] (records_of c records) a refl e₂ in
      let k : Check = nth (of_record c.setting f.place f.r (does c.setting f.r) (run c.setting [] f.before)) j in
      record {
        before = f.before;
        r = f.r;
        rest = f.rest;
        place = f.place;
        splits = f.splits;
        counts = f.counts;
        first_to_fail = passing limits {k = k} p (passing masks {k = k} q f.first_to_fail);
      }

-- ---- which way a value missed its range

-- The check of record r after the records `before` that its value is not above its range, or not below it, as the test says.
abbrev pub range_check : Setting → ℕ → (Accepted → ℤ → Bool) → List Record → Record → ℕ → Check
range_check c n test before r i = check_of r n i (of_word (does c r) (λ source range. test range (value c before r source)))

-- Record r comes after the records `before`, its value is above its range, or below it, and no check of the call before that one fails.
pub record Missed (n : ℕ) (test : Accepted → ℤ → Bool) (c : Call) (records : List ℕ) : Type 0 where
  pub before : List Record
  pub r : Record
  pub rest : List Record
  pub splits : records_of c records ≡ before ++ r ∷ rest
  pub first_to_fail : FailsFirst (checks c records) (range_check c.setting n test before r (length before))

module _ (n : ℕ) (test : Accepted → ℤ → Bool) (c : Call) (records : List ℕ) where
  -- The answer is then n, the record's number and its offset.
  pub missed_answers : (m : Missed n test c records) → answer_of c records ≡ answer_at n (length m.before) m.r.offset
  missed_answers m = refused_by_the_first c records _ m.first_to_fail

  exactly : (j : ℕ) →
      ((answer_of c records).number ≡ n → Found j c.setting 0 [] (records_of c records) (checks c records)) →
      ((before : List Record) (r : Record) (i : ℕ) →
      nth (of_record c.setting i r (does c.setting r) (run c.setting [] before)) j ≡ range_check c.setting n test before r i) →
      ((answer_of c records).number ≡ n) ↔ Missed n test c records
  exactly j find is = (
    (λ e.
        let f = find e in
        let place : f.place ≡ length f.before = sym f.counts ∙ zero-add (length f.before) in
        record {
          before = f.before;
          r = f.r;
          rest = f.rest;
          splits = f.splits;
          first_to_fail =
              subst (FailsFirst (checks c records))
              (is f.before f.r f.place ∙ ap (range_check c.setting n test f.before f.r) place)
              f.first_to_fail;
        }),
    (λ m. ap (λ (a : Answer). a.number) (missed_answers m)),
  )

-- The answer is 14 exactly when a value is above its range, and 18 exactly when one is below, no check before that one failing.
pub above_is_14 : (c : Call) (records : List ℕ) → ((answer_of c records).number ≡ 14) ↔ Missed 14 above c records
above_is_14 c records =
    exactly 14 above c records 10 (found_in 14 10 (λ e. omega arith) (omega arith) tt tt tt (λ c i r d st. tt) (λ c i r d st. tt) c records) (λ before r i. refl)

pub below_is_18 : (c : Call) (records : List ℕ) → ((answer_of c records).number ≡ 18) ↔ Missed 18 below c records
below_is_18 c records =
    exactly 18 below c records 11 (found_in 18 11 (λ e. omega arith) (omega arith) tt tt tt (λ c i r d st. tt) (λ c i r d st. tt) c records) (λ before r i. refl)

-- ---- the offset of an answer

-- A record of a call, out of its bytes: the piece of that number.
record_in_bytes : (c : Call) (records : List ℕ) (before rest : List Record) (r : Record) → records_of c records ≡ before ++ r ∷ rest →
    (length before < length records / c.setting.card.record_bytes) ×
    (r ≡ record_of c.setting.card c.values (piece c.setting.card.record_bytes records (length before)))
record_in_bytes c records before rest r e =
    let size : ℕ = c.setting.card.record_bytes in
    let of : List ℕ → Record = record_of c.setting.card c.values in
    let count : length records / size ≡ length before + suc (length rest) = sym (length_records c records) ∙ ap length e ∙ length-append before (r ∷ rest) in
    let below : length before < length records / size = omega arith in (
      below,
      sym (get_or-append_seam before r rest (of []))
          ∙ ap (λ (l : List Record). get_or l (length before) (of [])) (sym e)
          ∙ get_or-map of (pieces size records) (length before) []
          ∙ ap of (piece-at size records (length records / size) (length before) [] below),
    )

-- The refusals of a record: 4 to 15, and 18.
abbrev pub of_a_record : ℕ → Bool
of_a_record n = leb 4 n && leb n 15 || eqb n 18

-- They give the offset in the bytes of the record that the place names, and every other answer gives 0.
pub record Offset (c : Call) (records : List ℕ) (a : Answer) : Type 0 where
  pub of_some : T (of_a_record a.number) →
      (a.place < length records / c.setting.card.record_bytes) ×
      (a.offset ≡ offset_in c.setting.card (piece c.setting.card.record_bytes records a.place))
  pub of_none : T (not (of_a_record a.number)) → a.offset ≡ 0

first_has : (P : Answer → Type 0) (ks : List Check) (a : Answer) → Every (λ k. P k.refusal) ks → P a → P (first ks a)
unfolding first
first_has P [] a p q = q
first_has P (k ∷ ks) a p q = go k.fails (first_has P ks a p.1 q)
  where
    go : (b : Bool) → P (first ks a) → P (cond b k.refusal (first ks a))
    go true rest = p.0
    go false rest = rest

abbrev all : (ℕ → Bool) → List Check → Bool
all test [] = true
all test (k ∷ ks) = test k.refusal.number && all test ks

placed_have : (P : Answer → Type 0) (test : ℕ → Bool) (i o : ℕ) → ((n : ℕ) → T (test n) → P (answer_at n i o)) → (ks : List Check) → T (all test ks) →
    Every (λ k. P k.refusal) (placed i o ks)
unfolding placed
placed_have P test i o h [] t = tt
placed_have P test i o h (k ∷ ks) t =
    let (one, others) = both (test k.refusal.number) (all test ks) t in
    (h k.refusal.number one, placed_have P test i o h ks others)

module _ (c : Call) (records : List ℕ) where
  abbrev Told : Check → Type 0
  Told k = Offset c records k.refusal

  none_told : (n p : ℕ) → T (not (of_a_record n)) → Offset c records (answer n p)
  none_told n p t = record { of_some = λ u. absurd (T_not (of_a_record n) t u); of_none = λ u. refl }

  masks_told : (i : ℕ) (rows : List (List ℕ)) → Every Told (of_masks i rows)
  unfolding of_masks
  masks_told i [] = tt
  masks_told i (row ∷ rows) = (none_told 3 i tt, masks_told (suc i) rows)

  records_told : (i : ℕ) (st : Stack) (before rs : List Record) → length before ≡ i → records_of c records ≡ before ++ rs → Every Told (of_records c.setting i st rs)
  unfolding of_records placed
  records_told i st before [] n e = (none_told 16 i tt, tt)
  records_told i st before (r ∷ rs) n e =
      let s : Setting = c.setting in
      let (below, is) = record_in_bytes c records before rs r e in
      let own : (m : ℕ) → T (of_a_record m) → Offset c records (answer_at m i r.offset) =
      λ m t.
      record {
        of_some = λ u. subst (λ (k : ℕ). (k < length records / s.card.record_bytes) × (r.offset ≡ offset_in s.card (piece s.card.record_bytes records k))) n (below, ap (λ (q : Record). q.offset) is);
        of_none = λ u. absurd (T_not (of_a_record m) u t);
      } in
      every_append Told (of_record s i r (does s r) st) (of_records s (suc i) (after s r (does s r) st) rs)
      (placed_have (Offset c records) of_a_record i r.offset own (of_record s 0 r (does s r) st) tt)
      (records_told (suc i) (after s r (does s r) st) (before ++ r ∷ []) rs (length-append before (r ∷ []) ∙ add-one (length before) ∙ ap suc n) (e ∙ sym (append_assoc before (r ∷ []) rs)))

  -- The answer of a call.
  pub offset_told : Offset c records (answer_of c records)
  unfolding checks
  offset_told =
      let masks = masks_told 0 (rows_of c.values) in
      let each = records_told 0 [] [] (records_of c records) refl refl in
      first_has (Offset c records) (checks c records) _ (
        none_told 1 0 tt,
        (
          none_told 1 1 tt,
          (
            none_told 1 2 tt,
            (
              none_told 2 1 tt,
              (
                none_told 2 2 tt,
                every_append Told (of_masks 0 (rows_of c.values)) (of_records c.setting 0 [] (records_of c records)) masks each,
              ),
            ),
          ),
        ),
      )
      (none_told 0 (length (records_of c records)) tt)
