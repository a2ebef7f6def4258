-- Demand 3: groups of records may be taken in any order that names each once and keeps, of any two groups that may not change
-- places, the one first that came first. An accepted call is then accepted with the same number, place and offset, and leaves the
-- same section.
use Rattle.std.specs.Prelude.{ℕ, zero, suc, ◌+◌, ◌*◌, ◌/◌, ◌%◌, ◌≤◌, ◌<◌, Bool, true, false, ◌&&◌, ◌||◌, ◌↔◌, ◌≡◌, T, eqb, ltb, length, drop, replicate}
use Rattle.std.proofs.Common.{zero-add, suc-add, suc-mul, zero-lt-suc, div-add-mod', arith, sym, ap, ◌∙◌, eqb→eq, lt→ltb, ltb→lt, length-append, length-drop}
use Rattle.std.proofs.Math.Nat.{div-zero, zero-div, mul-add-div_right}
use Rattle.std.proofs.Math.Bool.{not}
use mathlib.Core.List.{List, [], ◌∷◌, ◌++◌, map-append}
use Rattle.std.proofs.Math.Path.{refl}
use Rattle.std.proofs.lemmas.List.{take-append-le, drop-append-le}
use Rattle.meaning.specs.Numbers.{number, bytes_of, cut}
use Rattle.meaning.specs.Table.{table, look}
use Rattle.meaning.specs.Call.{Setting, Call, Record, does, record_of, records_of, rows_of}
use Rattle.meaning.specs.Stack.{Stack, after}
use Rattle.meaning.specs.Field.{put}
use Rattle.meaning.specs.Checks.{Answer, answer, first, of_record, of_records, of_masks, checks}
use Rattle.meaning.specs.Patch.{call, answer_of, patched, section_of}
use Rattle.meaning.specs.Order.{run, Group, Groups, joined, common_with, common_byte, may_change, named, apart, each_once, group, may_lead, keeps_order, rearranged}
use Rattle.lemmas.specs.Look.{both, differ}
use Rattle.lemmas.specs.Passed.{PassedCall}
use Rattle.laws.specs.First.{Every, Passes, every_append, every-left, every_right, first_passed}
use Rattle.laws.specs.Section.{accepted_passed, accepted_answers, accepted-leaves}
use Rattle.laws.specs.Pull.{Moved, same, change, under, then, All, moved_all, acts, moved_acts, Ahead, Allowed, order_moved}
use Rattle.laws.specs.Commute.{Checked, Sized, patched-sized, change_places}

-- ---- groups' bytes one after the other

-- Bytes of whole pieces, then any bytes: the pieces of the first, then those of the second.
cut-append : (size n m : ℕ) (a b : List ℕ) → length a ≡ n * size → cut size (n + m) (a ++ b) ≡ cut size n a ++ cut size m b
unfolding cut
cut-append size zero m [] b e = rw zero-add
cut-append size zero m (x ∷ a) b e = absurd (omega arith)
cut-append size (suc n) m a b e =
    let more : suc n * size ≡ n * size + size = suc-mul n size in
    let h : size ≤ length a = omega arith in
    let k : length (drop size a) ≡ n * size = simp length-drop (omega arith) in
    rw (suc-add, take-append-le size a b h, drop-append-le size a b h, cut-append size n m (drop size a) b k)

-- How many whole pieces there are of both.
whole_pieces : (size m n : ℕ) → m % size ≡ 0 → (m + n) / size ≡ m / size + n / size
whole_pieces zero m n e = simp div-zero
whole_pieces (suc k) m n e =
    let parts = div-add-mod' m (suc k) in
    let all : m / suc k * suc k ≡ m = omega arith in
    ap (λ (x : ℕ). (x + n) / suc k) (sym all) ∙ mul-add-div_right (zero-lt-suc k) (m / suc k) n

-- So of records.
records_append : (c : Call) (a b : List ℕ) → length a % c.setting.card.record_bytes ≡ 0 →
    records_of c (a ++ b) ≡ records_of c a ++ records_of c b
records_append c a b e =
    let size : ℕ = c.setting.card.record_bytes in
    let count : length (a ++ b) / size ≡ length a / size + length b / size = rw length-append (whole_pieces size (length a) (length b) e) in
    let parts = div-add-mod' (length a) size in
    let all : length a ≡ length a / size * size = omega arith in
    rw (count, cut-append size (length a / size) (length b / size) a b all, map-append (record_of c.setting.card c.values))

-- ---- the checks, the stack and the section, over two lists of records

module _ (c : Setting) where
  run-append : (st : Stack) (a b : List Record) → run c st (a ++ b) ≡ run c (run c st a) b
  unfolding run
  run-append st [] b = refl
  run-append st (r ∷ a) b = run-append (after c r (does c r) st) a b

  patched-append : (st : Stack) (s : List ℕ) (a b : List Record) → patched c st s (a ++ b) ≡ patched c (run c st a) (patched c st s a) b
  unfolding run patched
  patched-append st s [] b = refl
  patched-append st s (r ∷ a) b = patched-append (after c r (does c r) st) _ a b

  checked-append : (st : Stack) (a b : List Record) → Checked c st (a ++ b) ↔ (Checked c st a × Checked c (run c st a) b)
  unfolding run
  checked-append st [] b = (λ p. (tt, p), λ p. p.1)
  checked-append st (r ∷ a) b =
      let (to, from) = checked-append (after c r (does c r) st) a b in
      (λ p. ((p.0, (to p.1).0), (to p.1).1), λ p. (p.0.0, from (p.0.1, p.1)))

  -- The checks of the records of a call: those of each record, and 16, that no entry is left.
  passes_checked : (i : ℕ) (st : Stack) (rs : List Record) → Every Passes (of_records c i st rs) → Checked c st rs
  unfolding of_records
  passes_checked i st [] p = tt
  passes_checked i st (r ∷ rs) p =
      let a = of_record c i r (does c r) st in
      let b = of_records c (suc i) (after c r (does c r) st) rs in
      (every-left Passes a b p, passes_checked (suc i) _ rs (every_right Passes a b p))

  checked_passes : (i : ℕ) (st : Stack) (rs : List Record) → Checked c st rs → run c st rs ≡ [] → Every Passes (of_records c i st rs)
  unfolding of_records run
  checked_passes i st [] p e = (rw e refl, tt)
  checked_passes i st (r ∷ rs) p e =
      every_append Passes (of_record c i r (does c r) st) (of_records c (suc i) (after c r (does c r) st) rs) p.0
      (checked_passes (suc i) _ rs p.1 e)

-- ---- groups

module _ (c : Call) where
  -- A group whose records pass their checks.
  abbrev Fit : List ℕ → Type 0
  Fit g = Group c g × Checked c.setting [] (records_of c g)

  -- What a group leaves.
  abbrev leaves : List ℕ → List ℕ → List ℕ
  leaves s g = patched c.setting [] s (records_of c g)

  -- Groups that pass their checks together pass them each alone, and the other way round.
  fit_alone : (gs : List (List ℕ)) → Groups c gs → Checked c.setting [] (records_of c (joined gs)) → All Fit gs
  unfolding joined
  fit_alone [] w p = tt
  fit_alone (g ∷ gs) w p =
      let q = (checked-append c.setting [] (records_of c g) (records_of c (joined gs))).0 (rw (records_append c g (joined gs) w.0.whole) at p) in
      ((w.0, q.0), fit_alone gs w.1 (rw w.0.balanced at q.1))

  fit_joined : (gs : List (List ℕ)) → All Fit gs →
      Checked c.setting [] (records_of c (joined gs)) × (run c.setting [] (records_of c (joined gs)) ≡ [])
  unfolding joined run cut
  fit_joined [] p = rw zero-div (tt, refl)
  fit_joined (g ∷ gs) p =
      let q = fit_joined gs p.1 in
      let checked = (checked-append c.setting [] (records_of c g) (records_of c (joined gs))).1 (p.0.1, rw p.0.0.balanced q.0) in
      let ends : run c.setting [] (records_of c g ++ records_of c (joined gs)) ≡ [] = rw (run-append c.setting, p.0.0.balanced) q.1 in
      rw (records_append c g (joined gs) p.0.0.whole) (checked, ends)

  -- What groups leave together is what they leave one after the other.
  joined-leaves : (s : List ℕ) (gs : List (List ℕ)) → All Fit gs → leaves s (joined gs) ≡ acts leaves s gs
  unfolding joined patched cut
  joined-leaves s [] p = rw zero-div
  joined-leaves s (g ∷ gs) p =
      rw (records_append c g (joined gs) p.0.0.whole, patched-append c.setting [] s (records_of c g), p.0.0.balanced)
      (joined-leaves (leaves s g) gs p.1)

-- Changes of neighbours leave the number of bytes as it was.
moved_length : {may : List ℕ → List ℕ → Type 0} {gs hs : List (List ℕ)} → Moved may gs hs → length (joined gs) ≡ length (joined hs)
unfolding joined
moved_length same = refl
moved_length (change m) = simp length-append (omega arith)
moved_length (under g m) = simp (length-append, moved_length m)
moved_length (then m n) = moved_length m ∙ moved_length n

-- ---- the order's tests as facts

neither : (a b : Bool) → T (not (a || b)) → T (not a) × T (not b)
neither true b h = absurd h
neither false b h = (tt, h)

pub implied : (a b : Bool) → T (not a || b) → T a → T b
implied true b h t = h
implied false b h t = absurd t

module _ (c : Call) where
  -- The rule, as a relation of two groups.
  abbrev May : List ℕ → List ℕ → Type 0
  May g h = T (may_change c g h)

  aheads : (gs : List (List ℕ)) (k : ℕ) (ks : List ℕ) → T (not (named k ks)) → T (may_lead c gs k ks) → All (Ahead May gs k) ks
  unfolding named may_lead
  aheads gs k [] h m = tt
  aheads gs k (j ∷ ks) h m =
      let (h₁, h₂) = neither (eqb k j) (named k ks) h in
      let (m₁, m₂) = both (not (ltb j k) || may_change c (group gs j) (group gs k)) (may_lead c gs k ks) m in
      let may : j < k → May (group gs j) (group gs k) = λ l. implied (ltb j k) (may_change c (group gs j) (group gs k)) m₁ (lt→ltb j k l) in
      ((differ k j h₁, may), aheads gs k ks h₂ m₂)

  allowed : (gs : List (List ℕ)) (ks : List ℕ) → T (apart (length gs) ks) → T (keeps_order c gs ks) → Allowed May gs ks
  unfolding apart keeps_order
  allowed gs [] h m = tt
  allowed gs (k ∷ ks) h m =
      let (h₁, h₂) = both (ltb k (length gs) && not (named k ks)) (apart (length gs) ks) h in
      let (h₃, h₄) = both (ltb k (length gs)) (not (named k ks)) h₁ in
      let (m₁, m₂) = both (may_lead c gs k ks) (keeps_order c gs ks) m in
      (ltb→lt k (length gs) h₃, aheads gs k ks h₄ m₁, allowed gs ks h₂ m₂)

-- ---- the theorem

module _ (c : Call) where
  -- Checks 1 to 3 look at how many bytes of records there are, and at nothing else of them.
  pass_again : (a b : List ℕ) → length a ≡ length b → PassedCall c a → Every Passes (of_records c.setting 0 [] (records_of c b)) →
      Every Passes (checks c b)
  unfolding checks
  pass_again a b e p q =
      let rest = every_append Passes (of_masks 0 (rows_of c.values)) (of_records c.setting 0 [] (records_of c b)) p.masks q in
      (p.section_fits, (rw (← e) p.records_fit, (p.values_fit, (rw (← e) p.whole_records, (p.whole_rows, rest)))))

  -- Whatever changes of neighbours lead to: accepted, the answer the same, the section the same.
  moved_holds : (s : List ℕ) (gs hs : List (List ℕ)) → length s ≡ c.setting.size → Groups c gs → Moved (May c) gs hs →
      (answer_of c (joined gs)).number ≡ 0 →
      (answer_of c (joined hs) ≡ answer_of c (joined gs)) × (section_of c (joined hs) s ≡ section_of c (joined gs) s)
  moved_holds s gs hs size w moved ok =
      let passed = accepted_passed c (joined gs) ok in
      let fit = fit_alone c gs w (passes_checked c.setting 0 [] (records_of c (joined gs)) passed.each_record) in
      let fit' = moved_all (Fit c) moved fit in
      let (checked, balanced) = fit_joined c hs fit' in
      let again = pass_again (joined gs) (joined hs) (moved_length moved) passed
      (checked_passes c.setting 0 [] (records_of c (joined hs)) checked balanced) in
      let ok' : (answer_of c (joined hs)).number ≡ 0 = ap (λ (a : Answer). a.number) (first_passed (checks c (joined hs)) _ again) in
      let count = ap (λ (n : ℕ). answer 0 (n / c.setting.card.record_bytes)) (moved_length moved) in
      let leave = moved_acts (May c) (leaves c) (Fit c) (Sized c.setting) (λ t g e p. patched-sized c.setting [] t (records_of c g) e p.1)
      (λ t g h e p q. change_places c t g h e p.1 q.1) s moved size fit in (
        accepted_answers c (joined hs) ok' ∙ sym count ∙ sym (accepted_answers c (joined gs) ok),
        accepted-leaves c (joined hs) s ok' ∙ joined-leaves c s hs fit' ∙ sym leave ∙ sym (joined-leaves c s gs fit)
            ∙ sym (accepted-leaves c (joined gs) s ok),
      )

  -- Groups, an order that names each once and keeps of any two that may not change places the first ahead, and a call that is accepted
  -- with the groups as they came: with the groups in that order the answer is the same, its number, its place and its offset, and so is
  -- the section after it.
  pub order_holds : (s : List ℕ) (gs : List (List ℕ)) (order : List ℕ) → c.setting.size ≡ length s →
      Groups c gs → T (each_once (length gs) order) → T (keeps_order c gs order) →
      (answer_of c (joined gs)).number ≡ 0 →
      (answer_of c (joined (rearranged gs order)) ≡ answer_of c (joined gs)) ×
      (section_of c (joined (rearranged gs order)) s ≡ section_of c (joined gs) s)
  order_holds s gs order size w once keeps ok =
      let (count, names) = both (eqb (length order) (length gs)) (apart (length gs) order) once in
      let moved = order_moved (May c) gs order (eqb→eq (length order) (length gs) count) (allowed c gs order names keeps) in
      moved_holds s gs (rearranged gs order) (sym size) w moved ok

-- ---- an example: what the theorem asks can be had, not by every order, and an order without it may leave something else

-- the bytes of a record of symbol 0, whose S is 0
unfoldable pub bytes_of_record : ℕ → ℕ → ℕ → List ℕ
bytes_of_record offset type addend = bytes_of 8 offset ++ (bytes_of 8 type ++ bytes_of 8 addend)

-- 9 pushed (23) and put into the word at 0 (38), 5 stored in the four bytes at 4 (1), 4 added to the byte at 1 (47)
pub three : List (List ℕ)
three = (bytes_of_record 0 23 9 ++ bytes_of_record 0 38 0) ∷ bytes_of_record 4 1 5 ∷ bytes_of_record 1 47 4 ∷ []

-- eight bytes of 0 at address 0
pub zeros : List ℕ
zeros = replicate 8 0

pub at_zero : Call
at_zero = call zeros [] 0 0

-- The second group may come first; the third not before the first, with which it has byte 1 in common.
pub good : List ℕ
good = 1 ∷ 0 ∷ 2 ∷ []

pub bad : List ℕ
bad = 1 ∷ 2 ∷ 0 ∷ []

pub example-holds :
    Groups at_zero three × ((answer_of at_zero (joined three)).number ≡ 0) ×
    T (each_once (length three) good) × T (keeps_order at_zero three good) ×
    T (each_once (length three) bad) × (keeps_order at_zero three bad ≡ false) ×
    (section_of at_zero (joined three) zeros ≡ 0 ∷ 0x28 ∷ 0 ∷ 0 ∷ 5 ∷ 0 ∷ 0 ∷ 0 ∷ []) ×
    (section_of at_zero (joined (rearranged three bad)) zeros ≡ 0 ∷ 0x24 ∷ 0 ∷ 0 ∷ 5 ∷ 0 ∷ 0 ∷ 0 ∷ [])
unfolding bytes_of_record three zeros at_zero good bad number bytes_of cut table look put first of_records of_masks checks patched run joined common_with common_byte named apart may_lead keeps_order rearranged
example-holds =
    let groups : Groups at_zero three =
    (record { whole = refl; balanced = refl }, (record { whole = refl; balanced = refl }, (record { whole = refl; balanced = refl }, tt))) in
    (groups, refl, tt, tt, tt, refl, refl, refl)

-- So the theorem says something of it.
pub example_rearranged : section_of at_zero (joined (rearranged three good)) zeros ≡ section_of at_zero (joined three) zeros
unfolding at_zero
example_rearranged =
    (order_holds at_zero zeros three good refl example-holds.0 example-holds.2 example-holds.3 example-holds.1).1
