-- Where a patched sequence of instructions points: the executor, run on what an accepted call left in its section, at the section's address.
use Prim.Native.Nat.{ℕ, suc, ◌+◌, ◌-◌, ◌*◌, ◌%◌, ◌^◌, ◌<◌}
use Rattle.std.proofs.Common.{add-zero, mul-one, arith, ◌∙◌, subst, length-set, pow_pos}
use Rattle.std.proofs.Math.Nat.{mod-lt}
use Rattle.std.specs.Prelude.{List, [], ◌∷◌, ◌++◌, map, ◌↔◌, ◌≡◌, length, get_or, drop}
use Rattle.std.proofs.Math.Path.{refl, sym, ap, ap₂}
use Rattle.std.specs.Int.Bits.{bit_or}
use Rattle.meaning.specs.Numbers.{plus, cleared, signed, pieces}
use Rattle.meaning.specs.Table.{S, S+A, Formula, whole, pages, Part, bits◌⋯◌to◌⋯◌, of, word, any, table, look, semantics}
use Rattle.meaning.specs.Field.{slice, wide, lowest, bare}
use Rattle.meaning.specs.Call.{Call, card64, Record, rows_of, row_of, record_of, records_of, value_in, PC, sum, formula}
use Rattle.meaning.specs.Patch.{call, answer_of, section_of}
use Rattle.meaning.specs.Executor.{lu12i_w, lu32i_d, pcalau12i, lu52i_d, addi_d, ori, rd, first_zero, written, SignExtend, Ran, ran, run_of}
use Rattle.lemmas.specs.Modulo.{bits_signed}
use Rattle.laws.specs.Bits.{word_at}
use Rattle.laws.specs.ReadBack.{WordUntouched, bits_read}
use Rattle.laws.specs.Pair.{FitsSigned, reached, whole_pages, distance_lands, pair_lands}
use Rattle.laws.specs.Words.{Holds, after, runs_through, again}
use Rattle.laws.specs.Extended.{first_two, first_three, all_four, MultipleAway, apart, upper, cleared-sum, fits_if, same-low_32}

-- ---- the call

-- S+A of a symbol and an addend.
abbrev pub target : List ℕ → ℕ → ℕ → ℕ
target values symbol addend = plus 64 (value_in S (row_of (rows_of values) symbol)) addend

-- In the list, wherever, is a record of this type at this place, with this symbol and this addend, and no record after it writes a byte
-- of the word there.
pub record Patched (c : Call) (records : List ℕ) (symbol addend type place : ℕ) : Type 0 where
  pub before : List Record
  pub later : List Record
  pub r : Record
  pub in_list : records_of c records ≡ before ++ r ∷ later
  pub of_type : r.type ≡ type
  pub at_place : r.offset ≡ place
  pub of_symbol : r.symbol ≡ symbol
  pub with_addend : r.addend ≡ addend
  pub last : WordUntouched c.setting later r.offset

-- What a run of pcalau12i and addi.d comes to, for this distance and this target: it is accepted, register k holds an address, the first is
-- 0, and the others are as they came. The address is the target exactly where the distance fits 32 bits signed.
pub record Points (distance target k : ℕ) (registers : List ℕ) (r : Ran) : Type 0 where
  pub address : ℕ
  pub run : r ≡ ran 0 2 (written (first_zero registers) k address)
  pub exactly : (address ≡ target) ↔ FitsSigned 32 (signed 64 distance)
  pub otherwise : (FitsSigned 32 (signed 64 distance) → ⊥) → MultipleAway address target

-- What holds of all that a function gives holds of each that stands in its list.
given : {A B : Type 0} (P : B → Type 0) (f : A → B) → ((a : A) → P (f a)) → (all : List A) (before later : List B) (b : B) → map f all ≡ before ++ b ∷ later → P b
given P f p [] [] later b e = absurd (let none : 0 ≡ suc (length later) = ap length e in omega arith)
given P f p [] (x ∷ before) later b e = absurd (let none : 0 ≡ suc (length (before ++ b ∷ later)) = ap length e in omega arith)
given {B = B} P f p (a ∷ all) [] later b e = subst P (ap (λ (l : List B). get_or l 0 b) e) (p a)
given {B = B} P f p (a ∷ all) (x ∷ before) later b e = given P f p all before later b (ap (λ (l : List B). drop 1 l) e)

module _ (s values records : List ℕ) (address gp symbol addend : ℕ) where
  abbrev c : Call
  c = call s values address gp

  abbrev section : List ℕ
  section = section_of c records s

  abbrev x : ℕ
  x = target values symbol addend

  -- Such a record's S+A.
  sum_is : {type place : ℕ} (p : Patched c records symbol addend type place) → sum c.setting p.r S+A ≡ x
  sum_is p =
      let row : p.r.row ≡ row_of (rows_of values) p.r.symbol =
      given (λ (r : Record). r.row ≡ row_of (rows_of values) r.symbol) (record_of card64 values) (λ bytes. refl) (pieces card64.record_bytes records) p.before p.later p.r p.in_list in
      ap₂ (λ (t : List ℕ) (a : ℕ). plus 64 (value_in S t) a) (row ∙ ap (row_of (rows_of values)) p.of_symbol) p.with_addend

  module _ (accepted : (answer_of c records).number ≡ 0) where
    -- The bits of a field that such a record put there.
    brings : {type place : ℕ} (p : Patched c records symbol addend type place) (f : Formula) (parts : List Part) → semantics type ≡ word (of f) parts any →
        formula c.setting p.r f < 2 ^ 64 → bare parts (word_at place section) ≡ slice (lowest parts) (wide parts) (formula c.setting p.r f)
    brings p f parts is below =
        subst (λ (o : ℕ). bare parts (word_at o section) ≡ slice (lowest parts) (wide parts) (formula c.setting p.r f)) p.at_place
        (bits_read c s records refl p.before p.later p.r (of f) parts any accepted p.in_list (ap semantics p.of_type ∙ is) p.last
        ∙ ap (slice (lowest parts) (wide parts)) (bits_signed 64 (formula c.setting p.r f) below))

    -- The same of one part, as the executor has it.
    part_brings : {type place : ℕ} (p : Patched c records symbol addend type place) (f : Formula) (h l H L : ℕ) → semantics type ≡ word (of f) (bits h ⋯ l to H ⋯ L ∷ []) any →
        formula c.setting p.r f < 2 ^ 64 → slice L (suc h - l) (word_at place section) ≡ slice l (suc h - l) (formula c.setting p.r f)
    unfolding bare wide lowest
    part_brings {type} {place} p f h l H L is below = simp (mul-one, add-zero) at (brings p f (bits h ⋯ l to H ⋯ L ∷ []) is below)

    -- Of a type that puts bits of S+A.
    target_brings : {type place : ℕ} (p : Patched c records symbol addend type place) (h l H L : ℕ) → semantics type ≡ word (of (whole S+A)) (bits h ⋯ l to H ⋯ L ∷ []) any →
        slice L (suc h - l) (word_at place section) ≡ slice l (suc h - l) x
    target_brings p h l H L is =
        part_brings p (whole S+A) h l H L is (mod-lt _ (pow_pos 64)) ∙ ap (slice l (suc h - l)) (sum_is p)

    module _ (k : ℕ) (registers : List ℕ) (other : k ≡ 0 → ⊥) (all : length registers ≡ 32) where
      abbrev start : List ℕ
      start = first_zero registers

      room : (held : ℕ) → rd held ≡ k → k < length start
      room held e =
          let low : rd held < 2 ^ 5 = mod-lt _ (pow_pos 5) in
          let same : length start ≡ length registers = length-set registers 0 0 in
          omega arith

      four : Patched c records symbol addend 67 0 → Patched c records symbol addend 68 4 → Patched c records symbol addend 69 8 →
          Patched c records symbol addend 70 12 → Holds k (lu12i_w ∷ ori ∷ lu32i_d ∷ lu52i_d ∷ []) section →
          run_of section address registers ≡ ran 0 4 (written start k x)
      unfolding after table look
      four p67 p68 p69 p70 h =
          let on0 = h.words.0.1 in
          let on1 = h.words.1.0.1 in
          let on2 = h.words.1.1.0.1 in
          let on3 = h.words.1.1.1.0.1 in
          let low = room (word_at 0 section) on0 in
          let e1 = ap₂ (λ (d i : ℕ). written start d (SignExtend 32 (i * 2 ^ 12) 64)) on0 (target_brings p67 31 12 24 5 refl) in
          let e2 = again start k other low (λ i y. bit_or y i) _ e1 on1.0 on1.1 (target_brings p68 11 0 21 10 refl) in
          let e3 = again start k other low (λ i y. SignExtend 20 i 32 * 2 ^ 32 + slice 0 32 y) (first_two x) e2 on2 on2 (target_brings p69 51 32 24 5 refl) in
          let e4 = again start k other low (λ i y. i * 2 ^ 52 + slice 0 52 y) (first_three x) e3 on3.0 on3.1 (target_brings p70 63 52 21 10 refl) in
          runs_through k address section (lu12i_w ∷ ori ∷ lu32i_d ∷ lu52i_d ∷ []) registers h (omega (arith, h.only))
          ∙ ap (ran 0 4) (e4 ∙ ap (written start k) (all_four x (mod-lt _ (pow_pos 64))))

      pair : (p : Patched c records symbol addend 71 0) → Patched c records symbol addend 72 4 → Holds k (pcalau12i ∷ addi_d ∷ []) section →
          Points (formula c.setting p.r (pages S+A)) x k registers (run_of section address registers)
      unfolding after table look
      pair p71 p72 h =
          let setting = c.setting in
          let r = p71.r in
          let pc : ℕ = PC setting r in
          let d : ℕ = formula setting r (pages S+A) in
          let n : ℕ = SignExtend 12 (slice 0 12 x) 64 in
          let zeros = whole_pages setting r S+A (omega arith) in
          let below : d < 2 ^ 64 = mod-lt _ (pow_pos 64) in
          let on0 = h.words.0.1 in
          let on1 = h.words.1.0.1 in
          let low = room (word_at 0 section) on0 in
          let here : plus 64 address 0 ≡ pc = ap (plus 64 address) (sym p71.at_place) in
          let at_x : ℕ → ℕ → ℕ = λ far y. reached 64 pc far (SignExtend 12 (slice 0 12 y) 64) in
          let lands_there : reached 64 pc d n ≡ x =
          ap (at_x d) (sym (sum_is p71)) ∙ distance_lands setting r S+A (omega arith) (mod-lt _ (pow_pos 64)) ∙ sum_is p71 in
          let e1 =
          ap₂ (λ (j i : ℕ). written start j (cleared 12 (plus 64 (plus 64 address 0) (SignExtend 32 (i * 2 ^ 12) 64)))) on0
          (part_brings p71 (pages S+A) 31 12 24 5 refl below)
          ∙ ap (λ (y : ℕ). written start k (cleared 12 (plus 64 y (upper d)))) here
          ∙ ap (written start k) (cleared-sum pc d n zeros below) in
          let e2 = again start k other low (λ i y. plus 64 y (SignExtend 12 i 64)) (plus 64 (cleared 12 pc) (upper d)) e1 on1.0 on1.1 (target_brings p72 11 0 21 10 refl) in
          let fits_so : reached 64 pc (upper d) n ≡ x → FitsSigned 32 (signed 64 d) = λ e. fits_if pc d n zeros below (e ∙ sym lands_there) in
          record {
            address = reached 64 pc (upper d) n;
            run = runs_through k address section (pcalau12i ∷ addi_d ∷ []) registers h (omega (arith, h.only)) ∙ ap (ran 0 2) e2;
            exactly = (fits_so, λ fits. ap (at_x (upper d)) (sym (sum_is p71)) ∙ pair_lands setting r S+A (omega arith) (mod-lt _ (pow_pos 64)) fits ∙ sum_is p71);
            otherwise = λ no. apart (reached 64 pc (upper d) n) x (same-low_32 pc d n zeros below ∙ ap (λ (y : ℕ). y % 2 ^ 32) lands_there) (λ e. no (fits_so e));
          }

-- ---- the theorems

-- The four instructions that the types 67 to 70 patched load S+A: register k holds it, the first is 0, and the others are as they came.
pub four_load : (s values records : List ℕ) (address gp symbol addend : ℕ) →
    let c = call s values address gp in
    (answer_of c records).number ≡ 0 →
    Patched c records symbol addend 67 0 → Patched c records symbol addend 68 4 → Patched c records symbol addend 69 8 → Patched c records symbol addend 70 12 →
    (k : ℕ) (registers : List ℕ) → (k ≡ 0 → ⊥) → length registers ≡ 32 → Holds k (lu12i_w ∷ ori ∷ lu32i_d ∷ lu52i_d ∷ []) (section_of c records s) →
    run_of (section_of c records s) address registers ≡ ran 0 4 (written (first_zero registers) k (target values symbol addend))
four_load s values records address gp symbol addend accepted p67 p68 p69 p70 k registers other all h =
    four s values records address gp symbol addend accepted k registers other all p67 p68 p69 p70 h

-- pcalau12i and addi.d, which 71 and 72 patched, point to S+A exactly where the distance that 71 splits fits 32 bits signed, and otherwise to
-- an address that is a multiple of 2 ^ 32 away, and not 0 of them.
pub pair_points : (s values records : List ℕ) (address gp symbol addend : ℕ) →
    let c = call s values address gp in
    (answer_of c records).number ≡ 0 →
    (p71 : Patched c records symbol addend 71 0) → Patched c records symbol addend 72 4 →
    (k : ℕ) (registers : List ℕ) → (k ≡ 0 → ⊥) → length registers ≡ 32 → Holds k (pcalau12i ∷ addi_d ∷ []) (section_of c records s) →
    Points (formula c.setting p71.r (pages S+A)) (target values symbol addend) k registers (run_of (section_of c records s) address registers)
pair_points s values records address gp symbol addend accepted p71 p72 k registers other all h =
    pair s values records address gp symbol addend accepted k registers other all p71 p72 h
