-- lu32i.d and a run of words over plain numbers. Assumes nothing.
use Rattle.std.specs.Prelude.{Option, None, Some, Ok, Err}
use Rattle.std.specs.Int.{w32, from_le_bytes}
use Rattle.std.specs.Simd.{first_chunks}
use Rattle.std.proofs.Common.{◌≡◌, ℕ, suc, ◌+◌, ◌-◌, ◌*◌, ◌/◌, ◌%◌, ◌^◌, ◌≤◌, ◌<◌, Bool, true, false, ltb, List, [], ◌∷◌, length, drop, refl, sym, ap, ap₂, ◌∙◌, bit_and, bit_or, arith, div-one, mod-lt, pow_pos, length-drop, lt-ltb, le-ltb, ne_eqb, ltb-true, ltb-false, get_or, add-one, length-take, take_all}
use Rattle.std.proofs.lemmas.Nat.{and_mask, or_shifted}
use Rattle.std.proofs.Math.Option as O
use Rattle.meaning.specs.Numbers.{number, plus}
use Rattle.meaning.specs.Field.{slice}
use Rattle.meaning.specs.Executor.{Instruction, six, decoded, instruction, rd, written, SignExtend, first_zero, ran, either, words_of, run_limit, ran_from, run_of}
use Rattle.lemmas.specs.Pieces.{piece, pieces_from, from_start, from_end, chunks_cut, piece-at}
use Rattle.lemmas.specs.Words.{registers_after, whole_word, ran-at}
use Rattle.bytes_le.specs.Library.{read_4}
use Rattle.refusals.specs.declared.Refusal.TheVariants.{TooLong, UnknownWord}
use Rattle.executor.specs.Runs.{outcome_of, carried_out, Runs}

-- ---- lu32i.d

-- 20 bits as signed, from bit 32 up: what the shift pushes out are copies of the sign.
upper_half : (x : ℕ) → x < 2 ^ 20 → SignExtend 20 x 64 * 2 ^ 32 % 2 ^ 64 ≡ SignExtend 20 x 32 * 2 ^ 32
upper_half x small = go (ltb x (2 ^ 19)) refl
  where
    go : (b : Bool) → ltb x (2 ^ 19) ≡ b → SignExtend 20 x 64 * 2 ^ 32 % 2 ^ 64 ≡ SignExtend 20 x 32 * 2 ^ 32
    go true e = rw e (omega arith)
    go false e = rw e (omega arith)

-- They stand above the low half of its register.
pub above_low_half : (x own : ℕ) {r : ℕ} → r ≡ SignExtend 20 x 64 → x < 2 ^ 20 →
    bit_or (r * 2 ^ 32 % 2 ^ 64) (bit_and own (2 ^ 32 - 1)) ≡ SignExtend 20 x 32 * 2 ^ 32 + slice 0 32 own
above_low_half x own e small =
    rw (e, upper_half x small)
    (ap (bit_or (SignExtend 20 x 32 * 2 ^ 32)) (and_mask own 32) ∙ or_shifted (SignExtend 20 x 32) 32 (own % 2 ^ 32) (mod-lt own (pow_pos 32)) ∙ rw div-one refl)

-- ---- a run

-- How many words it has, a last piece counted.
abbrev words : List ℕ → ℕ
words run = (length run + 3) / 4

-- Before word i, or after the last whole word: the run from its start is the run from here, with these registers.
pub record Going (run : List ℕ) (start : ℕ) (before registers : List ℕ) (i : ℕ) : Type 0 where
  pub so_far : i ≤ length run / 4
  pub same : ran_from start 0 before (words_of run) ≡ ran_from start i registers (pieces_from 4 run (words run) i)

module _ (run : List ℕ) (start : ℕ) (before registers : List ℕ) where
  pub begins : before ≡ registers → Going run start before registers 0
  begins e = record { so_far = omega arith; same = ap₂ (ran_from start 0) e (sym (from_start 4 run (words run))) }

  module _ (i : ℕ) (g : Going run start before registers i) where
    abbrev word : ℕ
    word = number (piece 4 run i)

    -- Word i, if there is one, is this instruction, or none.
    at_word : i < words run → (d : O.Option Instruction) → instruction (piece 4 run i) ≡ d →
        ran_from start 0 before (words_of run)
        ≡ either d (λ ins. ran_from start (suc i) (registers_after run start i registers ins) (pieces_from 4 run (words run) (suc i))) (ran 19 i registers)
    at_word h d is = g.same ∙ ran-at run start i (words run) registers h d is

    -- What was read of the library's n chunks is that word, and this its PC.
    module _ {n : ℕ} (count : n ≡ length run / 4) (h : i < n) {chunks : List (List ℕ)} (nothing : List ℕ) (cut : chunks ≡ first_chunks 4 n run)
        {read pc : ℕ} (is : read ≡ from_le_bytes w32 (get_or chunks i nothing)) (on : pc ≡ plus 64 start (4 * i)) where
      is_word : read ≡ word
      is_word =
          is ∙ ap (λ (cs : List (List ℕ)). from_le_bytes w32 (get_or cs i nothing)) (cut ∙ chunks_cut 4 n run)
          ∙ ap (from_le_bytes w32) (piece-at 4 run n i nothing h)
          ∙ read_4 (piece 4 run i) (rw length-take (omega arith))

      came_to : {o : Option ℕ} (d : O.Option Instruction) → o ≡ outcome_of (decoded six read) pc read registers → decoded six word ≡ d →
          o ≡ outcome_of d (plus 64 start (4 * i)) word registers
      came_to d e f =
          e ∙ ap₂ (λ (w p : ℕ). outcome_of (decoded six w) p w registers) is_word on
          ∙ ap (λ (d : O.Option Instruction). outcome_of d (plus 64 start (4 * i)) word registers) f

      -- It is one of the six, and writes x.
      pub goes_on : {k x : ℕ} {after : List ℕ} → Some x ≡ outcome_of (decoded six read) pc read registers → k ≡ rd read →
          after ≡ written registers k x → Going run start before after (i + 1)
      goes_on {k} {x} {after} e r a = go (decoded six word) refl
        where
          go : (d : O.Option Instruction) → decoded six word ≡ d → Going run start before after (i + 1)
          go O.none f = let w = came_to O.none e f in cc
          go (O.some ins) f =
              let w = came_to (O.some ins) e f in
              let q = is_word in
              let b : registers_after run start i registers ins ≡ after = cc in
              record {
                so_far = omega arith;
                same =
                    rw add-one
                    (at_word (omega arith) (O.some ins) (whole_word run start i (omega arith) ∙ f)
                    ∙ ap (λ (rs : List ℕ). ran_from start (suc i) rs (pieces_from 4 run (words run) (suc i))) b);
              }

      -- It is none of them.
      pub stops : None ≡ outcome_of (decoded six read) pc read registers → ran_from start 0 before (words_of run) ≡ carried_out run (4 * i) registers
      stops e = go (decoded six word) refl
        where
          go : (d : O.Option Instruction) → decoded six word ≡ d → ran_from start 0 before (words_of run) ≡ carried_out run (4 * i) registers
          go O.none f =
              let place : 4 * i / 4 ≡ i = omega arith in
              rw (lt-ltb (4 * i) (length run) (omega arith), place) (at_word (omega arith) O.none (whole_word run start i (omega arith) ∙ f))
          go (O.some ins) f = let w = came_to (O.some ins) e f in cc

    -- After the last whole word: a last piece is none of them, or the run is at its end.
    module _ (n : ℕ) (count : n ≡ length run / 4) (all : n ≤ i) where
      last : i ≡ n
      last = omega (arith, g.so_far)

      -- A last piece is fewer than four bytes.
      torn : 4 * n < length run → instruction (piece 4 run i) ≡ O.none
      torn h =
          let d : length (drop (4 * i) run) ≡ length run - 4 * i = length-drop (4 * i) run in
          let t : length (piece 4 run i) ≡ length run - 4 * i = ap length (take_all 4 (drop (4 * i) run) (omega (arith, last))) ∙ d in
          rw (ne_eqb (length (piece 4 run i)) 4 (λ f. omega (arith, last)))

      pub ends : ran_from start 0 before (words_of run) ≡ carried_out run (4 * n) registers
      unfolding ran_from
      ends = go (ltb (4 * n) (length run)) refl
        where
          place : 4 * n / 4 ≡ i
          place = omega (arith, last)

          go : (b : Bool) → ltb (4 * n) (length run) ≡ b → ran_from start 0 before (words_of run) ≡ carried_out run (4 * n) registers
          go true e =
              let h : 4 * n < length run = ltb-true (4 * n) (length run) e in
              rw (e, place) (at_word (omega (arith, last)) O.none (torn h))
          go false e =
              let h : length run ≤ 4 * n = ltb-false (4 * n) (length run) e in
              let w : words run ≡ i = omega (arith, last) in
              rw (e, place) (g.same ∙ ap (λ (m : ℕ). ran_from start i registers (pieces_from 4 run m i)) w ∙ ap (ran_from start i registers) (from_end 4 run i))

-- The loop's laws.
pub ruleset going = (begins, goes_on, stops, ends)

-- Zero written to the first register.
start_zero : (registers : List ℕ) → written registers 0 0 ≡ first_zero registers
start_zero [] = refl
start_zero (x ∷ registers) = refl

module _ (run : List ℕ) (start : ℕ) (before registers : List ℕ) (zero_first : registers ≡ written before 0 0) where
  pub too_long : run_limit < length run → Runs run start before (Err (record { refusal = TooLong; place = 0 })) registers
  too_long h = record { says = ap (ran 1 0) (zero_first ∙ start_zero before) ∙ sym (rw (lt-ltb run_limit (length run) h)) }

  module _ (done : ℕ) {after : List ℕ} (short : length run ≤ run_limit) (comes : ran_from start 0 registers (words_of run) ≡ carried_out run done after) where
    whole : carried_out run done after ≡ run_of run start before
    whole =
        sym comes ∙ ap (λ (rs : List ℕ). ran_from start 0 rs (words_of run)) (zero_first ∙ start_zero before)
        ∙ sym (rw (le-ltb run_limit (length run) short))

    pub refused : done < length run → Runs run start before (Err (record { refusal = UnknownWord; place = done / 4 })) after
    refused h = record { says = rw (lt-ltb done (length run) h) at whole }

    pub ended : length run ≤ done → Runs run start before (Ok (done / 4)) after
    ended h = record { says = rw (le-ltb done (length run) h) at whole }

-- The whole run's laws.
pub ruleset answers = (too_long, refused, ended)
