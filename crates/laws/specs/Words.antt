-- A run whose words are these instructions, one after the other, all on one register: what it leaves in the registers.
use Rattle.std.specs.Prelude.{ℕ, zero, suc, ◌+◌, ◌*◌, ◌/◌, ◌<◌, ◌≤◌, ◌≡◌, refl, length, set}
use native.Mathlib.Omega.{arith}
use mathlib.Core.List.{List, [], ◌∷◌}
use Rattle.std.proofs.Math.Option.{some}
use Rattle.std.proofs.Common.{sym, ap₂, ◌∙◌, le-ltb, get_or-set_same, get_or-set_other}
use Rattle.std.proofs.Math.Path.{ap}
use Rattle.meaning.specs.Executor.{Instruction, lu12i_w, lu32i_d, lu52i_d, ori, addi_d, pcalau12i, rj, rd, six, decoded}
use Rattle.meaning.specs.Executor.{GR, first_zero, written, ran, run_limit, ran_from, run_of}
use Rattle.lemmas.specs.Pieces.{pieces_from, from_start, from_end}
use Rattle.lemmas.specs.Words.{registers_after, whole_word, ran-at}
use Rattle.laws.specs.Bits.{word_at}

-- ---- the words of a run

-- A word names this register alone: as rd, and as rj where the instruction has one.
abbrev pub On : ℕ → Instruction → ℕ → Type 0
On k lu12i_w word = rd word ≡ k
On k lu32i_d word = rd word ≡ k
On k lu52i_d word = (rd word ≡ k) × (rj word ≡ k)
On k ori word = (rd word ≡ k) × (rj word ≡ k)
On k addi_d word = (rd word ≡ k) × (rj word ≡ k)
On k pcalau12i word = rd word ≡ k

-- From word i on, the words are these instructions, all on register k.
abbrev pub WordsAre : ℕ → List Instruction → ℕ → List ℕ → Type 0
WordsAre k [] i s = Unit {0}
WordsAre k (ins ∷ more) i s = ((decoded six (word_at (4 * i) s) ≡ some ins) × On k ins (word_at (4 * i) s)) × WordsAre k more (suc i) s

-- A section that holds only these instructions, all on register k.
pub record Holds (k : ℕ) (all : List Instruction) (s : List ℕ) : Type 0 where
  pub only : length s ≡ 4 * length all
  pub words : WordsAre k all 0 s

-- ---- the run

-- The registers after these instructions, from word i on.
unfoldable pub after : List Instruction → ℕ → ℕ → List ℕ → List ℕ → List ℕ
after [] start i s registers = registers
after (ins ∷ more) start i s registers = after more start (suc i) s (registers_after s start i registers ins)

module _ (k start : ℕ) (s : List ℕ) (n : ℕ) (long : length s ≡ 4 * n) where
  from_word : (all : List Instruction) (i : ℕ) (registers : List ℕ) → i + length all ≡ n → WordsAre k all i s →
      ran_from start i registers (pieces_from 4 s n i) ≡ ran 0 n (after all start i s registers)
  unfolding ran_from after
  from_word [] i registers e are =
      let last : n ≡ i = omega arith in
      ap (λ (m : ℕ). ran_from start i registers (pieces_from 4 s m i)) last ∙ ap (ran_from start i registers) (from_end 4 s i)
      ∙ ap (λ (m : ℕ). ran 0 m registers) (sym last)
  from_word (ins ∷ more) i registers e are =
      ran-at s start i n registers (omega arith) (some ins) (whole_word s start i (omega arith) ∙ are.0.0)
      ∙ from_word more (suc i) (registers_after s start i registers ins) (omega arith) are.1

-- The whole run is accepted, and ends after its last word.
pub runs_through : (k start : ℕ) (s : List ℕ) (all : List Instruction) (registers : List ℕ) → Holds k all s → length s ≤ run_limit →
    run_of s start registers ≡ ran 0 (length all) (after all start 0 s (first_zero registers))
runs_through k start s all registers h short =
    let n : ℕ = length all in
    let count : (length s + 3) / 4 ≡ n = omega (arith, h.only) in
    rw (le-ltb run_limit (length s) short, count)
    (ap (ran_from start 0 (first_zero registers)) (sym (from_start 4 s n))
    ∙ from_word k start s n h.only all 0 (first_zero registers) (omega arith) h.words)

-- ---- one register

set_twice : (l : List ℕ) (i x y : ℕ) → set (set l i x) i y ≡ set l i y
set_twice [] i x y = refl
set_twice (z ∷ l) zero x y = refl
set_twice (z ∷ l) (suc i) x y = ap (λ (r : List ℕ). z ∷ r) (set_twice l i x y)

written_twice : (registers : List ℕ) (k x y : ℕ) → written (written registers k x) k y ≡ written registers k y
written_twice [] k x y = refl
written_twice (r ∷ registers) zero x y = refl
written_twice (r ∷ registers) (suc k) x y = ap (λ (l : List ℕ). 0 ∷ l) (set_twice registers k x y)

-- What was written to a register that is not the first stands there.
stands : (registers : List ℕ) (k x : ℕ) → (k ≡ 0 → ⊥) → k < length registers → GR (written registers k x) k ≡ x
stands registers k x other low = get_or-set_other (set registers k x) 0 k 0 0 other ∙ get_or-set_same registers k x 0 low

-- An instruction that reads the register, in which x stands, and writes to it again, by an immediate that is known.
pub again : (registers : List ℕ) (k : ℕ) → (k ≡ 0 → ⊥) → k < length registers → {now : List ℕ} {d j i i' : ℕ} (f : ℕ → ℕ → ℕ) (x : ℕ) →
    now ≡ written registers k x → d ≡ k → j ≡ k → i ≡ i' → written now d (f i (GR now j)) ≡ written registers k (f i' x)
again registers k other low {now} {i = i} f x e writes reads is =
    ap₂ (λ (a b : ℕ). written now a (f i (GR now b))) writes reads
    ∙ ap (λ (rs : List ℕ). written rs k (f i (GR rs k))) e
    ∙ ap₂ (λ (a b : ℕ). written (written registers k x) k (f a b)) is (stands registers k x other low)
    ∙ written_twice registers k x _
