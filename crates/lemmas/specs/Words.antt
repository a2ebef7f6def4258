-- The words of a run by their number: how the meaning's list of words comes to the word at a place.
use Rattle.std.specs.Prelude.{ℕ, suc, ◌*◌, ◌<◌, ◌≤◌, List, ◌≡◌, length}
use Rattle.std.proofs.Math.Option.{Option}
use Rattle.std.proofs.Math.Path.{ap}
use Rattle.std.proofs.Common.{◌∙◌}
use Rattle.meaning.specs.Numbers.{number, plus}
use Rattle.meaning.specs.Executor.{Instruction, six, decoded, instruction, step, Ran, ran, either, ran_from}
use Rattle.lemmas.specs.Pieces.{piece, pieces_from, from_next, length-piece}

module _ (run : List ℕ) (start i : ℕ) where
  -- The registers after word i, if it is this instruction.
  abbrev pub registers_after : List ℕ → Instruction → List ℕ
  registers_after registers ins = step (plus 64 start (4 * i)) ins (number (piece 4 run i)) registers

  -- A whole word is four bytes.
  pub whole_word : 4 * suc i ≤ length run → instruction (piece 4 run i) ≡ decoded six (number (piece 4 run i))
  whole_word h = rw (length-piece 4 run i h)

  -- From word i on, of n: it is this instruction, and the run goes on, or none, and the run ends here.
  pub ran-at : (n : ℕ) (registers : List ℕ) → i < n → (d : Option Instruction) → instruction (piece 4 run i) ≡ d →
      ran_from start i registers (pieces_from 4 run n i)
      ≡ either d (λ ins. ran_from start (suc i) (registers_after registers ins) (pieces_from 4 run n (suc i))) (ran 19 i registers)
  unfolding ran_from
  ran-at n registers h d is =
      let onward : Instruction → Ran = λ ins. ran_from start (suc i) (registers_after registers ins) (pieces_from 4 run n (suc i)) in
      ap (ran_from start i registers) (from_next 4 run n i h) ∙ ap (λ (o : Option Instruction). either o onward (ran 19 i registers)) is
