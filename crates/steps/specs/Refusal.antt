-- The refusal of one record by the class of its type: the checks that can fail, in their order, the others passing by themselves.
use Prim.Native.Nat.{ℕ, suc, ◌≤◌}
use Rattle.std.proofs.Common.{arith, sym, ◌∙◌}
use Rattle.std.specs.Prelude.{Bool, true, false, cond, List, [], ◌++◌, ◌≡◌, eqb, ltb, drop}
use Rattle.std.proofs.Math.Option.{some}
use Rattle.std.proofs.Math.Path.{refl, ap}
use borrow.Author.Tests.{le-ltb}
use Rattle.std.proofs.Math.Dec.{leb-suc-zero}
use Rattle.std.proofs.Math.ListN.{length, length-drop}
use Rattle.meaning.specs.Table.{Semantics, unnamed, idle, loaders, push, operation, word, bytes, stack, of, Formula, Operation, Part, Accepted, Way}
use Rattle.meaning.specs.Call.{Setting, Record, PC, value_of, sum_of, formula}
use Rattle.meaning.specs.Numbers.{signed}
use Rattle.meaning.specs.Stack as MS
use Rattle.meaning.specs.Stack.{depth, entry, takes, pushes, after}
use Rattle.meaning.specs.Checks.{Answer, answer_at, first, past, absent, outside, unaligned, refuses}
use Rattle.lemmas.specs.Operations.{own-number}
use Rattle.lemmas.specs.Passed.{refusal_of}
use Rattle.table.specs.Keys.{class}
use Rattle.steps.specs.Step.{value_refusal, place_refusal, range_refusal}

-- One refusal, and where there is none another.
abbrev pub then : ℕ → ℕ → ℕ
then n m = cond (eqb n 0) m n

then-two : (a b : Bool) (m n x : ℕ) → eqb m 0 ≡ false → eqb n 0 ≡ false → cond a m (cond b n x) ≡ then (cond a m (cond b n 0)) x
then-two true b m n x e f = rw e
then-two false true m n x e f = rw f
then-two false false m n x e f = refl

-- ---- the classes

number_cond : (b : Bool) (n o : ℕ) (a : Answer) → (cond b (answer_at n 0 o) a).number ≡ cond b n a.number
number_cond true n o a = refl
number_cond false n o a = refl

module _ (c : Setting) (r : Record) (st : MS.Stack) (low : length st ≤ depth) where
  refusal_idle : refusal_of c r idle st ≡ 0
  unfolding first
  refusal_idle = simp (leb-suc-zero, le-ltb depth (length st) low, number_cond)

  abbrev missing : Formula → Bool
  missing f = past c r (some (value_of (sum_of f)))

  abbrev lacks : Formula → Bool
  lacks f = absent r (some (value_of (sum_of f)))

  abbrev beside : Bool
  beside = outside c.size r.offset 4

  pub refusal-push : (f : Formula) → refusal_of c r (push f) st ≡ then (value_refusal c r (value_of (sum_of f))) (cond (ltb depth (suc (length st))) 11 0)
  unfolding first
  refusal-push f = simp (leb-suc-zero, number_cond) (then-two (missing f) (lacks f) 6 7 (cond (ltb depth (suc (length st))) 11 0) refl refl)

  pub refusal_bytes : (way : Way) (n : ℕ) (f : Formula) →
      refusal_of c r (bytes way n f) st ≡ then (value_refusal c r (value_of (sum_of f))) (cond (outside c.size r.offset n) 8 0)
  unfolding first
  refusal_bytes way n f =
      simp (leb-suc-zero, le-ltb depth (length st) low, number_cond) (then-two (missing f) (lacks f) 6 7 (cond (outside c.size r.offset n) 8 0) refl refl)

  pub refusal_word : (f : Formula) (parts : List Part) (range : Accepted) →
      refusal_of c r (word (of f) parts range) st
      ≡ then (value_refusal c r (value_of (sum_of f))) (then (place_refusal c r) (range_refusal range (signed c.card.width (formula c r f))))
  unfolding first
  refusal_word f parts range =
      let ranged : ℕ = range_refusal range (signed c.card.width (formula c r f)) in
      simp (leb-suc-zero, le-ltb depth (length st) low, number_cond)
      (then-two (missing f) (lacks f) 6 7 (cond beside 8 (cond (unaligned (PC c r)) 9 ranged)) refl refl
      ∙ ap (then (value_refusal c r (value_of (sum_of f)))) (then-two beside (unaligned (PC c r)) 8 9 ranged refl refl))

  pub refusal_pop : (parts : List Part) (range : Accepted) →
      refusal_of c r (word stack parts range) st ≡ then (place_refusal c r) (cond (ltb (length st) 1) 10 (range_refusal range (entry st 0)))
  unfolding first
  refusal_pop parts range =
      let h : length (drop 1 st) ≤ depth = simp length-drop (omega arith) in
      simp (le-ltb depth (length (drop 1 st)) h, number_cond)
      (then-two beside (unaligned (PC c r)) 8 9 (cond (ltb (length st) 1) 10 (range_refusal range (entry st 0))) refl refl)

  pub refusal_operation : (o : Operation) → refusal_of c r (operation o) st ≡
      cond (ltb (length st) (takes o)) 10
      (cond (ltb depth (length (pushes c.card.width o (entry st 0) (entry st 1) (entry st 2) ++ drop (takes o) st))) 11
      (refuses c.card.width o (entry st 0)))
  unfolding first
  refusal_operation o = simp (number_cond, own-number c.card.width o (entry st 0))

-- Direct types: the stack before them decides nothing.
pub direct_refusal : (c : Setting) (r : Record) (st : MS.Stack) → length st ≤ depth → (d : Semantics) → class d ≤ 2 → refusal_of c r d [] ≡ refusal_of c r d st
unfolding first
direct_refusal c r st low unnamed h = refl
direct_refusal c r st low idle h = sym (refusal_idle c r st low)
direct_refusal c r st low loaders h = refl
direct_refusal c r st low (push f) h = absurd (omega arith)
direct_refusal c r st low (operation o) h = absurd (omega arith)
direct_refusal c r st low (word stack parts range) h = absurd (omega arith)
direct_refusal c r st low (word (of f) parts range) h = refusal_word c r [] (omega arith) f parts range ∙ sym (refusal_word c r st low f parts range)
direct_refusal c r st low (bytes way n f) h = refusal_bytes c r [] (omega arith) way n f ∙ sym (refusal_bytes c r st low way n f)

-- and they leave it
pub direct_after : (c : Setting) (r : Record) (st : MS.Stack) (d : Semantics) → class d ≤ 2 → st ≡ after c r d st
direct_after c r st unnamed h = refl
direct_after c r st idle h = refl
direct_after c r st loaders h = refl
direct_after c r st (push f) h = absurd (omega arith)
direct_after c r st (operation o) h = absurd (omega arith)
direct_after c r st (word stack parts range) h = absurd (omega arith)
direct_after c r st (word (of f) parts range) h = refl
direct_after c r st (bytes way n f) h = refl
