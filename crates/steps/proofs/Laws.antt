-- Judging with the stack, the sides of a range, and the types that `others` is left with. Assumes nothing.
use Rattle.std.proofs.Common.{◌≡◌, ◌≢◌, ℕ, zero, suc, ◌≤◌, ◌<◌, ◌⊎◌, Bool, true, false, ◌||◌, cond, ltb, ℤ, pos, negsuc, neg_ℤ, List, [], ◌∷◌, length, drop, Result, Some, SFits, w64, refl, sym, ap, ◌∙◌, le-ltb, arith}
use mathlib.Core.Bool.{false≢true}
use lib.Dec.{leb-suc-zero}
use lib.Signed.{lt_z}
use Rattle.meaning.specs.Table.{Formula, Accepted, Semantics, unnamed, loaders, push, word, stack, table, look, semantics}
use Rattle.meaning.specs.Numbers.{signed, bits_of}
use Rattle.meaning.specs.Call.{value_of, sum_of, formula}
use Rattle.meaning.specs.Stack.{depth, entry}
use Rattle.lemmas.specs.Look.{every}
use Rattle.lemmas.specs.Passed.{refusal_of}
use Rattle.refusals.specs.Numbers.{refusal_in}
use Rattle.refusals.specs.declared.Refusal.{Refusal}
use Rattle.numbers.specs.Laws.{signed_bits}
use Rattle.table.specs.Keys as K
use Rattle.table.specs.Keys.{class, same_keys, from_up, in_range, out_of_range}
use Rattle.stack.specs.declared.Stack.{Stack}
use Rattle.stack.specs.Tops.{tops, Fit, Stands, taken_at}
use Rattle.stack.specs.Laws.{length-tops, taken_empty, taken-value, some_there}
use Rattle.records.specs.Given.{setting_in, record_in}
use Rattle.records.specs.declared.Record.{Record}
use Rattle.steps.specs.Step.{value_refusal, place_refusal, range_refusal, Steps}
use Rattle.steps.specs.Refusal.{then, refusal_pop, refusal-push, direct_refusal, direct_after}

-- ---- with the stack

-- a refusal before the stack is looked at, and an empty stack
pub ruleset refused = (length-tops, taken_empty)

short : (s : List ℤ) (h : ℕ) → Fit s h → length (tops s h) ≤ depth
short s h fit = rw length-tops fit.low

module _ (r : Record) (s : List ℤ) (h : ℕ) where
  -- a direct type leaves the stack as it is
  pub direct_steps : (d : Semantics) (j : Result Stack Refusal) → class d ≤ 2 → Fit s h
      → refusal_in j ≡ refusal_of (setting_in r) (record_in r) d [] → Stands (tops s h) s j → Steps (setting_in r) (record_in r) d s h s j
  direct_steps d j low fit says leaves = record {
    says = says ∙ direct_refusal (setting_in r) (record_in r) (tops s h) (short s h fit) d low;
    leaves = rw (sym (direct_after (setting_in r) (record_in r) (tops s h) d low)) leaves;
  }

  pub push_steps : (f : Formula) (s' : List ℤ) (j : Result Stack Refusal) → Fit s h
      → refusal_in j ≡ then (value_refusal (setting_in r) (record_in r) (value_of (sum_of f))) (cond (ltb depth (suc h)) 11 0)
      → Stands (signed 64 (formula (setting_in r) (record_in r) f) ∷ tops s h) s' j → Steps (setting_in r) (record_in r) (push f) s h s' j
  push_steps f s' j fit says leaves = record {
    says = says ∙ sym (rw length-tops at (refusal-push (setting_in r) (record_in r) (tops s h) (short s h fit) f));
    leaves = leaves;
  }

  -- a word's value z taken, and tested as the 64 bits x
  pub pop_steps : (range : Accepted) (z : ℤ) (k : ℕ) (j : Result Stack Refusal) → Fit s h → place_refusal (setting_in r) (record_in r) ≡ 0
      → taken_at s h ≡ Some (z, k) → refusal_in j ≡ range_refusal range z → Stands (tops s k) s j
      → Steps (setting_in r) (record_in r) (word stack [] range) s h s j
  pop_steps range z k j fit placed taken says leaves =
      let there = some_there s h taken in
      let below : drop 1 (tops s h) ≡ tops s k = ap (drop 1) (taken-value s h taken).0 in
      record {
        says = says ∙ rw (sym there.1) (sym (rw (length-tops, placed, le-ltb h 1 (omega arith)) at (refusal_pop (setting_in r) (record_in r) (tops s h) (short s h fit) [] range)));
        leaves = rw below leaves;
      }

-- ---- which way a value missed its range

-- Every range has 0 in it: what lies outside is below it where it is negative, and above it where it is not.
pub sides : (least most : ℕ) (z : ℤ) (m : ℕ) → (lt_z (pos most) z || lt_z z (neg_ℤ (pos least))) ≡ true →
    cond (lt_z (pos most) z) 14 (cond (lt_z z (neg_ℤ (pos least))) 18 m) ≡ cond (lt_z z (pos 0)) 18 14
sides zero most (pos a) m e = by (ltb most a) e
  where
    by : (t : Bool) → (t || ltb a 0) ≡ true → cond t 14 (cond (ltb a 0) 18 m) ≡ cond (ltb a 0) 18 14
    by true e = rw leb-suc-zero
    by false e = absurd (false≢true (rw leb-suc-zero at e))
sides (suc least) most (pos a) m e = by (ltb most a) e
  where
    by : (t : Bool) → (t || false) ≡ true → cond t 14 m ≡ cond (ltb a 0) 18 14
    by true e = rw leb-suc-zero
    by false e = absurd (false≢true e)
sides least most (negsuc a) m e = rw e

-- ---- the types of no class, by their numbers: one that no arm names is not named

pub loaders_own : (t : ℕ) → 3 ≤ t → t ≤ 12 → semantics t ≡ loaders
unfolding table look from_up
loaders_own t above below = sym (same_keys semantics loaders (from_up 3 10) t (in_range 3 10 t above (omega arith)) refl)

pub not_named : (t : ℕ) → (t < 3) ⊎ (12 < t) → t ≢ 0 → (t < 20) ⊎ (21 < t) → (t < 57) ⊎ (58 < t) → t ≢ 100 → class (semantics t) ≤ 0 → semantics t ≡ unnamed
unfolding every table from_up
not_named t theirs none marks tables relax low =
    K.not_named (from_up 3 10 ∷ (0 ∷ []) ∷ from_up 20 2 ∷ from_up 57 2 ∷ (100 ∷ []) ∷ []) t tt
    (((((tt, out_of_range 3 10 t theirs), none), out_of_range 20 2 t marks), out_of_range 57 2 t tables), relax) low

pub ruleset unclassed = (loaders_own, not_named)
