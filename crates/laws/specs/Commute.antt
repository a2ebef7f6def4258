-- Demand 3, the rule: what two groups that write no common byte leave does not depend on which of them comes first.
use Rattle.std.specs.Prelude.{ℕ, zero, suc, ◌+◌, ◌≤◌, Bool, true, false, not, ◌&&◌, ◌||◌, ◌≡◌, T, eqb, ltb, length, take, drop}
use Rattle.std.proofs.Common.{arith, true≢false, sym, ◌∙◌, subst, ltb-false, length-drop, take-append-drop, length-take-le, take_at, drop_at}
use mathlib.Core.List.{List, [], ◌∷◌, ◌++◌, append_assoc}
use Rattle.std.proofs.Math.Path.{refl, ap}
use Rattle.std.proofs.Math.Dec.{eqb-suc-zero}
use Rattle.std.proofs.lemmas.List.{take-append-le, drop-append-le}
use Rattle.meaning.specs.Numbers.{bytes_of, number, bits_of}
use Rattle.meaning.specs.Table.{Semantics, unnamed, idle, loaders, push, operation, word, bytes}
use Rattle.meaning.specs.Call.{Setting, Call, Record, does, records_of, formula}
use Rattle.meaning.specs.Stack.{Stack, after}
use Rattle.meaning.specs.Field.{put}
use Rattle.meaning.specs.Checks.{writes, outside, word_value, of_record}
use Rattle.meaning.specs.Patch.{replaced, combined, effect, patched}
use Rattle.meaning.specs.Order.{common, common_with, common_byte, may_change}
use Rattle.lemmas.specs.Bytes.{length-bytes_of}
use Rattle.lemmas.specs.Passed.{passed}
use Rattle.laws.specs.First.{Every, Passes}
use Rattle.laws.specs.Replaced.{laid-length}
use Rattle.laws.specs.Effect.{inside-section, effect_keeps}

-- ---- two replacements

module _ (n : ℕ) (f : ℕ → ℕ) where
  -- A replacement in the first of two parts, and one at the start of the second.
  replaced-left : (at : ℕ) (p q : List ℕ) → at + n ≤ length p → replaced at n f (p ++ q) ≡ replaced at n f p ++ q
  replaced-left at p q h =
      let a : at ≤ length p = omega arith in
      let b : n ≤ length (drop at p) = simp length-drop (omega arith) in
      simp (take-append-le, drop-append-le, append_assoc)

  replaced_right : (at : ℕ) (p q : List ℕ) → length p ≡ at → replaced at n f (p ++ q) ≡ p ++ replaced 0 n f q
  replaced_right at p q e = rw (take_at p q at e, drop_at p q at e)

-- A replacement of no bytes.
replaced_none : (at : ℕ) (f : ℕ → ℕ) (s : List ℕ) → replaced at 0 f s ≡ s
unfolding bytes_of
replaced_none at f s = take-append-drop at s

-- Two places, each with how many bytes it has and what to make of them.
module _ (at n : ℕ) (f : ℕ → ℕ) (at' n' : ℕ) (f' : ℕ → ℕ) where
  abbrev Commute : List ℕ → Type 0
  Commute s = replaced at' n' f' (replaced at n f s) ≡ replaced at n f (replaced at' n' f' s)

  -- The second place begins past the end of the first.
  parts_commute : (p q : List ℕ) → length p ≡ at' → at + n ≤ length p → Commute (p ++ q)
  parts_commute p q e h =
      let kept = laid-length at n (bytes_of n (f (number (take n (drop at p))))) p (length-bytes_of n _) h in
      ap (replaced at' n' f') (replaced-left n f at p q h)
      ∙ replaced_right n' f' at' (replaced at n f p) q (kept ∙ e)
      ∙ sym (replaced-left n f at p (replaced 0 n' f' q) h)
      ∙ sym (ap (replaced at n f) (replaced_right n' f' at' p q e))

  ordered_commute : (s : List ℕ) → at + n ≤ at' → at' ≤ length s → Commute s
  ordered_commute s h k =
      let e = length-take-le at' s k in
      subst Commute (take-append-drop at' s) (parts_commute (take at' s) (drop at' s) e (rw e h))

-- Two places have a common byte: the test that `common` makes of two records.
abbrev meet : ℕ → ℕ → ℕ → ℕ → Bool
meet at n at' n' = not (eqb n 0) && not (eqb n' 0) && ltb at (at' + n') && ltb at' (at + n)

refuted : (b : Bool) → T (not b) → b ≡ false
refuted true h = absurd h
refuted false h = refl

either_false : (a b : Bool) → (a || b) ≡ false → (a ≡ false) × (b ≡ false)
either_false true b e = absurd (true≢false e)
either_false false b e = (refl, e)

-- Two replacements inside the section at places with no common byte.
replaced_commute : (at n : ℕ) (f : ℕ → ℕ) (at' n' : ℕ) (f' : ℕ → ℕ) (s : List ℕ) →
    outside (length s) at n ≡ false → outside (length s) at' n' ≡ false →
    meet at n at' n' ≡ false → Commute at n f at' n' f' s
replaced_commute at zero f at' n' f' s i j h = ap (replaced at' n' f') (replaced_none at f s) ∙ sym (replaced_none at f _)
replaced_commute at (suc n) f at' zero f' s i j h = replaced_none at' f' _ ∙ sym (ap (replaced at (suc n) f) (replaced_none at' f' s))
replaced_commute at (suc n) f at' (suc n') f' s i j h = go (ltb at (at' + suc n')) refl
  where
    go : (b : Bool) → ltb at (at' + suc n') ≡ b → Commute at (suc n) f at' (suc n') f' s
    go true e =
        let apart : at + suc n ≤ at' = ltb-false at' (at + suc n) (rw (eqb-suc-zero n, eqb-suc-zero n', e) at h) in
        let fits = inside-section (length s) at' n' j in
        ordered_commute at (suc n) f at' (suc n') f' s apart (omega arith)
    go false e =
        let apart = ltb-false at (at' + suc n') e in
        let fits = inside-section (length s) at n i in
        sym (ordered_commute at' (suc n') f' at (suc n) f s apart (omega arith))

-- ---- two records, two lists of records

-- What a record leaves is a replacement of the bytes that it writes.
abbrev Replaces : ℕ → ℕ → (List ℕ → List ℕ) → Type 0
Replaces at n leaves = (f : ℕ → ℕ) × ((s : List ℕ) → leaves s ≡ replaced at n f s)

none : (at : ℕ) → Replaces at 0 (λ s. s)
none at = (λ x. x, λ s. sym (replaced_none at (λ x. x) s))

effect_replaces : (c : Setting) (r : Record) (d : Semantics) (st : Stack) → Replaces r.offset (writes d) (effect c r d st)
effect_replaces c r unnamed st = none r.offset
effect_replaces c r idle st = none r.offset
effect_replaces c r loaders st = none r.offset
effect_replaces c r (push f) st = none r.offset
effect_replaces c r (operation o) st = none r.offset
effect_replaces c r (word source parts range) st = (put parts (bits_of c.card.width (word_value c r st source)), λ s. refl)
effect_replaces c r (bytes way n f) st = (combined way n (formula c r f), λ s. refl)

replaces_commute : (at n : ℕ) (a : List ℕ → List ℕ) → Replaces at n a → (at' n' : ℕ) (b : List ℕ → List ℕ) → Replaces at' n' b →
    (s : List ℕ) → outside (length s) at n ≡ false → outside (length s) at' n' ≡ false → meet at n at' n' ≡ false → b (a s) ≡ a (b s)
replaces_commute at n a (f, p) at' n' b (g, q) s i j h =
    simp (p, q) (replaced_commute at n f at' n' g s i j h)

module _ (c : Setting) where
  -- How many bytes a record writes, the stack after it, what it leaves in the section, and its own checks.
  abbrev long : Record → ℕ
  long r = writes (does c r)

  abbrev next : Record → Stack → Stack
  next r st = after c r (does c r) st

  abbrev left : Record → Stack → List ℕ → List ℕ
  left r st s = effect c r (does c r) st s

  abbrev Sound : Record → Stack → Type 0
  Sound r st = Every Passes (of_record c 0 r (does c r) st)

  -- Every record of a list passes its checks, with the stack before the first.
  abbrev pub Checked : Stack → List Record → Type 0
  Checked st [] = Unit {0}
  Checked st (r ∷ rs) = Sound r st × Checked (next r st) rs

  abbrev pub Sized : List ℕ → Type 0
  Sized s = length s ≡ c.size

  inside : (r : Record) (st : Stack) (s : List ℕ) → Sized s → Sound r st →
      outside (length s) r.offset (long r) ≡ false
  inside r st s e p = rw e (passed c 0 r (does c r) st p).inside

  left-sized : (r : Record) (st : Stack) (s : List ℕ) → Sized s → Sound r st → Sized (left r st s)
  left-sized r st s e p = (effect_keeps c r (does c r) st s (inside r st s e p)).same_length ∙ e

  pub patched-sized : (st : Stack) (s : List ℕ) (rs : List Record) → Sized s → Checked st rs → Sized (patched c st s rs)
  unfolding patched
  patched-sized st s [] e p = e
  patched-sized st s (r ∷ rs) e p = patched-sized (next r st) (left r st s) rs (left-sized r st s e p.0) p.1

  records_commute : (r q : Record) (st su : Stack) (s : List ℕ) → Sized s → Sound r st → Sound q su → common c r q ≡ false →
      left q su (left r st s) ≡ left r st (left q su s)
  records_commute r q st su s e p k h =
      replaces_commute r.offset (long r) (left r st) (effect_replaces c r (does c r) st)
      q.offset (long q) (left q su) (effect_replaces c q (does c q) su) s (inside r st s e p) (inside q su s e k) h

  -- A record past a list of records, and two lists.
  record_past : (r : Record) (st su : Stack) (s : List ℕ) (qs : List Record) → Sized s → Sound r st → Checked su qs →
      common_with c r qs ≡ false → patched c su (left r st s) qs ≡ left r st (patched c su s qs)
  unfolding patched common_with
  record_past r st su s [] e p k h = refl
  record_past r st su s (q ∷ qs) e p k h =
      let (one, rest) = either_false (common c r q) (common_with c r qs) h in
      ap (λ (x : List ℕ). patched c (next q su) x qs) (records_commute r q st su s e p k.0 one)
      ∙ record_past r st (next q su) (left q su s) qs (left-sized q su s e k.0) p k.1 rest

  lists_commute : (st su : Stack) (s : List ℕ) (rs qs : List Record) → Sized s → Checked st rs → Checked su qs →
      common_byte c rs qs ≡ false → patched c su (patched c st s rs) qs ≡ patched c st (patched c su s qs) rs
  unfolding patched common_byte
  lists_commute st su s [] qs e p k h = refl
  lists_commute st su s (r ∷ rs) qs e p k h =
      let (one, rest) = either_false (common_with c r qs) (common_byte c rs qs) h in
      lists_commute (next r st) su (left r st s) rs qs (left-sized r st s e p.0) p.1 k rest
      ∙ ap (λ (x : List ℕ). patched c (next r st) x rs) (record_past r st su s qs e p.0 k one)

-- The one place that says why the rule is right: two groups that may change places leave the same in either order.
pub change_places : (c : Call) (s g h : List ℕ) → Sized c.setting s →
    Checked c.setting [] (records_of c g) → Checked c.setting [] (records_of c h) → T (may_change c g h) →
    patched c.setting [] (patched c.setting [] s (records_of c g)) (records_of c h)
    ≡ patched c.setting [] (patched c.setting [] s (records_of c h)) (records_of c g)
change_places c s g h e p k m = lists_commute c.setting [] [] s (records_of c g) (records_of c h) e p k (refuted _ m)
