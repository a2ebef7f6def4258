-- What one record leaves as it was: the section's length, every byte outside its place, and that the bytes are bytes.
use Rattle.std.specs.Prelude.{ℕ, zero, suc, ◌+◌, ◌<◌, ◌≤◌, false, List, ◌⊎◌, ◌≡◌, refl, length, take, drop, get_or}
use Rattle.std.proofs.Math.Path.{subst⁻¹}
use Rattle.std.proofs.Common.{ltb-false, take-append-drop}
use Rattle.std.proofs.Math.Dec.{eqb-suc-zero}
use Rattle.meaning.specs.Numbers.{bytes_of, number, bits_of}
use Rattle.meaning.specs.Table.{Semantics, unnamed, idle, loaders, push, operation, word, bytes}
use Rattle.meaning.specs.Call.{Setting, Record, formula}
use Rattle.meaning.specs.Stack.{Stack}
use Rattle.meaning.specs.Checks.{writes, outside, word_value}
use Rattle.meaning.specs.Field.{put}
use Rattle.meaning.specs.Patch.{replaced, combined, effect}
use Rattle.lemmas.specs.Bytes.{length-bytes_of, bytes_of_bytes}
use Rattle.laws.specs.Replaced.{Bytes, laid-length, laid-outside, laid_bytes}

-- The section s became s' by a write of n bytes at a place.
pub record Kept (at n : ℕ) (s s' : List ℕ) : Type 0 where
  pub same_length : length s' ≡ length s
  pub elsewhere : (i : ℕ) → (i < at) ⊎ (at + n ≤ i) → get_or s' i 0 ≡ get_or s i 0
  pub still_bytes : Bytes s → Bytes s'

kept_same : (at n : ℕ) (s : List ℕ) → Kept at n s s
kept_same at n s = record { same_length = refl; elsewhere = λ i h. refl; still_bytes = λ p. p }

-- A write that refusal 8 passes lies inside the section.
pub inside-section : (size at n : ℕ) → outside size at (suc n) ≡ false → at + suc n ≤ size
inside-section size at n h = ltb-false size (at + suc n) (rw eqb-suc-zero at h)

replaced_keeps : (at n : ℕ) (f : ℕ → ℕ) (s : List ℕ) → outside (length s) at n ≡ false → Kept at n s (replaced at n f s)
unfolding bytes_of
replaced_keeps at zero f s h = subst⁻¹ (λ (x : List ℕ). Kept at zero s x) (take-append-drop at s) (kept_same at zero s)
replaced_keeps at (suc n) f s h =
    let new : List ℕ = bytes_of (suc n) (f (number (take (suc n) (drop at s)))) in
    let size : length new ≡ suc n = length-bytes_of (suc n) (f (number (take (suc n) (drop at s)))) in
    let fits : at + suc n ≤ length s = inside-section (length s) at n h in
    record {
      same_length = laid-length at (suc n) new s size fits;
      elsewhere = laid-outside at (suc n) new s size fits;
      still_bytes = laid_bytes at (suc n) new s size fits (bytes_of_bytes (suc n) (f (number (take (suc n) (drop at s)))));
    }

pub effect_keeps : (c : Setting) (r : Record) (does : Semantics) (st : Stack) (s : List ℕ) → outside (length s) r.offset (writes does) ≡ false →
    Kept r.offset (writes does) s (effect c r does st s)
effect_keeps c r unnamed st s h = kept_same _ _ s
effect_keeps c r idle st s h = kept_same _ _ s
effect_keeps c r loaders st s h = kept_same _ _ s
effect_keeps c r (push f) st s h = kept_same _ _ s
effect_keeps c r (operation o) st s h = kept_same _ _ s
effect_keeps c r (word source parts range) st s h =
    replaced_keeps r.offset 4 (put parts (bits_of c.card.width (word_value c r st source))) s h
effect_keeps c r (bytes way n f) st s h = replaced_keeps r.offset n (combined way n (formula c r f)) s h
