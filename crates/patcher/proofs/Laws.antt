-- The output for what was read, over plain numbers and lists.
use Rattle.std.proofs.Common.{◌≡◌, ℕ, ◌+◌, ◌≤◌, List, ◌++◌, length, take, drop, length-append, sym, ap, ◌∙◌, subst, arith}
use Rattle.std.proofs.lemmas.List.{length-take-le, take-append-le, take_at}
use Rattle.std.proofs.Math.Seq.{take-append-add}
use Rattle.std.specs.Prelude.{Option, Some, None, Result, Ok, Err}
use Rattle.std.specs.Result.{OnOk, is_ok}
use mathlib.Core.Bool.{false≢true}
use Rattle.std.specs.Io.KnownBytes.{Appends}
use borrow.Author.Tests.{ne_eqb}
use borrow.Rule.Slice.PartMut.{put_mid, post_of}
use Rattle.meaning.specs.Checks.{answer}
use Rattle.meaning.specs.Frames.{written, reading_of, output_for, output_of}
use Rattle.refusals.specs.Numbers.{number_of, numbered}
use Rattle.frames.specs.declared.Gathered.{Gathered}
use Rattle.frames.specs.declared.Fault.{Fault}
use Rattle.frames.specs.Gathered.{reading_in}
use Rattle.output.specs.Text.{input_bytes}
use Rattle.output.proofs.Beyond.{beyond_no_matter}
use Rattle.patcher.specs.Read.{Takes}
use Rattle.patcher.specs.Output.{Output, output_patched, Answered}

-- of a refusal the section is not written
any_section : (n p : ℕ) (s t : List ℕ) → (n ≡ 0 → ⊥) → written (answer n p) s ≡ written (answer n p) t
unfolding written
any_section n p s t h = simp (ne_eqb n 0 h)

module _ (s v q input : List ℕ) (r : ℕ) (came is : List ℕ) where
  pub refused_output : (f : Fault) → reading_in (Err f) s v q ≡ reading_of input → (n : ℕ) → n ≡ number_of f.refused.refusal → (w : List ℕ) →
      is ≡ written (answer n f.refused.place) w ++ drop r came → r ≡ length (written (answer n f.refused.place) w) → Output r (output_of input) came is
  unfolding output_for
  refused_output f e n m w b k =
      let h : n ≡ 0 → ⊥ = λ z. numbered f.refused.refusal (sym m ∙ z) in
      rw (← e, ← m, ne_eqb n 0 h, any_section n f.refused.place _ w h) (record { bytes = b; count = k })

  pub patched_output : (g : Gathered) → reading_in (Ok g) s v q ≡ reading_of input →
      Output r (output_patched (take g.section s) (take g.records q) (take g.values v) g.address g.gp) came is → Output r (output_of input) came is
  unfolding output_for
  patched_output g e o = rw (← e) o

-- it has room in its buffer
pub output_fits : (r : ℕ) (w came is : List ℕ) → Output r w came is → r ≤ length is
output_fits r w came is o = let k = o.count in omega (arith, ap length o.bytes, length-append w (drop r came))

-- the output for the first bytes is that for the whole
pub whole_output : (input : List ℕ) (r : ℕ) (came is : List ℕ) → Output r (output_of input) came is →
    (whole : List ℕ) → take input_bytes whole ≡ input → Output r (output_of whole) came is
whole_output input r came is o whole e = subst (λ (w : List ℕ). Output r w came is) (ap output_of (sym e) ∙ beyond_no_matter whole input_bytes (omega arith)) o

-- a read into the end of a buffer leaves what stood before it, and so many bytes more
pub read_more : (n m k : ℕ) (buffer read : List ℕ) → n ≤ length buffer → m ≤ length read →
    take (n + m) (put_mid n k buffer read) ≡ take n buffer ++ take m read
read_more n m k buffer read within fits =
    let e : length (take n buffer) ≡ n = length-take-le n buffer within in
    subst (λ (j : ℕ). take (j + m) (put_mid n k buffer read) ≡ take n buffer ++ take m read) e
    (take-append-add (take n buffer) (read ++ post_of n k buffer) m ∙ ap (λ (l : List ℕ). take n buffer ++ l) (take-append-le m read (post_of n k buffer) fits))

-- where the output for what was read is written, that for all that was left to read is
pub answered : (known before after : Option (List ℕ)) (n r : ℕ) (buffer came is : List ℕ) → length buffer ≡ input_bytes → Takes n known buffer →
    ((whole : List ℕ) → take input_bytes whole ≡ take n buffer → Output r (output_of whole) came is) → Appends before after (take r is) →
    Answered known before after
answered None before after n r buffer came is e taken output written = tt
answered (Some left) before after n r buffer came is e taken output written =
    let o = output left (sym (taken ∙ ap (λ (k : ℕ). take k left) e)) in
    subst (Appends before after) (ap (take r) o.bytes ∙ take_at (output_of left) (drop r came) r (sym o.count)) written

-- what a call that succeeds gives, with the error as another
pub error_as : {T E F P Q : Type 0} (was : Result T E) (is : Result T F) → is_ok is ≡ is_ok was → (P → Q) → OnOk was P → OnOk is Q
error_as (Ok x) (Ok y) e f p = f p
error_as (Ok x) (Err b) e f p = tt
error_as (Err a) (Ok y) e f p = absurd (false≢true (sym e))
error_as (Err a) (Err b) e f p = tt
