-- Any two results that `read`'s contract allows are equal, for every input: the answer, and every byte of the three buffers.
use Prim.Native.Nat.{ℕ}
use native.Mathlib.Omega.{arith}
use mathlib.Core.List.{List, ◌++◌}
use mathlib.Core.Path.{◌≡◌, refl, sym, ap, ◌∙◌}
use lib.ListN.{length, take, drop, take-append-drop}
use lib.Seq.{length-take-le}
use Rattle.std.specs.Prelude.{Result, Ok, Err}
use Rattle.meaning.specs.Call.{card64}
use Rattle.meaning.specs.Checks.{Answer, section_limit, values_limit}
use Rattle.meaning.specs.Frames.{Input, Reading}
use Rattle.refusals.specs.Numbers.{number_unique, numbered}
use Rattle.frames.specs.declared.Gathered.{Gathered}
use Rattle.frames.specs.declared.Fault.{Fault}
use Rattle.frames.specs.Gathered.{input_in, gathered_in, reading_in, Filled}
use Rattle.frames.proofs.Reader.{Answered}

-- a buffer is what was written to it, and the rest as it came
module _ (limit n m : ℕ) (came is is' : List ℕ) (f : Filled limit n came is) (g : Filled limit m came is') (e : take n is ≡ take m is') where
  pub same_count : n ≡ m
  same_count =
      let fw = f.whole in
      let fi = f.within in
      let gw = g.whole in
      let gi = g.within in
      let a : length (take n is) ≡ n = length-take-le n is (omega arith) in
      let b : length (take m is') ≡ m = length-take-le m is' (omega arith) in
      sym a ∙ ap length e ∙ b

  pub same_bytes : is ≡ is'
  same_bytes =
      sym (take-append-drop n is)
      ∙ ap (λ (l : List ℕ). take n is ++ l) (f.kept ∙ ap (λ (k : ℕ). drop k came) same_count ∙ sym g.kept)
      ∙ ap (λ (l : List ℕ). l ++ drop m is') e
      ∙ take-append-drop m is'

-- what was gathered, with or without a fault
of_input : (r : Result Gathered Fault) (s v q : List ℕ) → (reading_in r s v q).input ≡ input_in (gathered_in r) s v q
of_input (Ok got) s v q = refl
of_input (Err fault) s v q = refl

module _ (input s₀ v₀ q₀ s v q s' v' q' : List ℕ) (r r' : Result Gathered Fault) (a : Answered input s₀ v₀ q₀ s v q r) (b : Answered input s₀ v₀ q₀ s' v' q' r') where
  inputs : input_in (gathered_in r) s v q ≡ input_in (gathered_in r') s' v' q'
  inputs = sym (of_input r s v q) ∙ ap (λ (x : Reading). x.input) (a.is ∙ sym b.is) ∙ of_input r' s' v' q'

  pub same-section : s ≡ s'
  same-section = same_bytes section_limit _ _ s₀ s s' a.section b.section (ap (λ (i : Input). i.section) inputs)

  pub same-values : v ≡ v'
  same-values = same_bytes values_limit _ _ v₀ v v' a.values b.values (ap (λ (i : Input). i.values) inputs)

  pub same_records : q ≡ q'
  same_records = same_bytes card64.records_limit _ _ q₀ q q' a.records b.records (ap (λ (i : Input). i.records) inputs)

  same_gathered : gathered_in r ≡ gathered_in r'
  same_gathered =
      built _ _ (ap (λ (i : Input). i.address) inputs) (ap (λ (i : Input). i.gp) inputs)
      (same_count section_limit _ _ s₀ s s' a.section b.section (ap (λ (i : Input). i.section) inputs))
      (same_count values_limit _ _ v₀ v v' a.values b.values (ap (λ (i : Input). i.values) inputs))
      (same_count card64.records_limit _ _ q₀ q q' a.records b.records (ap (λ (i : Input). i.records) inputs))
    where
      built : (g h : Gathered) → g.address ≡ h.address → g.gp ≡ h.gp → g.section ≡ h.section → g.values ≡ h.values → g.records ≡ h.records →
          record { address = g.address; gp = g.gp; section = g.section; values = g.values; records = g.records } ≡ h
      built g h a b d e f = rw (a, b, d, e, f)

  pub same_answer : r ≡ r'
  same_answer = go r r' (ap (λ (x : Reading). x.refusal) (a.is ∙ sym b.is)) same_gathered
    where
      built : (g h : Fault) → g.refused.refusal ≡ h.refused.refusal → g.refused.place ≡ h.refused.place → g.gathered ≡ h.gathered →
          record { refused = record { refusal = g.refused.refusal; place = g.refused.place }; gathered = g.gathered } ≡ h
      built g h a b d = rw (a, b, d)

      go : (r r' : Result Gathered Fault) → (reading_in r s v q).refusal ≡ (reading_in r' s' v' q').refusal → gathered_in r ≡ gathered_in r' → r ≡ r'
      go (Ok g) (Ok h) e f = ap Ok f
      go (Ok g) (Err h) e f = absurd (numbered h.refused.refusal (sym (ap (λ (x : Answer). x.number) e)))
      go (Err g) (Ok h) e f = absurd (numbered g.refused.refusal (ap (λ (x : Answer). x.number) e))
      go (Err g) (Err h) e f =
          ap Err (built g h (number_unique g.refused.refusal h.refused.refusal (ap (λ (x : Answer). x.number) e)) (ap (λ (x : Answer). x.place) e) f)
