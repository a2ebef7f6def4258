-- What the writers leave; what each class leaves alone; and what a record may do that no check refuses.
use Rattle.std.proofs.Common.{◌≡◌, ℕ, suc, ◌*◌, ◌≤◌, ◌<◌, false, ℤ, List, [], length, ltb, refl, sym, ap, ◌∙◌, subst, arith, ltb-false}
use Rattle.meaning.specs.Numbers.{bytes_of, plus, minus}
use Rattle.meaning.specs.Table.{Semantics, push, operation, Formula, Operation}
use Rattle.meaning.specs.Call as M
use Rattle.meaning.specs.Call.{card64, offset_in}
use Rattle.meaning.specs.Stack.{depth, entry, takes, taken, after}
use Rattle.meaning.specs.Checks.{writes, outside}
use Rattle.meaning.specs.Patch.{effect}
use Rattle.lemmas.specs.Operations.{refuses-nothing}
use Rattle.lemmas.specs.Passed as P
use Rattle.lemmas.specs.Passed.{Passed, refusal_of}
use Rattle.lemmas.specs.Modulo.{bytes_minus}
use Rattle.table.specs.Keys.{class}
use Rattle.records.specs.declared.Record.{Record}
use Rattle.records.specs.Given.{setting_in, record_in}
use Rattle.stack.specs.Tops.{tops, operation_stack, operation_refusal}
use Rattle.stack.specs.Laws as S
use Rattle.stack.specs.Laws.{length-tops}

-- Adding what x lacks to 2 ^ 64 has the low bytes of subtracting x.
pub bytes_less : (n x old z : ℕ) → n ≤ 8 → z ≡ minus 64 0 x → bytes_of n (minus (8 * n) old x) ≡ bytes_of n (plus 64 z old)
bytes_less n x old z few e =
    let turned : minus 64 old x ≡ plus 64 z old = omega arith in
    sym (bytes_minus n old x few) ∙ ap (bytes_of n) turned

-- ---- the types of a match

-- A type of no class leaves the section.
pub nothing : (c : M.Setting) (r : M.Record) (d : Semantics) (section : List ℕ) → class d ≤ 0 → effect c r d [] section ≡ section
nothing c r d section h = grind arith

-- A direct type writes what it writes with no stack, and leaves the stack.
pub direct : (c : M.Setting) (r : M.Record) (d : Semantics) (st : List ℤ) (section : List ℕ) → class d ≤ 2 →
    (effect c r d st section ≡ effect c r d [] section) × (after c r d st ≡ st)
direct c r d st section h = grind arith

-- ---- a record that no check refuses, with the stack of this height in the entries before it

-- What it may do.
pub record May (rela : Record) (d : Semantics) (entries : List ℤ) (height : ℕ) : Type 0 where
  pub write : outside rela.setting.now.size (offset_in card64 rela.bytes.now) (writes d) ≡ false
  pub take : taken d ≤ height
  pub push : (f : Formula) → d ≡ push f → height < depth
  pub operate : (o : Operation) → d ≡ operation o → operation_refusal o (tops entries height) ≡ 0

module _ (rela : Record) (d : Semantics) (st : List ℤ) (p : Passed (setting_in rela) (record_in rela) d st) where
  pushing : (f : Formula) → d ≡ push f → length st < depth
  pushing f is = ltb-false depth (suc (length st)) (subst (λ d. ltb depth (length (after (setting_in rela) (record_in rela) d st)) ≡ false) is p.room)

  operating : (o : Operation) → d ≡ operation o → operation_refusal o st ≡ 0
  unfolding operation_stack
  operating o is =
      let q : Passed (setting_in rela) (record_in rela) (operation o) st = subst (λ d. Passed (setting_in rela) (record_in rela) d st) is p in
      S.not_refused o st (ltb-false (length st) (takes o) q.enough) (ltb-false depth (length (operation_stack o st)) q.room)
      ∙ refuses-nothing 64 o (entry st 0) q.count q.not_zero

-- The first part of the conclusion says nothing: it shows the check the call to match.
pub not_refused : (rela : Record) (d : Semantics) (entries : List ℤ) (height : ℕ) → refusal_of (setting_in rela) (record_in rela) d (tops entries height) ≡ 0 →
    (refusal_of (setting_in rela) (record_in rela) d (tops entries height) ≡ refusal_of (setting_in rela) (record_in rela) d (tops entries height))
    × May rela d entries height
not_refused rela d entries height e =
    let p = P.not_refused (setting_in rela) (record_in rela) d (tops entries height) e in (
      refl,
      record {
        write = p.inside;
        take = rw length-tops at (ltb-false (length (tops entries height)) (taken d) p.enough);
        push = λ f is. rw length-tops at (pushing rela d (tops entries height) p f is);
        operate = operating rela d (tops entries height) p;
      },
    )
