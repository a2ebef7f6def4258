-- The stack as a list: how long it is, which entries it looks at, and what taking and pushing make of it. Assumes nothing.
use Rattle.std.specs.Prelude.{◌≡◌, refl, ℕ, zero, suc, ◌+◌, ◌-◌, ◌≤◌, ◌<◌, Bool, true, false, cond, List, [], ◌∷◌, eqb, ltb, ℤ, pos, length, get_or, set, drop, Option, Some, None, Result, Ok, Err}
use Rattle.std.proofs.Common.{sym, ap, ap₂, ◌∙◌, subst, add-one, arith, ltb-true, ltb-false, lt-ltb, le-ltb, ne_eqb, length-set, get_or-set_same, get_or-set_other}
use Rattle.std.proofs.Math.Path.{subst⁻¹}
use Rattle.std.proofs.Math.Nat.{sub-zero}
use Rattle.std.proofs.Math.ListN.{length-drop}
use Rattle.std.proofs.lemmas.Option.{some_pair_parts}
use Rattle.meaning.specs.Table.{Operation, dup, assert, not, if_else}
use Rattle.meaning.specs.Stack.{depth, entry, is_zero, takes, pushes}
use Rattle.meaning.specs.Checks.{refuses}
use Rattle.refusals.specs.Numbers.{number_of}
use Rattle.refusals.specs.declared.Refusal.{Refusal}
use Rattle.refusals.specs.declared.Refusal.TheVariants.{StackEmpty, StackFull}
use Rattle.stack.specs.Tops.{taken_number, pushed_number, tops, Fit, Holds, Passes, taken_in, taken_at, pushed_in, if_room, pushed_at, entries_at, operation_stack, operation_refusal, Judges, JudgesOperation, Operates}
use Rattle.stack.specs.Pairs.{pair_of}
use Rattle.stack.specs.declared.Stack.{Stack}
use Rattle.stack.specs.declared.pairs.Pair.{Pair}
use Rattle.stack.specs.declared.pairs.Pair.TheVariants.{Sub, Sl, Sr, Add, And}

pub tops_none : (s : List ℤ) → tops s 0 ≡ []
unfolding tops
tops_none s = refl

pub length-tops : (s : List ℤ) (h : ℕ) → length (tops s h) ≡ h
unfolding tops
length-tops s zero = refl
length-tops s (suc h) = ap suc (length-tops s h)

-- entries at the height and above are not in the stack
pub tops-set : (s : List ℤ) (k : ℕ) (z : ℤ) (h : ℕ) → h ≤ k → tops (set s k z) h ≡ tops s h
unfolding tops
tops-set s k z zero p = refl
tops-set s k z (suc h) p =
    ap₂ ◌∷◌ (get_or-set_other s k h z (pos 0) (λ e. omega arith)) (tops-set s k z h (omega arith))

pub tops-push : (s : List ℤ) (h : ℕ) (z : ℤ) → h < length s → tops (set s h z) (suc h) ≡ z ∷ tops s h
unfolding tops
tops-push s h z p = ap₂ ◌∷◌ (get_or-set_same s h z (pos 0) p) (tops-set s h z h (omega arith))

-- what holds of each of the five operations with two operands
pub each : (P : Pair → Type 0) (p : Pair) → P Sub → P Sl → P Sr → P Add → P And → P p
each P Sub a b c d e = a
each P Sl a b c d e = b
each P Sr a b c d e = c
each P Add a b c d e = d
each P And a b c d e = e

-- ---- by what was answered

pub taken_empty : (s : List ℤ) (h : ℕ) → taken_at s h ≡ None → h ≡ 0
taken_empty s zero e = refl
taken_empty s (suc h) e = cc

-- z is on top of the stack of height h, and the one of height k is left without it
abbrev pub Took : List ℤ → ℕ → ℤ → ℕ → Type 0
Took s h z k = (tops s h ≡ z ∷ tops s k) × (h ≡ suc k)

pub taken-value : (s : List ℤ) (h : ℕ) {z : ℤ} {k : ℕ} → taken_at s h ≡ Some (z, k) → Took s h z k
unfolding tops
taken-value s zero e = absurd cc
taken-value s (suc h) {z} {k} e =
    let p = some_pair_parts (get_or s h (pos 0)) z h k e in
    (ap₂ (λ (y : ℤ) (n : ℕ). y ∷ tops s n) p.0 p.1, ap suc p.1)

-- Taking is refusal 10 exactly where nothing is there, and pushing 11 exactly where the depth is reached.
pub taken_numbered : (s : List ℤ) (h : ℕ) → taken_number (taken_at s h) ≡ cond (eqb h 0) 10 0
taken_numbered s zero = refl
taken_numbered s (suc h) = rw (ne_eqb (suc h) 0 (omega arith)) refl

pub pushed_numbered : (h : ℕ) → pushed_number (pushed_at h) ≡ cond (ltb h depth) 0 11
pushed_numbered h = by (ltb h depth)
  where
    by : (b : Bool) → pushed_number (if_room b h) ≡ cond b 0 11
    by true = refl
    by false = refl

-- The same of the answers of the code, each of which tells its stack by the height.
pub taken_answered : (s : List ℤ) (h : ℕ) (taken : Option (ℤ × Stack)) → taken_in taken ≡ taken_at s h → taken_number taken ≡ cond (eqb h 0) 10 0
taken_answered s h (Some (z, below)) e = ap taken_number e ∙ taken_numbered s h
taken_answered s h None e = ap taken_number e ∙ taken_numbered s h

pub pushed_answered : (h : ℕ) (pushed : Option Stack) → pushed_in pushed ≡ pushed_at h → pushed_number pushed ≡ cond (ltb h depth) 0 11
pushed_answered h (Some above) e = ap pushed_number e ∙ pushed_numbered h
pushed_answered h None e = ap pushed_number e ∙ pushed_numbered h

pub pushed_full : (h : ℕ) → pushed_at h ≡ None → depth ≤ h
pushed_full h e = by (ltb h depth) refl e
  where
    by : (b : Bool) → ltb h depth ≡ b → if_room b h ≡ None → depth ≤ h
    by true t e = absurd cc
    by false t e = ltb-false h depth t

pub pushed-onto : (h : ℕ) {k : ℕ} → pushed_at h ≡ Some k → (h < depth) × (k ≡ h + 1)
pushed-onto h {k} e = by (ltb h depth) refl e
  where
    by : (b : Bool) → ltb h depth ≡ b → if_room b h ≡ Some k → (h < depth) × (k ≡ h + 1)
    by true t e = (ltb-true h depth t, cc)
    by false t e = absurd cc

-- the stack after a push that found room
pub tops-pushed : (s : List ℤ) (h : ℕ) (z : ℤ) → length s ≡ depth → h < depth → tops (entries_at s h z) (h + 1) ≡ z ∷ tops s h
tops-pushed s h z l p =
    let q : h < length s = omega arith in
    rw (lt-ltb h depth p, add-one) (tops-push s h z q)

length_entries : (s : List ℤ) (h : ℕ) (z : ℤ) → length (entries_at s h z) ≡ length s
length_entries s h z = by (ltb h depth)
  where
    by : (b : Bool) → length (cond b (set s h z) s) ≡ length s
    by true = length-set s h z
    by false = refl

-- ---- entries below the top

pub entry-tops : (s : List ℤ) (h k : ℕ) → k < h → get_or s (h - 1 - k) (pos 0) ≡ entry (tops s h) k
unfolding tops
entry-tops s zero k p = absurd (omega arith)
entry-tops s (suc h) zero p = let e : suc h - 1 - 0 ≡ h = omega arith in ap (λ (i : ℕ). get_or s i (pos 0)) e
entry-tops s (suc h) (suc k) p =
    let e : suc h - 1 - suc k ≡ h - 1 - k = omega arith in
    ap (λ (i : ℕ). get_or s i (pos 0)) e ∙ entry-tops s h k (omega arith)

pub drop-tops : (s : List ℤ) (h n : ℕ) → n ≤ h → drop n (tops s h) ≡ tops s (h - n)
unfolding tops
drop-tops s h zero p = rw sub-zero
drop-tops s zero (suc n) p = absurd (omega arith)
drop-tops s (suc h) (suc n) p =
    let e : suc h - suc n ≡ h - n = omega arith in
    drop-tops s h n (omega arith) ∙ ap (tops s) (sym e)

-- n entries taken and z pushed
pub replaced-holds : (s : List ℤ) (h n : ℕ) (z : ℤ) → n ≤ h → h < depth + n → Fit s h → Holds (z ∷ drop n (tops s h)) (set s (h - n) z) (h - n + 1)
replaced-holds s h n z p q fit =
    let inside : h - n < length s = omega (arith, fit.long) in
    record {
      is = ap (tops (set s (h - n) z)) (add-one (h - n)) ∙ tops-push s (h - n) z inside ∙ ap (λ (st : List ℤ). z ∷ st) (sym (drop-tops s h n p));
      fit = record { low = omega arith; long = length-set s (h - n) z ∙ fit.long };
    }

pub holding : {st su s : List ℤ} {h : ℕ} → st ≡ su → Holds st s h → Holds su s h
holding e a = record { is = a.is ∙ e; fit = a.fit }

-- ---- an operation that nothing refuses

pub record Sound (o : Operation) (st : List ℤ) : Type 0 where
  pub enough : takes o ≤ length st
  pub room : length (operation_stack o st) ≤ depth
  pub accepts : refuses 64 o (entry st 0) ≡ 0

pub sound : (o : Operation) (st : List ℤ) → operation_refusal o st ≡ 0 → Sound o st
unfolding operation_refusal
sound o st e = go (ltb (length st) (takes o)) (ltb depth (length (operation_stack o st))) refl refl e
  where
    go : (a b : Bool) → ltb (length st) (takes o) ≡ a → ltb depth (length (operation_stack o st)) ≡ b →
        cond a 10 (cond b 11 (refuses 64 o (entry st 0))) ≡ 0 → Sound o st
    go true b p q z = absurd (omega arith)
    go false true p q z = absurd (omega arith)
    go false false p q z = record { enough = ltb-false (length st) (takes o) p; room = ltb-false depth (length (operation_stack o st)) q; accepts = z }

-- and the other way round
pub not_refused : (o : Operation) (st : List ℤ) → takes o ≤ length st → length (operation_stack o st) ≤ depth → operation_refusal o st ≡ refuses 64 o (entry st 0)
unfolding operation_refusal
not_refused o st p q = simp (le-ltb (length st) (takes o) p, le-ltb depth (length (operation_stack o st)) q)

pub too_few : (o : Operation) (st : List ℤ) → length st < takes o → operation_refusal o st ≡ 10
unfolding operation_refusal
too_few o st p = simp (lt-ltb (length st) (takes o) p)

-- ---- what it leaves, by the entries that it takes

pub top_first : (st : List ℤ) → 1 ≤ length st → st ≡ entry st 0 ∷ drop 1 st
top_first [] p = absurd (omega arith)
top_first (z ∷ st) p = refl

pub dup_leaves : (st : List ℤ) → 1 ≤ length st → entry st 0 ∷ st ≡ operation_stack dup st
unfolding operation_stack
dup_leaves st p = ap (λ (su : List ℤ). entry st 0 ∷ su) (top_first st p)

pub pair-leaves : (p : Pair) (st : List ℤ) →
    entry (pushes 64 (pair_of p) (entry st 0) (entry st 1) (pos 0)) 0 ∷ drop 2 st ≡ operation_stack (pair_of p) st
unfolding operation_stack
pair-leaves p st =
    each (λ q. entry (pushes 64 (pair_of q) (entry st 0) (entry st 1) (pos 0)) 0 ∷ drop 2 st ≡ operation_stack (pair_of q) st) p refl refl refl refl refl

pub pair-takes : (p : Pair) → takes (pair_of p) ≡ 2
pair-takes p = each (λ q. takes (pair_of q) ≡ 2) p refl refl refl refl refl

-- On the stack of this height in the entries: it has the entries that an operation takes, and dup has room.
pub takes_there : (o : Operation) (s : List ℤ) (h : ℕ) → Passes o s h → takes o ≤ h
takes_there o s h p = rw length-tops at (sound o (tops s h) p.passes).enough

pub dup_room : (s : List ℤ) (h : ℕ) → Passes dup s h → h < depth
dup_room s h p =
    let some : 1 ≤ length (tops s h) = (sound dup (tops s h) p.passes).enough in
    let long : length (entry (tops s h) 0 ∷ tops s h) ≤ depth =
    subst⁻¹ (λ (su : List ℤ). length su ≤ depth) (dup_leaves (tops s h) some) (sound dup (tops s h) p.passes).room in
    rw length-tops at long

-- ---- judging

pub refused : {n : ℕ} {st s : List ℤ} (r : Refusal) → n ≡ number_of r → Judges n st s (Err r)
refused r e = record { says = sym e; leaves = tt }

-- k entries are too few
pub none_there : (o : Operation) (s : List ℤ) (h k : ℕ) {s' : List ℤ} → h ≡ k → k < takes o → JudgesOperation o s h s' (Err StackEmpty)
none_there o s h k e p = refused StackEmpty (too_few o (tops s h) (rw (length-tops, e) p))

-- an operation with room passes as it is carried out
pub carried : (o : Operation) (s : List ℤ) (h : ℕ) {s' : List ℤ} {after : Stack} → Passes o s h → Operates o s h s' after.height
    → JudgesOperation o s h s' (Ok after)
carried o s h p a = record { says = sym p.passes; leaves = a }

-- n entries taken and one pushed is no longer than before
pub shorter : (z : ℤ) (st : List ℤ) (n : ℕ) → 1 ≤ n → n ≤ length st → length st ≤ depth → length (z ∷ drop n st) ≤ depth
shorter z st n p q r = simp length-drop (omega arith)

pub dup_refusal : (st : List ℤ) → 1 ≤ length st → operation_refusal dup st ≡ cond (ltb depth (suc (length st))) 11 0
unfolding operation_refusal
dup_refusal st p = simp (le-ltb (length st) 1 p, ← dup_leaves st p)

-- a push, by what it answered
pub no_room : (h : ℕ) {st s : List ℤ} → pushed_at h ≡ None → Judges (cond (ltb depth (suc h)) 11 0) st s (Err StackFull)
no_room h e =
    let p : depth < suc h = omega (arith, pushed_full h e) in
    refused StackFull (ap (λ (b : Bool). cond b 11 0) (lt-ltb depth (suc h) p))

pub room : (s : List ℤ) (h : ℕ) (z : ℤ) {s' : List ℤ} {above : Stack} → Fit s h → pushed_at h ≡ Some above.height → s' ≡ entries_at s h z
    → Judges (cond (ltb depth (suc h)) 11 0) (z ∷ tops s h) s' (Ok above)
room s h z fit e q =
    let p = pushed-onto h e in
    let r : suc h ≤ depth = omega (arith, p.0) in
    record {
      says = sym (ap (λ (b : Bool). cond b 11 0) (le-ltb depth (suc h) r));
      leaves = record {
        is = rw (q, p.1) (tops-pushed s h z fit.long p.0);
        fit = record { low = omega (arith, p.0, p.1); long = ap length q ∙ length_entries s h z ∙ fit.long };
      };
    }

-- dup, by its push
pub dup_judges : (s : List ℤ) (h : ℕ) {z : ℤ} {s' : List ℤ} {j : Result Stack Refusal} → z ≡ entry (tops s h) 0 → 1 ≤ h
    → Judges (cond (ltb depth (suc h)) 11 0) (z ∷ tops s h) s' j → JudgesOperation dup s h s' j
dup_judges s h {z} {s'} {j} e p a =
    let some : 1 ≤ length (tops s h) = rw length-tops p in
    let stack : z ∷ tops s h ≡ operation_stack dup (tops s h) = ap (λ (y : ℤ). y ∷ tops s h) e ∙ dup_leaves (tops s h) some in
    let refusal : cond (ltb depth (suc h)) 11 0 ≡ operation_refusal dup (tops s h) =
    sym (dup_refusal (tops s h) some ∙ ap (λ (n : ℕ). cond (ltb depth (suc n)) 11 0) (length-tops s h)) in
    subst (λ (n : ℕ). Judges n (operation_stack dup (tops s h)) s' j) refusal (subst (λ (st : List ℤ). Judges (cond (ltb depth (suc h)) 11 0) st s' j) stack a)

-- ---- an operation passes, by the entries that were taken

-- what taking an entry says of the stack
pub some_there : (s : List ℤ) (h : ℕ) {z : ℤ} {k : ℕ} → taken_at s h ≡ Some (z, k) → (h ≡ suc k) × (entry (tops s h) 0 ≡ z)
some_there s h e = let t = taken-value s h e in (t.1, ap (λ (st : List ℤ). entry st 0) t.0)

module _ (o : Operation) (s : List ℤ) (h : ℕ) (fit : Fit s h) (enough : takes o ≤ h) (short : length (operation_stack o (tops s h)) ≤ depth) where
  pub refusal_is : operation_refusal o (tops s h) ≡ refuses 64 o (entry (tops s h) 0)
  refusal_is = not_refused o (tops s h) (rw length-tops enough) short

  pub passing : refuses 64 o (entry (tops s h) 0) ≡ 0 → Passes o s h
  passing e = record { fit = fit; passes = refusal_is ∙ e }

-- no operation but dup makes the stack longer
module _ (s : List ℤ) (h : ℕ) (fit : Fit s h) where
  in_depth : length (tops s h) ≤ depth
  in_depth = rw length-tops fit.low

  fewer : (n : ℕ) (z : ℤ) → 1 ≤ n → n ≤ h → length (z ∷ drop n (tops s h)) ≤ depth
  fewer n z p q = shorter z (tops s h) n p (rw length-tops q) in_depth

  pub assert_short : length (operation_stack assert (tops s h)) ≤ depth
  unfolding operation_stack
  assert_short = simp length-drop (omega (arith, in_depth))

  pub not_short : 1 ≤ h → length (operation_stack not (tops s h)) ≤ depth
  unfolding operation_stack
  not_short p = fewer 1 (cond (is_zero (entry (tops s h) 0)) (pos 1) (pos 0)) (omega arith) p

  pub choice_short : 3 ≤ h → length (operation_stack if_else (tops s h)) ≤ depth
  unfolding operation_stack
  choice_short p = fewer 3 (cond (is_zero (entry (tops s h) 2)) (entry (tops s h) 0) (entry (tops s h) 1)) (omega arith) p

  pub pair-short : (p : Pair) → 2 ≤ h → length (operation_stack (pair_of p) (tops s h)) ≤ depth
  pair-short p q =
      subst (λ (st : List ℤ). length st ≤ depth) (pair-leaves p (tops s h)) (fewer 2 (entry (pushes 64 (pair_of p) (entry (tops s h) 0) (entry (tops s h) 1) (pos 0)) 0) (omega arith) q)
