-- What the check tries at each goal of the stack's methods. Assumes nothing.
use Rattle.std.proofs.Common.{◌≡◌, ℕ, ◌+◌, ◌-◌, ◌<◌, ◌≤◌, List, ◌∷◌, cond, ℤ, pos, length, set, drop, refl, add-one, length-set}
use Rattle.std.proofs.lemmas.Int.{to_z-of_z}
use Rattle.meaning.specs.Table.{Operation, assert, not, if_else}
use Rattle.meaning.specs.Stack.{entry, is_zero}
use Rattle.meaning.specs.Checks.{refuses}
use Rattle.stack.specs.Tops.{tops, Passes, operation_stack}
use Rattle.stack.specs.Laws.{length-tops, tops-push, taken_empty, entry-tops, drop-tops, sound, dup_leaves, pair-leaves, pair-takes, takes_there, dup_room, none_there, carried, dup_judges, some_there, refusal_is, passing, assert_short, not_short, choice_short, pair-short}

-- an entry written on top, whatever the new height is called
pub tops_onto : (s : List ℤ) (h k : ℕ) (z : ℤ) → k ≡ h + 1 → h < length s → tops (set s h z) k ≡ z ∷ tops s h
tops_onto s h k z e p = rw (e, add-one) (tops-push s h z p)

-- what an operation that passes does not refuse
pub accepted : (o : Operation) (s : List ℤ) (h : ℕ) {top : ℤ} → Passes o s h → top ≡ entry (tops s h) 0 → refuses 64 o top ≡ 0
accepted o s h p e = rw e (sound o (tops s h) p.passes).accepts

-- what each operation leaves, as its method makes it; dup_leaves and pair-leaves are the others
pub assert_leaves : (s : List ℤ) (h : ℕ) → 1 ≤ h → operation_stack assert (tops s h) ≡ tops s (h - 1)
unfolding operation_stack
assert_leaves s h p = drop-tops s h 1 p

pub not_leaves : (st : List ℤ) → operation_stack not st ≡ cond (is_zero (entry st 0)) (pos 1) (pos 0) ∷ drop 1 st
unfolding operation_stack
not_leaves st = refl

pub choice_leaves : (st : List ℤ) → operation_stack if_else st ≡ cond (is_zero (entry st 2)) (entry st 0) (entry st 1) ∷ drop 3 st
unfolding operation_stack
choice_leaves st = refl

-- entries read and written
pub ruleset placed = (entry-tops, drop-tops, tops_onto, length-set, to_z-of_z)

-- an operation that passes, carried out
pub ruleset carrying = (takes_there, pair-takes, dup_room, accepted, length-tops, dup_leaves, assert_leaves, not_leaves, pair-leaves, choice_leaves)

-- an operation judged by the entries that are there
pub ruleset judging = (taken_empty, none_there, some_there, refusal_is, passing, assert_short, not_short, pair-short, choice_short, carried, dup_judges)

pub ruleset stack_laws = (placed, carrying, judging)
