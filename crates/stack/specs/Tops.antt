-- The stack as a list, the top first, and what taking, pushing and the operations do with it.
use Rattle.std.specs.Prelude.{◌≡◌, ℕ, zero, suc, ◌+◌, ◌≤◌, Bool, true, false, cond, List, [], ◌∷◌, ◌++◌, ltb, ℤ, pos, length, get_or, set, drop, Option, Some, None, Result, Ok, Err}
use Rattle.meaning.specs.Table.{Operation}
use Rattle.meaning.specs.Stack.{depth, entry, takes, pushes}
use Rattle.meaning.specs.Checks.{refuses}
use Rattle.refusals.specs.Numbers.{refusal_in}
use Rattle.refusals.specs.declared.Refusal.{Refusal}
use Rattle.stack.specs.declared.Stack.{Stack}

-- ---- the answers by document 01's numbers of refusal, 0 for none

abbrev pub taken_number : {A : Type 0} → Option A → ℕ
taken_number (Some taken) = 0
taken_number None = 10

abbrev pub pushed_number : {A : Type 0} → Option A → ℕ
pushed_number (Some above) = 0
pushed_number None = 11

abbrev pub judged_number : Result Stack Refusal → ℕ
judged_number judged = refusal_in judged

-- ---- the stack in the entries

-- the stack of height h whose entries lie in s
unfoldable pub tops : List ℤ → ℕ → List ℤ
tops s zero = []
tops s (suc h) = get_or s h (pos 0) ∷ tops s h

-- The sixteen entries have room for a stack of this height.
pub record Fit (entries : List ℤ) (height : ℕ) : Type 0 where
  pub low : height ≤ depth
  pub long : length entries ≡ depth

-- They hold the stack st, of this height.
pub record Holds (st entries : List ℤ) (height : ℕ) : Type 0 where
  pub is : tops entries height ≡ st
  pub fit : Fit entries height

-- ---- taking and pushing, the stack being told by its height

abbrev pub taken_in : Option (ℤ × Stack) → Option (ℤ × ℕ)
taken_in None = None
taken_in (Some (z, below)) = Some (z, below.height)

abbrev pub taken_at : List ℤ → ℕ → Option (ℤ × ℕ)
taken_at s zero = None
taken_at s (suc h) = Some (get_or s h (pos 0), h)

abbrev pub pushed_in : Option Stack → Option ℕ
pushed_in None = None
pushed_in (Some above) = Some above.height

abbrev pub if_room : Bool → ℕ → Option ℕ
if_room true h = Some (h + 1)
if_room false h = None

abbrev pub pushed_at : ℕ → Option ℕ
pushed_at h = if_room (ltb h depth) h

abbrev pub entries_at : List ℤ → ℕ → ℤ → List ℤ
entries_at s h z = cond (ltb h depth) (set s h z) s

-- ---- judging

-- The stack after is in the entries, where judging passes.
abbrev pub Stands : List ℤ → List ℤ → Result Stack Refusal → Type 0
Stands st entries (Ok after) = Holds st entries after.height
Stands st entries (Err r) = Unit {0}

-- What judging answers where the refusal is n, and the stack after is st where there is none.
pub record Judges (n : ℕ) (st entries : List ℤ) (judged : Result Stack Refusal) : Type 0 where
  pub says : judged_number judged ≡ n
  pub leaves : Stands st entries judged

-- ---- the operations

-- the stack after an operation, and its refusal
unfoldable pub operation_stack : Operation → List ℤ → List ℤ
operation_stack o st = pushes 64 o (entry st 0) (entry st 1) (entry st 2) ++ drop (takes o) st

unfoldable pub operation_refusal : Operation → List ℤ → ℕ
operation_refusal o st =
    cond (ltb (length st) (takes o)) 10 (cond (ltb depth (length (operation_stack o st))) 11 (refuses 64 o (entry st 0)))

-- An operation that nothing refuses, on the stack of this height.
pub record Passes (o : Operation) (entries : List ℤ) (height : ℕ) : Type 0 where
  pub fit : Fit entries height
  pub passes : operation_refusal o (tops entries height) ≡ 0

-- What it leaves, in the entries s' at the height h'.
abbrev pub Operates : Operation → List ℤ → ℕ → List ℤ → ℕ → Type 0
Operates o s h s' h' = Holds (operation_stack o (tops s h)) s' h'

-- What judging it answers.
abbrev pub JudgesOperation : Operation → List ℤ → ℕ → List ℤ → Result Stack Refusal → Type 0
JudgesOperation o s h s' judged = Judges (operation_refusal o (tops s h)) (operation_stack o (tops s h)) s' judged
