-- The stack: a list of signed numbers, the top first. Taking past its end, which refusal 10 shuts out, gives 0.
use Rattle.std.specs.Prelude.{ℕ, ◌*◌, ◌%◌, ◌^◌, Bool, false, cond, List, [], ◌∷◌, ◌++◌, eqb, ℤ, pos, negsuc, nat_abs, get_or, drop}
use Rattle.std.specs.Int.Bits.{bit_and}
use Rattle.std.specs.Int.Signed.{shr_z}
use Rattle.meaning.specs.Numbers.{plus, minus, signed, bits_of}
use Rattle.meaning.specs.Table.{Semantics, unnamed, idle, loaders, push, operation, word, bytes, stack, of}
use Rattle.meaning.specs.Table.{Operation, dup, assert, not, sub, sl, sr, add, and, if_else}
use Rattle.meaning.specs.Call.{Setting, Record, formula}

abbrev pub depth : ℕ
depth = 16

abbrev pub Stack : Type 0
Stack = List ℤ

abbrev pub entry : Stack → ℕ → ℤ
entry st k = get_or st k (pos 0)

abbrev pub is_zero : ℤ → Bool
is_zero (pos n) = eqb n 0
is_zero (negsuc n) = false

-- How many entries an operation takes.
abbrev pub takes : Operation → ℕ
takes dup = 1
takes assert = 1
takes not = 1
takes sub = 2
takes sl = 2
takes sr = 2
takes add = 2
takes and = 2
takes if_else = 3

-- What it pushes, given the entries that it took: the top, the one below, the one below that.
abbrev pub pushes : ℕ → Operation → ℤ → ℤ → ℤ → Stack
pushes w dup top _ _ = top ∷ top ∷ []
pushes w assert top _ _ = []
pushes w not top _ _ = cond (is_zero top) (pos 1) (pos 0) ∷ []
pushes w sub opr2 opr1 _ = signed w (minus w (bits_of w opr1) (bits_of w opr2)) ∷ []
pushes w sl opr2 opr1 _ = signed w (bits_of w opr1 * 2 ^ nat_abs opr2 % 2 ^ w) ∷ []
pushes w sr opr2 opr1 _ = shr_z opr1 (2 ^ nat_abs opr2) ∷ []
pushes w add opr2 opr1 _ = signed w (plus w (bits_of w opr1) (bits_of w opr2)) ∷ []
pushes w and opr2 opr1 _ = signed w (bit_and (bits_of w opr1) (bits_of w opr2)) ∷ []
pushes w if_else opr3 opr2 opr1 = cond (is_zero opr1) opr3 opr2 ∷ []

-- How many entries a type takes, and the stack after it. Direct types leave the stack as it is.
abbrev pub taken : Semantics → ℕ
taken unnamed = 0
taken idle = 0
taken loaders = 0
taken (push f) = 0
taken (operation o) = takes o
taken (word stack parts range) = 1
taken (word (of f) parts range) = 0
taken (bytes way n f) = 0

abbrev pub pushed : Setting → Record → Semantics → Stack → Stack
pushed c r unnamed st = []
pushed c r idle st = []
pushed c r loaders st = []
pushed c r (push f) st = signed c.card.width (formula c r f) ∷ []
pushed c r (operation o) st = pushes c.card.width o (entry st 0) (entry st 1) (entry st 2)
pushed c r (word source parts range) st = []
pushed c r (bytes way n f) st = []

abbrev pub after : Setting → Record → Semantics → Stack → Stack
after c r does st = pushed c r does st ++ drop (taken does) st
