-- A case: a call, and what it must answer and leave. A table of cases is tested by computing.
use Prim.Native.Nat.{ℕ, ◌+◌, ◌-◌, ◌*◌, ◌^◌}
use mathlib.Core.Bool.{Bool, true, false, ◌&&◌}
use mathlib.Core.List.{List, [], ◌∷◌, ◌++◌}
use lib.Dec.{eqb}
use Rattle.meaning.specs.Numbers.{bytes_of}
use Rattle.meaning.specs.Patch.{call, answer_of, section_of}

-- the bytes of a record
unfoldable pub rela : ℕ → ℕ → ℕ → ℕ → List ℕ
rela offset type symbol addend = bytes_of 8 offset ++ bytes_of 8 (type + symbol * 2 ^ 32) ++ bytes_of 8 addend

-- a number below 0
unfoldable pub minus : ℕ → ℕ
minus n = 2 ^ 64 - n

-- type 23 of symbol 0 pushes the addend. A push may name any offset; here none of the section's.
unfoldable pub push : ℕ → List ℕ
push addend = rela (minus 1) 23 0 addend

pub record Case : Type 0 where
  pub section : List ℕ
  pub records : List ℕ
  pub values : List ℕ
  pub address : ℕ
  pub gp : ℕ
  pub number : ℕ
  pub place : ℕ
  pub offset : ℕ
  pub left : List ℕ

unfoldable pub same : List ℕ → List ℕ → Bool
same [] [] = true
same [] (y ∷ ys) = false
same (x ∷ xs) [] = false
same (x ∷ xs) (y ∷ ys) = eqb x y && same xs ys

unfoldable pub holds : Case → Bool
holds e =
    let c = call e.section e.values e.address e.gp in
    let a = answer_of c e.records in
    eqb a.number e.number && eqb a.place e.place && eqb a.offset e.offset &&
    same (section_of c e.records e.section) e.left

-- a test that all of a table pass
unfoldable pub all_hold : {A : Type 0} → (A → Bool) → List A → Bool
all_hold test [] = true
all_hold test (e ∷ es) = test e && all_hold test es
