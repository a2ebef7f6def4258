-- The columns back as what they stand for in the meaning's table.
use Rattle.std.specs.Prelude.{ℕ, ◌+◌, ◌-◌, ◌^◌, pos}
use Rattle.meaning.specs.Table as T
use Rattle.meaning.specs.Table.{S, G, PLT, T, IE, GD, only, with_A, with_GP, whole, ◌-PC, pages, far, bits◌⋯◌to◌⋯◌, Accepted, from◌to◌, signed_multiple_of_4, neg}
use Rattle.table.specs.declared.Value.{Value}
use Rattle.table.specs.declared.Value.TheVariants as V
use Rattle.table.specs.declared.Sum.{Sum}
use Rattle.table.specs.declared.Sum.TheVariants.{Only, WithA, WithGp}
use Rattle.table.specs.declared.Formula.{Formula}
use Rattle.table.specs.declared.Formula.TheVariants.{Whole, LessPc, Pages, Far}
use Rattle.table.specs.declared.Part.{Part}
use Rattle.table.specs.declared.Sign.TheVariants.{Signed, Unsigned, MultipleOf4}
use Rattle.table.specs.declared.Sign.{Sign}
use Rattle.table.specs.declared.Range.{Range}

abbrev pub value_from : Value → T.Value
value_from V.S = S
value_from V.G = G
value_from V.Plt = PLT
value_from V.T = T
value_from V.Ie = IE
value_from V.Gd = GD

abbrev pub sum_from : Sum → T.Sum
sum_from (Only v) = only (value_from v)
sum_from (WithA v) = with_A (value_from v)
sum_from (WithGp v) = with_GP (value_from v)

abbrev pub formula_from : Formula → T.Formula
formula_from (Whole s) = whole (sum_from s)
formula_from (LessPc s) = sum_from s -PC
formula_from (Pages s) = pages (sum_from s)
formula_from (Far s) = far (sum_from s)

abbrev pub part_from : Part → T.Part
part_from p = bits (p.low + p.many - 1) ⋯ p.low to (p.at + p.many - 1) ⋯ p.at

-- Those of so many bits, by the sign.
abbrev pub accepted : Sign → ℕ → Accepted
accepted Signed n = from (neg (2 ^ (n - 1))) to (pos (2 ^ (n - 1) - 1))
accepted Unsigned n = from (pos 0) to (pos (2 ^ n - 1))
accepted MultipleOf4 n = signed_multiple_of_4 n

abbrev pub range_from : Range → Accepted
range_from r = accepted r.sign r.bits
