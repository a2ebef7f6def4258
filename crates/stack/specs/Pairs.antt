-- The operations with two operands, as the meaning has them.
use Rattle.meaning.specs.Table as T
use Rattle.meaning.specs.Table.{Operation}
use Rattle.stack.specs.declared.pairs.Pair.{Pair}
use Rattle.stack.specs.declared.pairs.Pair.TheVariants.{Sub, Sl, Sr, Add, And}

abbrev pub pair_of : Pair → Operation
pair_of Sub = T.sub
pair_of Sl = T.sl
pair_of Sr = T.sr
pair_of Add = T.add
pair_of And = T.and
