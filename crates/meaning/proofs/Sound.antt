-- That every type's description is sound: a test of what a type does, computed over the whole table.
use Prim.Native.Nat.{suc, ◌+◌, ◌-◌, ◌^◌}
use mathlib.Core.Bool.{Bool, true, false, ◌&&◌, ◌||◌}
use mathlib.Core.List.{List, [], ◌∷◌}
use lib.Dec.{T, eqb, ltb, leb}
use lib.IntN.{pos, negsuc}
use Rattle.meaning.specs.Table.{Part, bits◌⋯◌to◌⋯◌, Accepted, from◌to◌, signed_multiple_of_4, any, Semantics, unnamed, idle, loaders, push, operation, word, bytes, Named, type, table}
use Rattle.meaning.specs.Field.{many, low, at, wide, lowest}

-- A part `bits h ⋯ l to H ⋯ L` lies inside the value and inside the word, and has as many bits in the one as in the other.
unfoldable pub inside : Part → Bool
inside (bits h ⋯ l to H ⋯ L) = leb l h && ltb h 64 && leb L H && ltb H 32 && eqb (H - L) (h - l)

-- Two parts have no word bit in common.
unfoldable pub apart : Part → Part → Bool
apart p q = leb (many p + at p) (at q) || leb (many q + at q) (at p)

unfoldable pub apart_from : Part → List Part → Bool
apart_from p [] = true
apart_from p (q ∷ qs) = apart p q && apart_from p qs

-- The value bits go on without a hole: each part's lowest is one above the next part's highest.
unfoldable pub adjoining : Part → List Part → Bool
adjoining p [] = true
adjoining p (q ∷ qs) = eqb (low p) (many q + low q)

unfoldable pub sound_parts : List Part → Bool
sound_parts [] = true
sound_parts (p ∷ ps) = inside p && apart_from p ps && adjoining p ps && sound_parts ps

-- The accepted values are those that the field holds: no value bit is left out.
unfoldable pub holds_range : List Part → Accepted → Bool
holds_range parts (from pos l to pos h) = eqb l 0 && eqb (suc h) (2 ^ wide parts) && eqb (lowest parts) 0
holds_range parts (from negsuc l to pos h) =
    eqb (suc l) (2 ^ (wide parts - 1)) && eqb (suc h) (2 ^ (wide parts - 1)) && eqb (lowest parts) 0 && leb 1 (wide parts)
holds_range parts (from l to negsuc h) = false
holds_range parts (signed_multiple_of_4 n) = eqb n (wide parts + lowest parts) && eqb (lowest parts) 2 && leb 1 (wide parts)
holds_range parts any = true

unfoldable pub sound : Semantics → Bool
sound unnamed = true
sound idle = true
sound loaders = true
sound (push f) = true
sound (operation o) = true
sound (word source parts range) = sound_parts parts && holds_range parts range
sound (bytes way n f) = leb 1 n && leb n 8

unfoldable pub all_sound : List Named → Bool
all_sound [] = true
all_sound (type n does ∷ more) = sound does && all_sound more

pub table-sound : T (all_sound table)
unfolding all_sound sound holds_range sound_parts adjoining apart_from apart inside wide lowest table
table-sound = tt
