-- Demand 3: groups of records, an order of them, and which orders are allowed.
use Rattle.std.specs.Prelude.{ℕ, ◌+◌, ◌%◌, Bool, true, false, not, ◌&&◌, ◌||◌, List, [], ◌∷◌, ◌++◌, ◌≡◌, eqb, ltb, length, get_or}
use Rattle.meaning.specs.Call.{Setting, Call, Record, does, records_of}
use Rattle.meaning.specs.Stack.{Stack, after}
use Rattle.meaning.specs.Checks.{writes}

-- The stack after a list of records.
unfoldable pub run : Setting → Stack → List Record → Stack
run c st [] = st
run c st (r ∷ rs) = run c (after c r (does c r) st) rs

-- A group is the bytes of whole records that, run from an empty stack, end with an empty stack.
pub record Group (c : Call) (bytes : List ℕ) : Type 0 where
  pub whole : length bytes % c.setting.card.record_bytes ≡ 0
  pub balanced : run c.setting [] (records_of c bytes) ≡ []

abbrev pub Groups : Call → List (List ℕ) → Type 0
Groups c [] = Unit {0}
Groups c (g ∷ gs) = Group c g × Groups c gs

-- Groups one after the other.
unfoldable pub joined : List (List ℕ) → List ℕ
joined [] = []
joined (g ∷ gs) = g ++ joined gs

-- Two records write a common byte. A word type counts as writing all four bytes of its word.
abbrev pub common : Setting → Record → Record → Bool
common c r q =
    not (eqb (writes (does c r)) 0) && not (eqb (writes (does c q)) 0) &&
    ltb r.offset (q.offset + writes (does c q)) && ltb q.offset (r.offset + writes (does c r))

unfoldable pub common_with : Setting → Record → List Record → Bool
common_with c r [] = false
common_with c r (q ∷ qs) = common c r q || common_with c r qs

unfoldable pub common_byte : Setting → List Record → List Record → Bool
common_byte c [] qs = false
common_byte c (r ∷ rs) qs = common_with c r qs || common_byte c rs qs

-- The rule by which two groups may change places: they write no common byte.
abbrev pub may_change : Call → List ℕ → List ℕ → Bool
may_change c g h = not (common_byte c.setting (records_of c g) (records_of c h))

-- An order is a list of group numbers. It names each of n groups once: n entries, each below n, and none a second time.
unfoldable pub named : ℕ → List ℕ → Bool
named k [] = false
named k (j ∷ js) = eqb k j || named k js

unfoldable pub apart : ℕ → List ℕ → Bool
apart n [] = true
apart n (k ∷ ks) = ltb k n && not (named k ks) && apart n ks

abbrev pub each_once : ℕ → List ℕ → Bool
each_once n order = eqb (length order) n && apart n order

-- The group of a number.
abbrev pub group : List (List ℕ) → ℕ → List ℕ
group gs k = get_or gs k []

-- Entry k may stand ahead of the entries after it: each of them that came before it may change places with it.
unfoldable pub may_lead : Call → List (List ℕ) → ℕ → List ℕ → Bool
may_lead c gs k [] = true
may_lead c gs k (j ∷ js) = (not (ltb j k) || may_change c (group gs j) (group gs k)) && may_lead c gs k js

-- Of any two groups that may not change places, the one that came first still comes first.
unfoldable pub keeps_order : Call → List (List ℕ) → List ℕ → Bool
keeps_order c gs [] = true
keeps_order c gs (k ∷ ks) = may_lead c gs k ks && keeps_order c gs ks

-- The groups in an order.
unfoldable pub rearranged : List (List ℕ) → List ℕ → List (List ℕ)
rearranged gs [] = []
rearranged gs (k ∷ ks) = group gs k ∷ rearranged gs ks
