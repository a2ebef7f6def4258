-- What holds at every line of the table holds of every type: one induction over the search for a type, and what follows by it.
use Rattle.std.specs.Prelude.{ℕ, Bool, true, false, not, ◌&&◌, cond, List, [], ◌∷◌, ◌≢◌, ◌≡◌, refl, T, eqb}
use Rattle.std.proofs.Common.{ap, subst, eqb-true, T_not}
use Rattle.std.proofs.Math.Dec.{eqb_refl}
use Rattle.meaning.specs.Table.{Semantics, unnamed, Named, type, table, look, semantics}
use Rattle.meaning.specs.Call.{Card, semantics_on}
use Rattle.meaning.proofs.Sound.{sound, all_sound, table-sound}

pub both : (a b : Bool) → T (a && b) → T a × T b
both true b h = (tt, h)
both false b h = absurd h

pub differ : (m n : ℕ) → T (not (eqb m n)) → m ≢ n
differ m n h e = T_not (eqb m n) h (subst (λ (k : ℕ). T (eqb m k)) e (eqb_refl m))

-- A test of a type's number and of what it does, at each line of the table.
unfoldable pub every : (ℕ → Semantics → Bool) → List Named → Bool
every test [] = true
every test (type n does ∷ more) = test n does && every test more

-- A type has what each line of its number has, and what `unnamed` has.
pub found : (P : Semantics → Type 0) (test : ℕ → Semantics → Bool) (more : List Named) (t : ℕ) → T (every test more) →
    ((does : Semantics) → T (test t does) → P does) → P unnamed → P (look more t)
unfolding look every
found P test [] t h p z = z
found P test (type n does ∷ more) t h p z = go (eqb n t) refl (found P test more t (both (test n does) (every test more) h).1 p z)
  where
    go : (b : Bool) → eqb n t ≡ b → P (look more t) → P (cond b does (look more t))
    go true e q = p does (subst (λ (m : ℕ). T (test m does)) (eqb-true n t e) (both (test n does) (every test more) h).0)
    go false e q = q

-- Each type's description is sound.

same : (more : List Named) → all_sound more ≡ every (λ n does. sound does) more
unfolding all_sound every
same [] = refl
same (type n does ∷ more) = ap (λ (b : Bool). sound does && b) (same more)

pub sound-at : (t : ℕ) → T (sound (semantics t))
unfolding sound
sound-at t = found (λ d. T (sound d)) (λ n does. sound does) table t (subst T (same table) table-sound) (λ does h. h) tt

-- What holds of every type of the table, and of `unnamed`, holds of every type on a card.
pub on_card : (P : Semantics → Type 0) (card : Card) (t : ℕ) → P (semantics t) → P unnamed → P (semantics_on card t)
on_card P card t p z = go (card.names t)
  where
    go : (b : Bool) → P (cond b (semantics t) unnamed)
    go true = p
    go false = z

pub sound_on : (card : Card) (t : ℕ) → T (sound (semantics_on card t))
unfolding sound
sound_on card t = on_card (λ d. T (sound d)) card t (sound-at t) tt
