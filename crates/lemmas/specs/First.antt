-- Lists of checks: what every one of them says, and the answer of the first that fails.
use Rattle.std.specs.Prelude.{ℕ, zero, suc, ◌<◌, Bool, true, false, cond, List, [], ◌∷◌, ◌++◌, ◌≡◌, refl, get_or}
use Rattle.std.proofs.Common.{ne_of_gt, arith, sym, ap, ◌∙◌}
use Rattle.meaning.specs.Checks.{Answer, Check, check, first, of_masks}

-- ---- lists of checks

-- P of every check of a list
abbrev pub Every : (Check → Type 0) → List Check → Type 0
Every P [] = Unit {0}
Every P (k ∷ ks) = P k × Every P ks

abbrev pub Passes : Check → Type 0
Passes k = k.fails ≡ false

abbrev pub Numbered : Check → Type 0
Numbered k = zero < k.refusal.number

-- the check at a place of the list; past its end, one that passes
abbrev pub nth : List Check → ℕ → Check
nth ks k = get_or ks k (check 0 0 false)

module _ (P : Check → Type 0) where
  pub every_append : (ks ls : List Check) → Every P ks → Every P ls → Every P (ks ++ ls)
  every_append [] ls p q = q
  every_append (k ∷ ks) ls p q = (p.0, every_append ks ls p.1 q)

  pub every-left : (ks ls : List Check) → Every P (ks ++ ls) → Every P ks
  every-left [] ls p = tt
  every-left (k ∷ ks) ls p = (p.0, every-left ks ls p.1)

  pub every_right : (ks ls : List Check) → Every P (ks ++ ls) → Every P ls
  every_right [] ls p = p
  every_right (k ∷ ks) ls p = every_right ks ls p.1

  pub every-nth : P (check 0 0 false) → (ks : List Check) → Every P ks → (k : ℕ) → P (nth ks k)
  every-nth z [] p k = z
  every-nth z (x ∷ ks) p zero = p.0
  every-nth z (x ∷ ks) p (suc k) = every-nth z ks p.1 k

  pub nth-every : (ks : List Check) → ((k : ℕ) → P (nth ks k)) → Every P ks
  nth-every [] p = tt
  nth-every (x ∷ ks) p = (p zero, nth-every ks (λ k. p (suc k)))

-- ---- the first that fails

pub first-append : (ks ls : List Check) (a : Answer) → first (ks ++ ls) a ≡ first ks (first ls a)
unfolding first
first-append [] ls a = refl
first-append (k ∷ ks) ls a = ap (cond k.fails k.refusal) (first-append ks ls a)

pub first_passed : (ks : List Check) (a : Answer) → Every Passes ks → first ks a ≡ a
unfolding first
first_passed [] a p = refl
first_passed (k ∷ ks) a p = rw p.0 (first_passed ks a p.1)

-- In a list of checks, one that fails, and none before it does.
pub record FailsFirst (ks : List Check) (k : Check) : Type 0 where
  pub earlier : List Check
  pub later : List Check
  pub in_order : ks ≡ earlier ++ k ∷ later
  pub pass : Every Passes earlier
  pub fails : k.fails ≡ true

pub first_fails : (ks : List Check) (k : Check) (a : Answer) → FailsFirst ks k → first ks a ≡ k.refusal
unfolding first
first_fails ks k a f =
    ap (λ (l : List Check). first l a) f.in_order
    ∙ first-append f.earlier (k ∷ f.later) a
    ∙ first_passed f.earlier _ f.pass
    ∙ rw f.fails

-- A list whose checks have a number each answers 0 only where they all pass.
pub zero_passes : (ks : List Check) (a : Answer) → Every Numbered ks → (first ks a).number ≡ 0 → Every Passes ks
unfolding first
zero_passes [] a n e = tt
zero_passes (k ∷ ks) a n e = go k.fails refl (zero_passes ks a n.1)
  where
    go : (b : Bool) → k.fails ≡ b → ((first ks a).number ≡ 0 → Every Passes ks) → Every Passes (k ∷ ks)
    go true f rest = absurd (ne_of_gt n.0 (rw f at e))
    go false f rest = (f, rest (rw f at e))

-- The checks of the masks have a number each.
pub masks_numbered : (i : ℕ) (rows : List (List ℕ)) → Every Numbered (of_masks i rows)
unfolding of_masks
masks_numbered i [] = tt
masks_numbered i (r ∷ rows) = (omega arith, masks_numbered (suc i) rows)

-- A list that answers with a refusal answers so whatever comes after it.
pub first_stops : (ks : List Check) (a rest r : Answer) → a.number ≡ 0 → (r.number ≡ 0 → ⊥) → r ≡ first ks a → first ks rest ≡ r
unfolding first
first_stops [] a rest r z h e = absurd (h (ap (λ (x : Answer). x.number) e ∙ z))
first_stops (k ∷ ks) a rest r z h e = go k.fails refl (first_stops ks a rest r z h)
  where
    go : (b : Bool) → k.fails ≡ b → (r ≡ first ks a → first ks rest ≡ r) → first (k ∷ ks) rest ≡ r
    go true f q = rw f (sym (rw f at e))
    go false f q = rw f (q (rw f at e))
