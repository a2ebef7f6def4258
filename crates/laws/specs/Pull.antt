-- Demand 3, the orders: an allowed order is reached from the groups as they came by allowed changes of two neighbours, and so what
-- no such change alters the order does not alter. Which two may change places is any relation here, and what they do is any step.
use Prim.Native.Nat.{ℕ, zero, suc, ◌≤◌, ◌<◌, zero-le, suc-le-suc}
use Rattle.std.proofs.Common.{le_of_suc-le-suc, not-suc-le-zero, zero-lt-suc, ◌∙◌}
use native.Mathlib.Omega.{arith}
use mathlib.Core.List.{List, [], ◌∷◌}
use Rattle.std.specs.Prelude.{◌≢◌, ◌≡◌, refl, length}
use Rattle.std.proofs.Math.Path.{ap}
use Rattle.meaning.specs.Order.{group, rearranged}

-- ---- changes of neighbours

-- The second list is the first after changes of two neighbours that may change places.
pub data Moved {A : Type 0} (may : A → A → Type 0) : List A → List A → Type 0 where
  same : {gs : List A} → Moved may gs gs
  change : {g h : A} {gs : List A} → may g h → Moved may (g ∷ h ∷ gs) (h ∷ g ∷ gs)
  under : (g : A) {gs hs : List A} → Moved may gs hs → Moved may (g ∷ gs) (g ∷ hs)
  then : {gs hs ks : List A} → Moved may gs hs → Moved may hs ks → Moved may gs ks

-- P of every element
abbrev pub All : {A : Type 0} → (A → Type 0) → List A → Type 0
All P [] = Unit {0}
All P (g ∷ gs) = P g × All P gs

pub moved_all : {A : Type 0} {may : A → A → Type 0} (P : A → Type 0) {gs hs : List A} → Moved may gs hs → All P gs → All P hs
moved_all P same p = p
moved_all P (change m) p = (p.1.0, (p.0, p.1.1))
moved_all P (under g m) p = (p.0, moved_all P m p.1)
moved_all P (then m n) p = moved_all P n (moved_all P m p)

-- Steps, one after the other.
abbrev pub acts : {A S : Type 0} → (S → A → S) → S → List A → S
acts act s [] = s
acts act s (g ∷ gs) = acts act (act s g) gs

-- Where two fit steps that may change places commute from every sound state, the lists come to the same.
module _ {A S : Type 0} (may : A → A → Type 0) (act : S → A → S) (Fit : A → Type 0) (Sound : S → Type 0)
    (stays : (s : S) (g : A) → Sound s → Fit g → Sound (act s g))
    (commutes : (s : S) (g h : A) → Sound s → Fit g → Fit h → may g h → act (act s g) h ≡ act (act s h) g) where
  pub moved_acts : (s : S) {gs hs : List A} → Moved may gs hs → Sound s → All Fit gs → acts act s gs ≡ acts act s hs
  moved_acts s same ok p = refl
  moved_acts s (change {g} {h} {gs} m) ok p = ap (λ (t : S). acts act t gs) (commutes s g h ok p.0 p.1.0 m)
  moved_acts s (under g m) ok p = moved_acts (act s g) m (stays s g ok p.0) p.1
  moved_acts s (then m n) ok p = moved_acts s m ok p ∙ moved_acts s n ok (moved_all Fit m p)

-- ---- an order of numbers

-- An order without its entries 0, for the list after its first element: every other entry is one less.
lowered : List ℕ → List ℕ
lowered [] = []
lowered (zero ∷ ks) = lowered ks
lowered (suc k ∷ ks) = k ∷ lowered ks

module _ (may : List ℕ → List ℕ → Type 0) where
  -- Entry k may stand ahead of entry j: they differ, and if j came before k the two may change places.
  abbrev pub Ahead : List (List ℕ) → ℕ → ℕ → Type 0
  Ahead gs k j = (k ≢ j) × (j < k → may (group gs j) (group gs k))

  -- Every entry names an element, and may stand ahead of every entry after it.
  abbrev pub Allowed : List (List ℕ) → List ℕ → Type 0
  Allowed gs [] = Unit {0}
  Allowed gs (k ∷ ks) = (k < length gs) × All (Ahead gs k) ks × Allowed gs ks

  module _ (g : List ℕ) (gs : List (List ℕ)) where
    -- What is allowed stays so without the first element.
    ahead_lowered : (k : ℕ) (ks : List ℕ) → All (Ahead (g ∷ gs) (suc k)) ks → All (Ahead gs k) (lowered ks)
    unfolding lowered
    ahead_lowered k [] p = tt
    ahead_lowered k (zero ∷ ks) p = ahead_lowered k ks p.1
    ahead_lowered k (suc j ∷ ks) p = ((λ e. p.0.0 (ap suc e), λ h. p.0.1 (suc-le-suc h)), ahead_lowered k ks p.1)

    allowed_lowered : (ks : List ℕ) → Allowed (g ∷ gs) ks → Allowed gs (lowered ks)
    unfolding lowered
    allowed_lowered [] p = tt
    allowed_lowered (zero ∷ ks) p = allowed_lowered ks p.2
    allowed_lowered (suc k ∷ ks) p = (le_of_suc-le-suc p.0, ahead_lowered k ks p.1, allowed_lowered ks p.2)

    -- Behind the entry 0 there is no second one.
    rest_lowered : (ks : List ℕ) → All (Ahead (g ∷ gs) zero) ks →
        (rearranged (g ∷ gs) ks ≡ rearranged gs (lowered ks)) × (length ks ≡ length (lowered ks))
    unfolding lowered rearranged
    rest_lowered [] p = (refl, refl)
    rest_lowered (zero ∷ ks) p = absurd (p.0.0 refl)
    rest_lowered (suc k ∷ ks) p =
        let q = rest_lowered ks p.1 in
        (ap (λ (hs : List (List ℕ)). group gs k ∷ hs) q.0, ap suc q.1)

    -- So an order has at most one entry 0.
    one_first : (ks : List ℕ) → Allowed (g ∷ gs) ks → length ks ≤ suc (length (lowered ks))
    unfolding lowered
    one_first [] p = zero-le
    one_first (zero ∷ ks) p = let q = rest_lowered ks p.1 in omega arith
    one_first (suc k ∷ ks) p = suc-le-suc (one_first ks p.2)

    -- What stands ahead of the entry 0 may change places with the first element.
    leads : (k : ℕ) (ks : List ℕ) → All (Ahead (g ∷ gs) (suc k)) ks → length (lowered ks) < length ks → may g (group gs k)
    unfolding lowered
    leads k [] p h = absurd (not-suc-le-zero h)
    leads k (zero ∷ ks) p h = p.0.1 (zero-lt-suc k)
    leads k (suc j ∷ ks) p h = leads k ks p.1 (le_of_suc-le-suc h)

    -- The first element, pushed back past those ahead of it to where the order has it.
    first_moved : (ks : List ℕ) → Allowed (g ∷ gs) ks → length (lowered ks) < length ks →
        Moved may (g ∷ rearranged gs (lowered ks)) (rearranged (g ∷ gs) ks)
    unfolding lowered rearranged
    first_moved [] p h = absurd (not-suc-le-zero h)
    first_moved (zero ∷ ks) p h = rw (rest_lowered ks p.1).0 same
    first_moved (suc k ∷ ks) p h =
        then (change (leads k ks p.1 (le_of_suc-le-suc h))) (under (group gs k) (first_moved ks p.2 (le_of_suc-le-suc h)))

  -- No allowed order has more entries than there are elements.
  no_longer : (gs : List (List ℕ)) (ks : List ℕ) → Allowed gs ks → length ks ≤ length gs
  no_longer [] [] p = zero-le
  no_longer [] (k ∷ ks) p = absurd (not-suc-le-zero p.0)
  no_longer (g ∷ gs) ks p =
      let one = one_first g gs ks p in
      let rest = no_longer gs (lowered ks) (allowed_lowered g gs ks p) in
      omega arith

  -- An allowed order that names as many elements as there are is reached by changes of neighbours.
  pub order_moved : (gs : List (List ℕ)) (ks : List ℕ) → length ks ≡ length gs → Allowed gs ks → Moved may gs (rearranged gs ks)
  unfolding rearranged
  order_moved [] [] e p = same
  order_moved [] (k ∷ ks) e p = absurd (not-suc-le-zero p.0)
  order_moved (g ∷ gs) ks e p =
      let rest = allowed_lowered g gs ks p in
      let one = one_first g gs ks p in
      let most = no_longer gs (lowered ks) rest in
      then (under g (order_moved gs (lowered ks) (omega arith) rest)) (first_moved g gs ks p (omega arith))
