-- Replacing n bytes at a place: the length stays, every other byte stays, and the bytes stay bytes.
use Rattle.std.specs.Prelude.{ℕ, zero, suc, ◌+◌, ◌-◌, ◌<◌, ◌≤◌, List, [], ◌∷◌, ◌++◌, ◌⊎◌, ◌≡◌, length, take, drop, get_or}
use Rattle.std.proofs.Common.{arith, inl, inr, ap, ◌∙◌, subst, length-append, length-drop, length-take-le, get_or-take, get_or-drop, get_or-append-add, take_at, drop_at}
use Rattle.std.proofs.Math.ListN.{get_or-append}

-- each element is a byte
abbrev pub Bytes : List ℕ → Type 0
Bytes s = (i : ℕ) → get_or s i 0 < 256

pub bytes_append : (a b : List ℕ) → Bytes a → Bytes b → Bytes (a ++ b)
bytes_append [] b p q i = q i
bytes_append (x ∷ a) b p q zero = p zero
bytes_append (x ∷ a) b p q (suc i) = bytes_append a b (λ j. p (suc j)) q i

pub bytes_take : (n : ℕ) (s : List ℕ) → Bytes s → Bytes (take n s)
bytes_take zero s p i = omega arith
bytes_take (suc n) [] p i = omega arith
bytes_take (suc n) (x ∷ s) p zero = p zero
bytes_take (suc n) (x ∷ s) p (suc i) = bytes_take n s (λ j. p (suc j)) i

pub bytes_drop : (n : ℕ) (s : List ℕ) → Bytes s → Bytes (drop n s)
bytes_drop n s p i = rw get_or-drop (p (n + i))

-- n bytes laid over those at a place
abbrev pub laid : ℕ → ℕ → List ℕ → List ℕ → List ℕ
laid at n new s = take at s ++ (new ++ drop n (drop at s))

get_d_past : (p q : List ℕ) (m k : ℕ) → length p ≡ m → get_or (p ++ q) (m + k) 0 ≡ get_or q k 0
get_d_past p q m k e = subst (λ (x : ℕ). get_or (p ++ q) (x + k) 0 ≡ get_or q k 0) e (get_or-append-add p q k 0)

module _ (at n : ℕ) (new s : List ℕ) (size : length new ≡ n) (fits : at + n ≤ length s) where
  laid_head : length (take at s) ≡ at
  laid_head = length-take-le at s (omega arith)

  pub laid-length : length (laid at n new s) ≡ length s
  laid-length = simp (length-append, laid_head, size, length-drop) (omega arith)

  -- the bytes at the place are the new ones
  pub laid-inside : take n (drop at (laid at n new s)) ≡ new
  laid-inside =
      ap (take n) (drop_at (take at s) (new ++ drop n (drop at s)) at laid_head) ∙ take_at new (drop n (drop at s)) n size

  -- every other byte is the old one
  pub laid_before : (i : ℕ) → i < at → get_or (laid at n new s) i 0 ≡ get_or s i 0
  laid_before i h = get_or-append (take at s) _ 0 i (rw laid_head h) ∙ get_or-take at s i 0 h

  pub laid-past : (k : ℕ) → get_or (laid at n new s) (at + (n + k)) 0 ≡ get_or s (at + (n + k)) 0
  laid-past k =
      get_d_past (take at s) (new ++ drop n (drop at s)) at (n + k) laid_head
      ∙ get_d_past new (drop n (drop at s)) n k size
      ∙ get_or-drop n (drop at s) k 0
      ∙ get_or-drop at s (n + k) 0

  pub laid-outside : (i : ℕ) → (i < at) ⊎ (at + n ≤ i) → get_or (laid at n new s) i 0 ≡ get_or s i 0
  laid-outside i (inl h) = laid_before i h
  laid-outside i (inr h) =
      let e : at + (n + (i - (at + n))) ≡ i = omega arith in
      subst (λ (j : ℕ). get_or (laid at n new s) j 0 ≡ get_or s j 0) e (laid-past (i - (at + n)))

  pub laid_bytes : Bytes new → Bytes s → Bytes (laid at n new s)
  laid_bytes p q =
      bytes_append (take at s) _ (bytes_take at s q) (bytes_append new _ p (bytes_drop n (drop at s) (bytes_drop at s q)))
