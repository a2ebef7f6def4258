-- Pieces of a buffer by their place: how a loop that counts comes to the list of pieces that the meaning has.
use Rattle.std.specs.Prelude.{ℕ, zero, suc, ◌+◌, ◌-◌, ◌*◌, ◌/◌, ◌<◌, ◌≤◌, List, [], ◌∷◌, ◌≡◌, refl, length, take, drop, get_or}
use Rattle.std.proofs.Common.{add_comm, mul-zero, mul-suc, le_of_suc-le-suc, not-suc-le-zero, arith, sym, ap, ◌∙◌, length-drop, drop-drop, length-take-le}
use Rattle.std.proofs.Math.Nat.{sub-zero, sub_self}
use Rattle.std.proofs.lemmas.List.{length-map}
use Rattle.std.specs.Simd.{first_chunks}
use Rattle.meaning.specs.Numbers.{cut, pieces}
use Rattle.meaning.specs.Call.{Call, record_of, records_of}

-- the piece at a place
abbrev pub piece : ℕ → List ℕ → ℕ → List ℕ
piece size s i = take size (drop (size * i) s)

-- the pieces from number i on, of n
abbrev pub pieces_from : ℕ → List ℕ → ℕ → ℕ → List (List ℕ)
pieces_from size s n i = cut size (n - i) (drop (size * i) s)

pub from_start : (size : ℕ) (s : List ℕ) (n : ℕ) → pieces_from size s n 0 ≡ cut size n s
from_start size s n = simp (mul-zero, sub-zero)

pub from_next : (size : ℕ) (s : List ℕ) (n i : ℕ) → i < n → pieces_from size s n i ≡ piece size s i ∷ pieces_from size s n (suc i)
unfolding cut
from_next size s n i h =
    let e : n - i ≡ suc (n - suc i) = omega arith in
    ap (λ (m : ℕ). cut size m (drop (size * i) s)) e
    ∙ ap (λ (t : List ℕ). piece size s i ∷ cut size (n - suc i) t)
    (drop-drop size (size * i) s ∙ ap (λ (m : ℕ). drop m s) (sym (mul-suc size i)))

pub from_end : (size : ℕ) (s : List ℕ) (n : ℕ) → pieces_from size s n n ≡ []
unfolding cut
from_end size s n = rw sub_self

-- the library's chunks are the pieces
pub chunks_cut : (size n : ℕ) (s : List ℕ) → first_chunks size n s ≡ cut size n s
unfolding cut
chunks_cut size zero s = refl
chunks_cut size (suc n) s = ap (λ (t : List (List ℕ)). take size s ∷ t) (chunks_cut size n (drop size s))

-- the piece of a number, out of the list
pub piece-at : (size : ℕ) (s : List ℕ) (n k : ℕ) (none : List ℕ) → k < n → get_or (cut size n s) k none ≡ piece size s k
unfolding cut
piece-at size s zero k none h = absurd (not-suc-le-zero h)
piece-at size s (suc n) zero none h = rw mul-zero
piece-at size s (suc n) (suc k) none h =
    piece-at size (drop size s) n k none (le_of_suc-le-suc h)
    ∙ ap (take size) (drop-drop (size * k) size s ∙ ap (λ (m : ℕ). drop m s) (add_comm size (size * k) ∙ sym (mul-suc size k)))

pub length_cut : (size n : ℕ) (s : List ℕ) → length (cut size n s) ≡ n
unfolding cut
length_cut size zero s = refl
length_cut size (suc n) s = ap suc (length_cut size n (drop size s))

pub length_records : (c : Call) (records : List ℕ) → length (records_of c records) ≡ length records / c.setting.card.record_bytes
length_records c records =
    let size : ℕ = c.setting.card.record_bytes in
    length-map (pieces size records) (record_of c.setting.card c.values) ∙ length_cut size (length records / size) records

-- a piece of the list is whole
pub length-piece : (size : ℕ) (s : List ℕ) (k : ℕ) → size * suc k ≤ length s → length (piece size s k) ≡ size
length-piece size s k h =
    let e : size * suc k ≡ size * k + size = mul-suc size k in
    let d : length (drop (size * k) s) ≡ length s - size * k = length-drop (size * k) s in
    length-take-le size (drop (size * k) s) (omega arith)
