-- Bytes from a place on, and lists filled up with 0.
use mathlib.Core.Path.{◌≡◌, refl, ap, ◌∙◌}
use mathlib.Core.List.{List, [], ◌∷◌}
use Prim.Native.Nat.{ℕ, zero, suc, ◌+◌, ◌≤◌, ◌<◌}
use native.Mathlib.Numerals.{add-one}
use native.Mathlib.Omega.{arith}
use lib.ListN.{length, take, drop, get_or, replicate, get_or-eq_default}
use lib.Seq.{drop-cons}
use native.Mathlib.Decide.{dec_lt}
use Rattle.model.specs.Lists.{pad}
use Rattle.model.specs.Bytes.{byte_at, bytes_at}

-- ---- n bytes from p on

pub bytes_length : (n : ℕ) (s : List ℕ) (p : ℕ) → length (bytes_at n s p) ≡ n
unfolding bytes_at
bytes_length zero s p = refl
bytes_length (suc n) s p = ap suc (bytes_length n s (p + 1))

pub bytes_at_law : (n : ℕ) (s : List ℕ) (p i : ℕ) → i < n → get_or (bytes_at n s p) i 0 ≡ byte_at s (p + i)
unfolding bytes_at
bytes_at_law zero s p i h = absurd (omega arith)
bytes_at_law (suc n) s p zero h = let e : p ≡ p + 0 = omega arith in ap (byte_at s) e
bytes_at_law (suc n) s p (suc i) h = let e : p + 1 + i ≡ p + suc i = omega arith in bytes_at_law n s (p + 1) i (omega arith) ∙ ap (byte_at s) e

-- they are a part of the list
pub part_is : (n : ℕ) (s : List ℕ) (p : ℕ) → p + n ≤ length s → take n (drop p s) ≡ bytes_at n s p
unfolding bytes_at
part_is zero s p h = refl
part_is (suc n) s p h =
    rw (drop-cons s p 0 (omega arith), ← add-one p) (ap (λ (l : List ℕ). get_or s p 0 ∷ l) (part_is n s (p + 1) (omega arith)))

-- ---- 0 past what is there

pub zeros : (n i : ℕ) → ◌≡◌ {A = ℕ} (get_or (replicate n 0) i 0) 0
zeros zero i = refl
zeros (suc n) zero = refl
zeros (suc n) (suc i) = zeros n i

pub length_pad : (n : ℕ) (l : List ℕ) → length l ≤ n → length (pad n l) ≡ n
length_pad zero [] h = refl
length_pad zero (x ∷ l) h = absurd (omega arith)
length_pad (suc n) [] h = ap suc (length_pad n [] (omega arith))
length_pad (suc n) (x ∷ l) h = ap suc (length_pad n l (omega arith))

-- what is not 0 is there
pub below_length : (l : List ℕ) (n : ℕ) → length l ≡ n → (v : ℕ) → (get_or l v 0 ≡ 0 → ⊥) → v < n
below_length l n e v h = go (dec_lt v n)
  where
    go : Dec (v < n) → v < n
    go (yes k) = k
    go (no k) = absurd (h (get_or-eq_default l 0 (omega arith)))
