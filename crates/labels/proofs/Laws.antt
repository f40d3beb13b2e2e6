-- Two labels, one byte on, as the code compares them; and that labels which are alike fall into one bucket.
use mathlib.Core.Path.{◌≡◌, refl, sym, ap, ◌∙◌}
use mathlib.Core.Bool.{Bool, true, false}
use mathlib.Core.List.{List, ◌∷◌}
use Prim.Native.Nat.{ℕ, suc, ◌+◌, ◌-◌, ◌%◌, ◌<◌, ◌≤◌}
use native.Mathlib.Omega.{arith}
use borrow.Author.Tests.{eq-eqb, ne_eqb}
use lib.ListN.{length, take, drop}
use Rattle.std.specs.List.{fold}
use Rattle.std.proofs.lemmas.List.{take_all}
use Rattle.model.specs.Bytes.{byte_at, bytes_at}
use Rattle.model.specs.Values.{lower, alike}
use Rattle.model.proofs.ByteFacts.{bytes_length, part_is}
use Rattle.model.proofs.AlikeFacts.{alike_agree, alike_long}
use Rattle.labels.specs.Hash.{buckets, hash_step, hash_of}

-- the bytes from the i-th on: that one, and those after it
bytes_on : (s : List ℕ) (n p i : ℕ) → i < n → bytes_at (n - i) s (p + i) ≡ byte_at s (p + i) ∷ bytes_at (n - (i + 1)) s (p + (i + 1))
unfolding bytes_at
bytes_on s n p i h =
    let d : n - i ≡ suc (n - (i + 1)) = omega arith in
    let e : p + i + 1 ≡ p + (i + 1) = omega arith in
    rw (d, e)

-- whether the labels are alike from the i-th byte on
module _ (s t : List ℕ) (n p q i : ℕ) where
  pub alike_same : i < n → lower (byte_at s (p + i)) ≡ lower (byte_at t (q + i))
      → alike (bytes_at (n - i) s (p + i)) (bytes_at (n - i) t (q + i))
      ≡ alike (bytes_at (n - (i + 1)) s (p + (i + 1))) (bytes_at (n - (i + 1)) t (q + (i + 1)))
  alike_same h e = rw (bytes_on s n p i h, bytes_on t n q i h, eq-eqb _ _ e)

  pub alike_other : i < n → (lower (byte_at s (p + i)) ≡ lower (byte_at t (q + i)) → ⊥)
      → alike (bytes_at (n - i) s (p + i)) (bytes_at (n - i) t (q + i)) ≡ false
  alike_other h e = rw (bytes_on s n p i h, bytes_on t n q i h, ne_eqb _ _ e)

  pub alike_end : n ≤ i → alike (bytes_at (n - i) s (p + i)) (bytes_at (n - i) t (q + i)) ≡ true
  unfolding bytes_at
  alike_end h = let d : n - i ≡ 0 = omega arith in rw d

-- labels of different lengths are not alike
pub alike_lengths : (l r : List ℕ) → (length l ≡ length r → ⊥) → false ≡ alike l r
alike_lengths l r h = go (alike l r) (λ e. h (alike_long l r e))
  where
    go : (b : Bool) → (b ≡ true → ⊥) → false ≡ b
    go true f = absurd (f refl)
    go false f = refl

-- two parts of bytes: of different lengths, and of the same
module _ (s t : List ℕ) (m n p q : ℕ) where
  pub parts_differ : (m ≡ n → ⊥) → false ≡ alike (bytes_at m s p) (bytes_at n t q)
  parts_differ h = alike_lengths (bytes_at m s p) (bytes_at n t q) (λ e. h (sym (bytes_length m s p) ∙ e ∙ bytes_length n t q))

  pub parts_same : (z : Bool) → m ≡ n → z ≡ alike (bytes_at m s p) (bytes_at m t q) → z ≡ alike (bytes_at m s p) (bytes_at n t q)
  parts_same z e h = rw (← e) h

-- ---- buckets

-- a part that was gone through to its end
pub part_taken : (s : List ℕ) (n p i : ℕ) → p + n ≤ length s → length (take (p + n - p) (drop p s)) ≤ i → take i (take (p + n - p) (drop p s)) ≡ bytes_at n s p
part_taken s n p i h l =
    let d : p + n - p ≡ n = omega arith in
    take_all i _ l ∙ rw d (part_is n s p h)

pub hash_small : (l : List ℕ) → hash_of l < buckets
unfolding hash_of
hash_small l = omega arith

-- labels that are alike have the same small letters
pub alike_hash : (l r : List ℕ) → alike l r ≡ true → hash_of l ≡ hash_of r
unfolding hash_of
alike_hash l r e = ap (λ (x : List ℕ). fold hash_step 0 x % buckets) (alike_agree l r e)
