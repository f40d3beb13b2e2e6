-- What a reader finds, and the bytes of a list at an offset.
use Rattle.std.specs.Prelude.{ℕ, zero, suc, ◌+◌, ◌*◌, List, [], ◌∷◌, Bool, true, false, get_or}

-- something and the offset after it, or a refusal's number and place
pub data Reading (A : Type 0) : Type 0 where
  got : A → ℕ → Reading A
  refused : ℕ → ℕ → Reading A

-- one reading after another: a refusal ends it
unfoldable pub and_then : {A B : Type 0} → Reading A → (A → ℕ → Reading B) → Reading B
and_then (got x e) f = f x e
and_then (refused n p) f = refused n p

unfoldable pub choose : {A : Type 0} → Bool → A → A → A
choose true x y = x
choose false x y = y

abbrev pub byte_at : List ℕ → ℕ → ℕ
byte_at s p = get_or s p 0

-- "All numbers big-endian, unsigned"
unfoldable pub u16_at : List ℕ → ℕ → ℕ
u16_at s p = 256 * byte_at s p + byte_at s (p + 1)

unfoldable pub u32_at : List ℕ → ℕ → ℕ
u32_at s p = 65536 * u16_at s p + u16_at s (p + 2)

-- ==== Computed from here on: for readings by offsets, where a byte past the end reads 0.

-- n bytes from p on
unfoldable pub bytes_at : ℕ → List ℕ → ℕ → List ℕ
bytes_at zero s p = []
bytes_at (suc n) s p = byte_at s p ∷ bytes_at n s (p + 1)

-- two tests in the order in which they are made
unfoldable pub both : Bool → Bool → Bool
both a b = choose a b false
