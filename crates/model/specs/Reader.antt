-- How bytes are read: front to back, item by item, until the end or a refusal. `Layout` is written with these.
use Rattle.std.specs.Prelude.{ℕ, zero, suc, ◌+◌, ◌-◌, ◌*◌, List, [], ◌∷◌, ◌++◌, map, Bool, ◌&&◌, length, eqb, ltb, leb}
use Rattle.model.specs.Bytes.{byte_at, choose, Reading, got, refused, and_then}

-- What is found in the item that begins at `at` and ends at `e`, from offset p on: an A and the offset after it, or a refusal with its place.
abbrev pub Reader : Type 0 → Type 0
Reader A = (at e p : ℕ) → Reading A

-- one after another: the next goes on where the last ended, and a refusal ends it
module _ {A B : Type 0} where
  abbrev pub ◌>>=◌ : Reader A → (A → Reader B) → Reader B
  ◌>>=◌ r f at e p = and_then (r at e p) (λ x q. f x at e q)

  abbrev pub ◌>>◌ : Reader A → Reader B → Reader B
  ◌>>◌ r t at e p = and_then (r at e p) (λ x q. t at e q)

module _ {A : Type 0} where
  -- nothing is read
  abbrev pub pure : A → Reader A
  pure x at e p = got x p

  -- "Place: the item's first byte"
  abbrev pub refuse : ℕ → Reader A
  refuse n at e p = refused n at

  -- where the place is another
  abbrev pub placed : ℕ → Reader A → Reader A
  placed place r at e p = r place e p

  -- an item begins here
  abbrev pub item : Reader A → Reader A
  item r at e p = r p e p

abbrev pub here : Reader ℕ
here at e p = got p p

-- refused with n unless the test passes
abbrev pub require : ℕ → Bool → Reader (Unit {0})
require n b at e p = choose b (got tt p) (refused n at)

-- the item ends here: "item length wrong, .. bytes left over" is 3
abbrev pub ending : Reader (Unit {0})
ending at e p = choose (eqb p e) (got tt p) (refused 3 at)

-- ---- items

-- what is read as an item, with its first byte
pub record Item (A : Type 0) : Type 0 where
  pub at : ℕ
  pub of : A

abbrev pub contents : {A : Type 0} → List (Item A) → List A
contents is = map (λ i. i.of) is

module _ {A : Type 0} where
  -- an item led by its length, "bytes after it in the item": 3 where it passes the end, and where what it holds ends elsewhere
  unfoldable pub sized : Reader ℕ → Reader A → Reader A
  sized length r = do
    n ← length
    λ at e p. choose (leb (p + n) e) ((do x ← r; ending; pure x) at (p + n) p) (refused 3 at)

  -- "that many"
  unfoldable pub times : ℕ → Reader A → Reader (List A)
  times zero r = pure []
  times (suc n) r = do x ← r; xs ← times n r; pure (x ∷ xs)

  -- "front to back by item": n more, each read by `f` given those before it
  unfoldable pub items : (List A → Reader A) → ℕ → List (Item A) → Reader (List (Item A))
  items f zero is = pure is
  items f (suc n) is = do p ← here; x ← item (f (contents is)); items f n (is ++ record { at = p; of = x } ∷ [])

-- ---- numbers: "end passed" is 3

module _ (s : List ℕ) where
  unfoldable pub byte : Reader ℕ
  byte at e p = choose (ltb p e) (got (byte_at s p) (p + 1)) (refused 3 at)

  -- "All numbers big-endian, unsigned"
  unfoldable pub u16 : Reader ℕ
  u16 = do a ← byte; b ← byte; pure (256 * a + b)

  unfoldable pub u32 : Reader ℕ
  u32 = do a ← u16; b ← u16; pure (65536 * a + b)

  -- a byte in its range: else "with no meaning" is 3
  unfoldable pub byte_in : ℕ → ℕ → Reader ℕ
  byte_in low high = do b ← byte; require 3 (leb low b && leb b high); pure b

  -- the bytes up to the item's end
  unfoldable pub rest : Reader (List ℕ)
  rest at e p = times (e - p) byte at e p

  -- a list "led by a 2-byte count", which is an item by itself: "Place: .. for a list count, that count"
  unfoldable pub list : {A : Type 0} → ℕ → ℕ → (List A → Reader A) → Reader (List (Item A))
  list low high f = do
    n ← item do n ← u16; require 3 (leb low n && leb n high); pure n
    items f n []
