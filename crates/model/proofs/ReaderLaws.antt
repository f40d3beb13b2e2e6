-- How a reader steps: what `do` does when a part is found and when it is refused, and when a byte or a number is there.
use mathlib.Core.Path.{◌≡◌, refl, ap, ◌∙◌}
use mathlib.Core.List.{List}
use mathlib.Core.Bool.{Bool, true, false, ◌&&◌}
use Prim.Native.Nat.{ℕ, ◌+◌, ◌<◌, ◌≤◌}
use native.Mathlib.Decide.{dec_lt}
use native.Mathlib.Omega.{arith}
use lib.Dec.{ltb, leb, leb-zero}
use borrow.Author.Tests.{lt-ltb, le-ltb, le-leb, lt-leb}
use Rattle.model.specs.Bytes.{byte_at, u16_at, u32_at, choose, Reading, got, refused, and_then}
use Rattle.model.specs.Reader.{byte, u16, u32, byte_in}

module _ {A B : Type 0} where
  pub then_in : {r : Reading A} {x : A} {q : ℕ} (f : A → ℕ → Reading B) → r ≡ got x q → and_then r f ≡ f x q
  unfolding and_then
  then_in f h = rw h

  pub then_out : {r : Reading A} {n a : ℕ} (f : A → ℕ → Reading B) → r ≡ refused n a → and_then r f ≡ refused n a
  unfolding and_then
  then_out f h = rw h

  -- and_then over choose
  pub then_choose : (b : Bool) (r t : Reading A) (f : A → ℕ → Reading B) → and_then (choose b r t) f ≡ choose b (and_then r f) (and_then t f)
  unfolding choose
  then_choose true r t f = refl
  then_choose false r t f = refl

pub then_then : {A B C : Type 0} (r : Reading A) (f : A → ℕ → Reading B) (g : B → ℕ → Reading C)
    → and_then (and_then r f) g ≡ and_then r (λ x q. and_then (f x q) g)
unfolding and_then
then_then (got x q) f g = refl
then_then (refused n a) f g = refl

module _ {A : Type 0} where
  pub choose_true : {b : Bool} (x y : A) → b ≡ true → choose b x y ≡ x
  unfolding choose
  choose_true x y e = rw e

  pub choose_false : {b : Bool} (x y : A) → b ≡ false → choose b x y ≡ y
  unfolding choose
  choose_false x y e = rw e

-- ---- bytes: each reader where its bytes are there, with the offset after them, and where they are not

module _ (s : List ℕ) (at e : ℕ) where
  pub byte_in_law : (p q : ℕ) → p + 1 ≡ q → q ≤ e → byte s at e p ≡ got (byte_at s p) q
  unfolding byte
  byte_in_law p q i h = choose_true _ _ (lt-ltb p e (omega arith)) ∙ ap (got (byte_at s p)) i

  pub byte_out : (p : ℕ) → e ≤ p → byte s at e p ≡ refused 3 at
  unfolding byte
  byte_out p h = choose_false _ _ (le-ltb p e h)

  pub u16_in : (p q : ℕ) → p + 2 ≡ q → q ≤ e → u16 s at e p ≡ got (u16_at s p) q
  unfolding u16 u16_at
  u16_in p q i h = then_in _ (byte_in_law p (p + 1) refl (omega arith)) ∙ then_in _ (byte_in_law (p + 1) q (omega arith) (omega arith))

  pub u16_out : (p : ℕ) → e < p + 2 → u16 s at e p ≡ refused 3 at
  unfolding u16
  u16_out p h = go (dec_lt p e)
    where
      go : Dec (p < e) → u16 s at e p ≡ refused 3 at
      go (yes k) = then_in _ (byte_in_law p (p + 1) refl (omega arith)) ∙ then_out _ (byte_out (p + 1) (omega arith))
      go (no k) = then_out _ (byte_out p (omega arith))

  pub u32_in : (p q : ℕ) → p + 4 ≡ q → q ≤ e → u32 s at e p ≡ got (u32_at s p) q
  unfolding u32 u32_at
  u32_in p q i h = then_in _ (u16_in p (p + 2) refl (omega arith)) ∙ then_in _ (u16_in (p + 2) q (omega arith) (omega arith))

  pub u32_out : (p : ℕ) → e < p + 4 → u32 s at e p ≡ refused 3 at
  unfolding u32
  u32_out p h = go (dec_lt e (p + 2))
    where
      go : Dec (e < p + 2) → u32 s at e p ≡ refused 3 at
      go (yes k) = then_out _ (u16_out p k)
      go (no k) = then_in _ (u16_in p (p + 2) refl (omega arith)) ∙ then_out _ (u16_out (p + 2) (omega arith))

  -- a byte in a range
  pub byte_in_is : (low high p : ℕ) → p < e
      → byte_in s low high at e p ≡ choose (leb low (byte_at s p) && leb (byte_at s p) high) (got (byte_at s p) (p + 1)) (refused 3 at)
  unfolding byte_in and_then
  byte_in_is low high p h = then_in _ (byte_in_law p (p + 1) refl (omega arith))
      ∙ then_choose (leb low (byte_at s p) && leb (byte_at s p) high) (got tt (p + 1)) (refused 3 at) (λ x q. got (byte_at s p) q)

  pub byte_in_out : (low high p : ℕ) → e ≤ p → byte_in s low high at e p ≡ refused 3 at
  unfolding byte_in
  byte_in_out low high p h = then_out _ (byte_out p h)

module _ {A : Type 0} where
  pub upto : (b high : ℕ) (x y : A) → choose (leb 0 b && leb b high) x y ≡ choose (ltb high b) y x
  unfolding choose
  upto b high x y = go (dec_lt high b)
    where
      go : Dec (high < b) → choose (leb 0 b && leb b high) x y ≡ choose (ltb high b) y x
      go (yes k) = rw (leb-zero b, lt-leb b high k, lt-ltb high b k)
      go (no k) = let h : b ≤ high = omega arith in rw (leb-zero b, le-leb b high h, le-ltb high b h)

module _ {A : Type 0} (s : List ℕ) (at e : ℕ) (f : ℕ → ℕ → Reading A) where
  -- a byte of at most `high`, and what follows
  pub upto_then : (high p : ℕ) → and_then (byte_in s 0 high at e p) f ≡ choose (leb e p) (refused 3 at)
      (choose (ltb high (byte_at s p)) (refused 3 at) (f (byte_at s p) (p + 1)))
  unfolding choose and_then
  upto_then high p = go (dec_lt p e)
    where
      go : Dec (p < e) → and_then (byte_in s 0 high at e p) f ≡ choose (leb e p) (refused 3 at)
          (choose (ltb high (byte_at s p)) (refused 3 at) (f (byte_at s p) (p + 1)))
      go (yes k) = rw (lt-leb e p k, byte_in_is s at e 0 high p k, upto (byte_at s p) high (got (byte_at s p) (p + 1)) (refused 3 at))
          (then_choose (ltb high (byte_at s p)) _ _ f)
      go (no k) = let h : e ≤ p = omega arith in rw (le-leb e p h, byte_in_out s at e 0 high p h)

  pub upto_in : (high p q : ℕ) → p + 1 ≡ q → q ≤ e → and_then (byte_in s 0 high at e p) f ≡ choose (ltb high (byte_at s p)) (refused 3 at) (f (byte_at s p) q)
  upto_in high p q i h = upto_then high p ∙ choose_false _ _ (lt-leb e p (omega arith))
      ∙ ap (λ (z : ℕ). choose (ltb high (byte_at s p)) (refused 3 at) (f (byte_at s p) z)) i

  pub upto_out : (high p : ℕ) → e ≤ p → and_then (byte_in s 0 high at e p) f ≡ refused 3 at
  upto_out high p h = upto_then high p ∙ choose_true _ _ (le-leb e p h)
