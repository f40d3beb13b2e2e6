-- The whole policy: `Layout.read_policy` is the computed reader for every byte list.
use mathlib.Core.Path.{◌≡◌, refl, ap, ◌∙◌}
use mathlib.Core.List.{List, [], ◌∷◌, ◌++◌}
use mathlib.Core.Bool.{Bool, true, false, ◌&&◌}
use Prim.Native.Nat.{ℕ, zero, suc, ◌+◌, ◌-◌, ◌<◌, ◌≤◌}
use native.Mathlib.Decide.{dec_lt}
use native.Mathlib.Omega.{arith}
use lib.ListN.{length}
use lib.Dec.{eqb, ltb, leb}
use borrow.Author.Tests.{lt-ltb, le-ltb, le-leb, lt-leb}
use Rattle.model.specs.Limits.{max_constants, max_verbs, max_assertions, policy_versions, length_at, header_bytes}
use Rattle.model.specs.Bytes.{byte_at, u16_at, u32_at, choose, Reading, got, refused, and_then}
use Rattle.model.specs.Policies.{Item, contents, headed, version_there, length_right, ended, items_from, list_at, assertions_from}
use Rattle.model.specs.Policies.{verbs_from, constants_from, computed_policy, read_policy}
use Rattle.model.specs.Policies as policies
use Rattle.model.specs.Reader.{Reader, items, list}
use Rattle.model.specs.Layout.{constant_item, verb_item, assertion_item, slice}
use Rattle.model.proofs.ReaderLaws.{u16_in, u16_out}
use Rattle.model.proofs.AssertionReader.{both_and}
use Rattle.model.proofs.ItemReader.{constant_item_is, verb_item_is, assertion_item_is}

module _ {A : Type 0} (s : List ℕ) (f : List A → Reader A) (g : List A → ℕ → Reading A)
    (same : (earlier : List A) (p : ℕ) → f earlier p (length s) p ≡ g earlier p) where
  items_is : (n : ℕ) (is : List (Item A)) (at p : ℕ) → items f n is at (length s) p ≡ items_from g n is p
  unfolding items items_from and_then
  items_is zero is at p = refl
  items_is (suc n) is at p = ap (λ (t : Reading A). and_then t (λ x q. items f n (is ++ record { at = p; of = x } ∷ []) at (length s) q))
      (same (contents is) p) ∙ go (g (contents is) p) (λ x q. items_is n (is ++ record { at = p; of = x } ∷ []) at q)
    where
      go : (r : Reading A) → ((x : A) (q : ℕ) → items f n (is ++ record { at = p; of = x } ∷ []) at (length s) q
          ≡ items_from g n (is ++ record { at = p; of = x } ∷ []) q)
          → and_then r (λ x q. items f n (is ++ record { at = p; of = x } ∷ []) at (length s) q)
          ≡ and_then r (λ x q. items_from g n (is ++ record { at = p; of = x } ∷ []) q)
      go (got x q) k = k x q
      go (refused m a) k = refl

  range : {B : Type 0} (low high n : ℕ) (x y : B) → choose (leb low n && leb n high) x y ≡ choose (ltb n low) y (choose (ltb high n) y x)
  unfolding choose
  range low high n x y = go (dec_lt n low) (dec_lt high n)
    where
      go : Dec (n < low) → Dec (high < n) → choose (leb low n && leb n high) x y ≡ choose (ltb n low) y (choose (ltb high n) y x)
      go (yes h) d = rw (lt-leb low n h, lt-ltb n low h)
      go (no h) (yes k) = let l : low ≤ n = omega arith in rw (le-leb low n l, lt-leb n high k, le-ltb n low l, lt-ltb high n k)
      go (no h) (no k) = let l : low ≤ n = omega arith in let m : n ≤ high = omega arith in
          rw (le-leb low n l, le-leb n high m, le-ltb n low l, le-ltb high n m)

  pub list_is : (low high at p : ℕ) → list s low high f at (length s) p ≡ list_at s low high g p
  unfolding list list_at and_then choose
  list_is low high at p = go (dec_lt (length s) (p + 2))
    where
      n : ℕ
      n = u16_at s p

      K : ℕ → ℕ → Reading ℕ
      K n q = and_then (choose (leb low n && leb n high) (got tt q) (refused 3 p)) (λ (x : Unit {0}) z. got n z)

      L : ℕ → ℕ → Reading (List (Item A))
      L n q = items f n [] at (length s) q

      counted : (b : Bool) → and_then (and_then (choose b (got tt (p + 2)) (refused 3 p)) (λ (x : Unit {0}) q. got n q)) L ≡ choose b (L n (p + 2))
          (refused 3 p)
      counted true = refl
      counted false = refl

      go : Dec (length s < p + 2) → list s low high f at (length s) p ≡ list_at s low high g p
      go (yes h) = ap (λ (t : Reading ℕ). and_then (and_then t K) L) (u16_out s p (length s) p h) ∙ rw (lt-ltb (length s) (p + 2) h)
      go (no h) = let l : p + 2 ≤ length s = omega arith in
          ap (λ (t : Reading ℕ). and_then (and_then t K) L) (u16_in s p (length s) p (p + 2) refl l)
          ∙ counted (leb low n && leb n high)
          ∙ range low high n (L n (p + 2)) (refused 3 p)
          ∙ ap (λ (t : Reading (List (Item A))). choose (ltb n low) (refused 3 p) (choose (ltb high n) (refused 3 p) t)) (items_is n [] at (p + 2))
          ∙ rw (le-ltb (length s) (p + 2) l)

-- one reading after another, where both readings and all that follows are alike
module _ {A B : Type 0} where
  pub then_same : {r t : Reading A} (f g : A → ℕ → Reading B) → r ≡ t → ((x : A) (q : ℕ) → f x q ≡ g x q) → and_then r f ≡ and_then t g
  unfolding and_then
  then_same {t} f g h k = ap (λ (u : Reading A). and_then u f) h ∙ go t
    where
      go : (u : Reading A) → and_then u f ≡ and_then u g
      go (got x q) = k x q
      go (refused n p) = refl

module _ {A : Type 0} where
  pub slice_is : (latest : ℕ) (s : List ℕ) (r : Reader A) (t : Reading A) → r 0 (length s) header_bytes ≡ t → slice s latest r ≡ headed latest s t
  unfolding slice headed version_there length_right
  slice_is latest s r t h = rw (
    both_and (leb 1 (byte_at s 0)) (leb (byte_at s 0) latest),
    both_and (ltb 0 (length s)) (leb 1 (byte_at s 0) && leb (byte_at s 0) latest),
    both_and (leb header_bytes (length s)) (eqb (u32_at s length_at) (length s - header_bytes)),
    h,
  )

module _ {A : Type 0} (s : List ℕ) where
  pub ended_is : (x : A) (at p : ℕ) → and_then (choose (eqb p (length s)) (got tt p) (refused 3 p)) (λ (y : Unit {0}) q. got x q) ≡ ended s x p
  unfolding ended and_then choose
  ended_is x at p = go (eqb p (length s))
    where
      go : (b : Bool) → and_then (choose b (got tt p) (refused 3 p)) (λ (y : Unit {0}) q. got x q) ≡ choose b (got x p) (refused 3 p)
      go true = refl
      go false = refl

module _ (s : List ℕ) where
  -- the reader in one walk is the computed one
  pub policy_is : read_policy s ≡ computed_policy s
  unfolding read_policy computed_policy constants_from verbs_from assertions_from
  policy_is = slice_is policy_versions s _ (constants_from s)
      (then_same _ _ (list_is s (constant_item s) (policies.constant_item s) (λ earlier p. constant_item_is s p earlier) 1 max_constants 0 header_bytes)
      (λ cs p. then_same _ _ (list_is s (verb_item s) (policies.verb_item s) (λ earlier p. verb_item_is s p earlier) 0 max_verbs 0 p)
      (λ vs p. then_same _ _ (list_is s (assertion_item s (contents cs) (contents vs)) (policies.assertion_item (contents cs) (contents vs) s)
      (λ earlier p. assertion_item_is s (contents cs) (contents vs) p earlier) 0 max_assertions 0 p)
      (λ 𝒜 p. ended_is s (record { version = byte_at s 0; constants = cs; verbs = vs; assertions = 𝒜 }) 0 p))))
