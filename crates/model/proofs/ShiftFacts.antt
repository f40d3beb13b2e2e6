-- A reader of an item does not know where the item stands: what it reads of the item's own bytes it reads of the slice, each place moved to where they stand.
use mathlib.Core.Path.{◌≡◌, refl, sym, ap, subst, ◌∙◌}
use mathlib.Core.List.{List, [], ◌∷◌}
use mathlib.Core.Bool.{Bool, true, false, ◌&&◌}
use Prim.Native.Nat.{ℕ, zero, suc, ◌+◌, ◌*◌, ◌<◌, ◌≤◌}
use native.Mathlib.Decide.{ℕ_discrete, dec_lt}
use native.Mathlib.Omega.{arith}
use lib.ListN.{length}
use lib.Dec.{eqb, ltb, leb}
use borrow.Author.Tests.{lt-ltb, le-ltb, eq-eqb, ne_eqb}
use Rattle.model.specs.Limits.{unlimited, max_nest, max_body, max_constraints, max_operator}
use Rattle.model.specs.Syntax.{Assertion, Constant, Verb}
use Rattle.model.specs.Kinds.{param_kinds, fits_assertion}
use Rattle.model.specs.Safety.{safe_assertion}
use Rattle.model.specs.Bytes.{byte_at, u16_at, choose, Reading, got, refused, and_then}
use Rattle.model.specs.Policies as policies
use Rattle.model.specs.Reader.{Reader, pure, require, ending, times, byte, u16, u32, byte_in, ◌>>=◌, ◌>>◌, sized}
use Rattle.model.specs.Layout.{expr, constraint, levels, fact, assertion, assertion_item}
use Rattle.model.proofs.ItemReader.{sized2_in, assertion_item_is}

-- what is read of an item's own bytes, by its places in the slice where they stand from k on
unfoldable pub moved : {A : Type 0} → ℕ → Reading A → Reading A
moved k (got x q) = got x (k + q)
moved k (refused n p) = refused n (k + p)

-- of the slice the reader r reads what i reads of an item's own m bytes, which stand from k on
pub record Moves {A : Type 0} (k m : ℕ) (i r : Reader A) : Type 0 where
  pub reads : (at e p : ℕ) → e ≤ m → r (k + at) (k + e) (k + p) ≡ moved k (i at e p)

-- the item's first byte is its place
at_first : {A : Type 0} (k m : ℕ) {i r : Reader A} → Moves k m i r → (e p : ℕ) → e ≤ m → r k (k + e) (k + p) ≡ moved k (i 0 e p)
at_first k m {i} {r} h e p l = subst (λ (z : ℕ). r z (k + e) (k + p) ≡ moved k (i 0 e p)) (let z : k + 0 ≡ k = omega arith in z) (h.reads 0 e p l)

-- ---- one after another

module _ {A B : Type 0} (k m : ℕ) where
  then_moved : (x : Reading A) (f g : A → ℕ → Reading B) → ((y : A) (q : ℕ) → g y (k + q) ≡ moved k (f y q)) → and_then (moved k x) g ≡ moved k (and_then x f)
  unfolding moved and_then
  then_moved (got y q) f g h = h y q
  then_moved (refused n p) f g h = refl

  pub then_moves : {i r : Reader A} (f g : A → Reader B) → Moves k m i r → ((y : A) → Moves k m (f y) (g y)) → Moves k m (◌>>=◌ i f) (◌>>=◌ r g)
  then_moves f g h j = record {
    reads = λ at e p l.
        ap (λ (t : Reading A). and_then t (λ x q. g x (k + at) (k + e) q)) (h.reads at e p l) ∙ then_moved _ _ _ (λ y q. (j y).reads at e q l);
  }

  pub next_moves : {i r : Reader A} (f g : Reader B) → Moves k m i r → Moves k m f g → Moves k m (◌>>◌ i f) (◌>>◌ r g)
  next_moves f g h j = then_moves (λ x. f) (λ x. g) h (λ x. j)

module _ (k m : ℕ) where
  choose_moved : {A : Type 0} (b : Bool) (x y : Reading A) → choose b (moved k x) (moved k y) ≡ moved k (choose b x y)
  unfolding choose
  choose_moved true x y = refl
  choose_moved false x y = refl

  pub pure_moves : {A : Type 0} (x : A) → Moves k m (pure x) (pure x)
  unfolding moved
  pure_moves x = record { reads = λ at e p l. refl }

  pub require_moves : (n : ℕ) (b : Bool) → Moves k m (require n b) (require n b)
  unfolding moved
  require_moves n b = record { reads = λ at e p l. choose_moved b (got tt p) (refused n at) }

  eqb_moved : (p e : ℕ) → eqb (k + p) (k + e) ≡ eqb p e
  eqb_moved p e = go (ℕ_discrete p e)
    where
      go : Dec (p ≡ e) → eqb (k + p) (k + e) ≡ eqb p e
      go (yes h) = rw (eq-eqb (k + p) (k + e) (ap (λ (x : ℕ). k + x) h)) (sym (eq-eqb p e h))
      go (no h) = rw (ne_eqb (k + p) (k + e) (λ i. h (omega arith))) (sym (ne_eqb p e h))

  ltb_moved : (p e : ℕ) → ltb (k + p) (k + e) ≡ ltb p e
  ltb_moved p e = go (dec_lt p e)
    where
      go : Dec (p < e) → ltb (k + p) (k + e) ≡ ltb p e
      go (yes h) = rw (lt-ltb p e h) (lt-ltb (k + p) (k + e) (omega arith))
      go (no h) = rw (le-ltb p e (omega arith)) (le-ltb (k + p) (k + e) (omega arith))

  pub ending_moves : Moves k m ending ending
  unfolding moved
  ending_moves = record {
    reads = λ at e p l.
        ap (λ (b : Bool). choose b (got tt (k + p)) (refused 3 (k + at))) (eqb_moved p e) ∙ choose_moved (eqb p e) (got tt p) (refused 3 at);
  }

  pub times_moves : {A : Type 0} {i r : Reader A} (n : ℕ) → Moves k m i r → Moves k m (times n i) (times n r)
  unfolding times
  times_moves zero h = pure_moves []
  times_moves (suc n) h = then_moves k m _ _ h (λ x. then_moves k m _ _ (times_moves n h) (λ xs. pure_moves (x ∷ xs)))

-- ---- the item's own bytes i stand in the slice s from k on

module _ (s i : List ℕ) (k m : ℕ) (there : (p : ℕ) → p < m → byte_at i p ≡ byte_at s (k + p)) where
  byte_moves : Moves k m (byte i) (byte s)
  unfolding byte moved choose
  byte_moves = record { reads = λ at e p l. go at e p l (dec_lt p e) }
    where
      go : (at e p : ℕ) → e ≤ m → Dec (p < e) → choose (ltb (k + p) (k + e)) (got (byte_at s (k + p)) (k + p + 1)) (refused 3 (k + at))
          ≡ moved k (choose (ltb p e) (got (byte_at i p) (p + 1)) (refused 3 at))
      go at e p l (yes h) = let d : k + p + 1 ≡ k + (p + 1) = omega arith in rw (ltb_moved k m p e, lt-ltb p e h, there p (omega arith), d)
      go at e p l (no h) = rw (ltb_moved k m p e, le-ltb p e (omega arith))

  u16_moves : Moves k m (u16 i) (u16 s)
  unfolding u16
  u16_moves = then_moves k m _ _ byte_moves (λ a. then_moves k m _ _ byte_moves (λ b. pure_moves k m (256 * a + b)))

  u32_moves : Moves k m (u32 i) (u32 s)
  unfolding u32
  u32_moves = then_moves k m _ _ u16_moves (λ a. then_moves k m _ _ u16_moves (λ b. pure_moves k m (65536 * a + b)))

  byte_in_moves : (low high : ℕ) → Moves k m (byte_in i low high) (byte_in s low high)
  unfolding byte_in
  byte_in_moves low high =
      then_moves k m _ _ byte_moves (λ b. next_moves k m _ _ (require_moves k m 3 (leb low b && leb b high)) (pure_moves k m b))

  expr_moves : Moves k m (expr i) (expr s)
  unfolding expr
  expr_moves = then_moves k m _ _ u16_moves (λ x. pure_moves k m _)

  constraint_moves : Moves k m (constraint i) (constraint s)
  unfolding constraint
  constraint_moves =
      then_moves k m _ _ (byte_in_moves 1 max_operator) (λ o. then_moves k m _ _ expr_moves (λ l. then_moves k m _ _ expr_moves (λ r. pure_moves k m _)))

  module _ (vs : List Verb) where
    levels_moves : (n : ℕ) → Moves k m (levels i vs n) (levels s vs n)
    unfolding levels
    levels_moves zero =
        then_moves k m _ _ expr_moves (λ e. then_moves k m _ _ byte_moves (λ v. next_moves k m _ _ (require_moves k m 5 _)
        (then_moves k m _ _ (times_moves k m (length (param_kinds vs v)) expr_moves) (λ es. pure_moves k m _))))
    levels_moves (suc n) =
        then_moves k m _ _ expr_moves (λ e. then_moves k m _ _ (byte_in_moves 0 unlimited) (λ d. then_moves k m _ _ (levels_moves n) (λ f. pure_moves k m _)))

    fact_moves : Moves k m (fact i vs) (fact s vs)
    unfolding fact
    fact_moves = then_moves k m _ _ (byte_in_moves 0 max_nest) levels_moves

    assertion_moves : Moves k m (assertion i vs) (assertion s vs)
    unfolding assertion
    assertion_moves =
        then_moves k m _ _ u32_moves (λ serial. then_moves k m _ _ u16_moves (λ issuer. then_moves k m _ _ fact_moves
        (λ head. then_moves k m _ _ (byte_in_moves 0 max_body) (λ b. then_moves k m _ _ (times_moves k m b fact_moves)
        (λ body. then_moves k m _ _ (byte_in_moves 0 max_constraints) (λ t. then_moves k m _ _ (times_moves k m t constraint_moves)
        (λ tests. pure_moves k m _)))))))

-- ---- the whole item

module _ (s i : List ℕ) (k : ℕ) (there : (p : ℕ) → p < length i → byte_at i p ≡ byte_at s (k + p)) (short : k + length i ≤ length s) where
  u16_there : 2 ≤ length i → u16_at i 0 ≡ u16_at s k
  unfolding u16_at
  u16_there l = let e : k + 0 ≡ k = omega arith in rw (there 0 (omega arith), there 1 (omega arith), e)

  module _ (ended : 2 + u16_at i 0 ≡ length i) (cs : List Constant) (vs : List Verb) where
    closed : Moves k (length i) (◌>>=◌ (assertion i vs) (λ a. ◌>>◌ ending (pure a))) (◌>>=◌ (assertion s vs) (λ a. ◌>>◌ ending (pure a)))
    closed = then_moves k (length i) _ _ (assertion_moves s i k (length i) there vs) (λ a. next_moves k (length i) _ _ (ending_moves k (length i))
        (pure_moves k (length i) a))

    sized_moved : sized (u16 s) (assertion s vs) k (length s) k ≡ moved k (sized (u16 i) (assertion i vs) 0 (length i) 0)
    sized_moved =
        let u = u16_there (omega arith) in
        let e : k + 2 + u16_at s k ≡ k + length i = omega arith in
        sized2_in s (assertion s vs) k (length s) k (omega arith)
        ∙ rw (e, ended) (at_first k (length i) closed (length i) 2 (omega arith))
        ∙ ap (moved k) (sym (sized2_in i (assertion i vs) 0 (length i) 0 (omega arith)))

    checks_move : (a : Assertion)
        → Moves k (length i) (◌>>◌ (require 5 (fits_assertion cs vs a)) (◌>>◌ (require 6 (safe_assertion a)) (pure a)))
        (◌>>◌ (require 5 (fits_assertion cs vs a)) (◌>>◌ (require 6 (safe_assertion a)) (pure a)))
    checks_move a = next_moves k (length i) _ _ (require_moves k (length i) 5 _)
        (next_moves k (length i) _ _ (require_moves k (length i) 6 _) (pure_moves k (length i) a))

    -- of the slice the assertion that stands at k is read as its own bytes are, when their length says that they end with it
    pub assertion_item_moved : (before : List Assertion) → policies.assertion_item cs vs s before k ≡ moved k (policies.assertion_item cs vs i before 0)
    unfolding assertion_item
    assertion_item_moved before =
        sym (assertion_item_is s cs vs k before)
        ∙ ap (λ (t : Reading Assertion). and_then t (λ a q. and_then (choose (fits_assertion cs vs a) (got tt q) (refused 5 k))
        (λ (x : Unit {0}) w. and_then (choose (safe_assertion a) (got tt w) (refused 6 k)) (λ (y : Unit {0}) v. got a v)))) sized_moved
        ∙ then_moved k (length i) _ _ _ (λ a q. at_first k (length i) (checks_move a) (length i) q (omega arith))
        ∙ ap (moved k) (assertion_item_is i cs vs 0 before)
