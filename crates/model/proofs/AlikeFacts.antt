-- Labels in small letters, lists with a front, and items of which each is new to those before it.
use mathlib.Core.Path.{◌≡◌, refl, sym, ap, ap₂, subst, ◌∙◌}
use mathlib.Core.Bool.{Bool, true, ◌&&◌, false≢true}
use mathlib.Core.List.{List, [], ◌∷◌, ◌++◌, Memᴰ, map-append}
use Prim.Native.Nat.{ℕ, zero, suc, ◌+◌, ◌≤◌, ◌<◌}
use native.Mathlib.Decide.{dec_lt}
use native.Mathlib.Omega.{arith}
use lib.ListN.{length, get_or, length-map, length-append}
use lib.Dec.{T, eqb}
use borrow.Author.Tests.{le-leb, lt-leb, eqb-true}
use Rattle.model.specs.Lists.{any, same_list, front}
use Rattle.model.specs.Values.{lower, lowered, alike}
use Rattle.model.specs.Bytes.{Reading, got}
use Rattle.model.specs.Policies.{Item, contents, items_from, list_at}
use Rattle.model.proofs.Tests.{T_true, true_T, and_true}
use Rattle.model.proofs.ListFacts.{any_in, same_list_of, same_list_refl}
use Rattle.model.proofs.ReadFacts.{choose_no, and_then_got}

-- ---- bytes

pub lower_capital : (b : ℕ) → 0x41 ≤ b → b ≤ 0x5A → lower b ≡ b + 0x20
unfolding lower
lower_capital b h k = rw (le-leb 0x41 b h, le-leb b 0x5A k)

pub lower_below : (b : ℕ) → b < 0x41 → lower b ≡ b
unfolding lower
lower_below b h = rw (lt-leb 0x41 b h)

pub lower_above : (b : ℕ) → 0x5A < b → lower b ≡ b
unfolding lower
lower_above b h = let l : 0x41 ≤ b = omega arith in rw (le-leb 0x41 b l, lt-leb b 0x5A h)

lower_once : (b : ℕ) → lower (lower b) ≡ lower b
lower_once b = go (dec_lt b 0x41) (dec_lt 0x5A b)
  where
    go : Dec (b < 0x41) → Dec (0x5A < b) → lower (lower b) ≡ lower b
    go (yes h) d = ap lower (lower_below b h)
    go (no h) (yes k) = ap lower (lower_above b k)
    go (no h) (no k) =
        let e = lower_capital b (omega arith) (omega arith) in
        ap lower e ∙ lower_above (b + 0x20) (omega arith) ∙ sym e

-- ---- labels

pub lowered_once : (l : List ℕ) → lowered (lowered l) ≡ lowered l
lowered_once [] = refl
lowered_once (b ∷ l) = ap₂ (λ (c : ℕ) (m : List ℕ). c ∷ m) (lower_once b) (lowered_once l)

pub alike_agree : (l r : List ℕ) → alike l r ≡ true → lowered l ≡ lowered r
alike_agree l r e = same_list_of (lowered l) (lowered r) (true_T _ e)

pub agree_alike : (l r : List ℕ) → lowered l ≡ lowered r → alike l r ≡ true
agree_alike l r e = subst (λ (m : List ℕ). same_list (lowered l) m ≡ true) e (T_true _ (same_list_refl (lowered l)))

pub alike_long : (l r : List ℕ) → alike l r ≡ true → length l ≡ length r
alike_long l r e = sym (length-map l lower) ∙ ap length (alike_agree l r e) ∙ length-map r lower

-- a front, and what comes after it
pub front_of_law : (r l : List ℕ) → front r l ≡ true → (m : List ℕ) × (l ≡ r ++ m)
front_of_law [] l e = (l, refl)
front_of_law (x ∷ r) [] e = absurd (false≢true e)
front_of_law (x ∷ r) (y ∷ l) e =
    let k = and_true (eqb x y) (front r l) e in
    let m = front_of_law r l k.1 in
    (m.0, ap₂ (λ (z : ℕ) (t : List ℕ). z ∷ t) (sym (eqb-true x y k.0)) m.1)

pub front_in_law : (r m : List ℕ) → front r (r ++ m) ≡ true
front_in_law [] m = refl
front_in_law (x ∷ r) m = ap₂ (λ (a b : Bool). a && b) (same x) (front_in_law r m)
  where
    same : (x : ℕ) → eqb x x ≡ true
    same x = (and_true (eqb x x) true (T_true _ (same_list_refl (x ∷ [])))).0

-- ---- items of which each is new: the test of one with each earlier one is false

module _ {A : Type 0} (d : A) where
  get_d_front : (l : List A) (x : A) (i : ℕ) → i < length l → get_or (l ++ x ∷ []) i d ≡ get_or l i d
  get_d_front [] x i h = absurd (omega arith)
  get_d_front (y ∷ l) x zero h = refl
  get_d_front (y ∷ l) x (suc i) h = get_d_front l x i (omega arith)

  get_d_last : (l : List A) (x : A) (i : ℕ) → i ≡ length l → get_or (l ++ x ∷ []) i d ≡ x
  get_d_last [] x zero h = refl
  get_d_last [] x (suc i) h = absurd (omega arith)
  get_d_last (y ∷ l) x zero h = absurd (omega arith)
  get_d_last (y ∷ l) x (suc i) h = get_d_last l x i (omega arith)

  pub mem_at : (l : List A) (i : ℕ) → i < length l → Memᴰ (get_or l i d) l
  mem_at [] i h = absurd (omega arith)
  mem_at (y ∷ l) zero h = Memᴰ.head refl
  mem_at (y ∷ l) (suc i) h = Memᴰ.tail (mem_at l i (omega arith))

  module _ (R : A → A → Bool) where
    -- no item passes the test with one before it
    abbrev pub Apart : List A → Type 0
    Apart l = (i j : ℕ) → i < j → j < length l → T (R (get_or l j d) (get_or l i d)) → ⊥

    apart_snoc : (l : List A) (x : A) → Apart l → (T (any (R x) l) → ⊥) → Apart (l ++ x ∷ [])
    apart_snoc l x h n i j k m t = go (dec_lt j (length l))
      where
        go : Dec (j < length l) → ⊥
        go (yes q) = h i j k q (subst T (ap₂ (λ (a b : A). R a b) (get_d_front l x j q) (get_d_front l x i (omega arith))) t)
        go (no q) =
            let e : j ≡ length l = omega (arith, length-append l (x ∷ [])) in
            let p : i < length l = omega arith in
            n (any_in (R x) (mem_at l i p) (subst T (ap₂ (λ (a b : A). R a b) (get_d_last l x j e) (get_d_front l x i p)) t))

    module _ (f : List A → ℕ → Reading A) (new : (earlier : List A) (p : ℕ) (x : A) (e : ℕ) → f earlier p ≡ got x e → T (any (R x) earlier) → ⊥) where
      items_apart : (n : ℕ) (is : List (Item A)) (p : ℕ) (js : List (Item A)) (e : ℕ) → Apart (contents is) → items_from f n is p ≡ got js e
          → Apart (contents js)
      unfolding items_from
      items_apart zero is p js e h r = subst (λ (l : List (Item A)). Apart (contents l)) (let q : is ≡ js = cc in q) h
      items_apart (suc n) is p js e h r =
          let g = and_then_got (f (contents is) p) (λ x e. items_from f n (is ++ record { at = p; of = x } ∷ []) e) js e r in
          let i : Item A = record { at = p; of = g.0 } in
          let more = apart_snoc (contents is) g.0 h (new (contents is) p g.0 g.1 g.2) in
          items_apart n (is ++ i ∷ []) g.1 js e (subst Apart (sym (map-append (λ (i : Item A). i.of) is (i ∷ []))) more) g.3

      pub list_apart : (s : List ℕ) (lowest highest p : ℕ) (js : List (Item A)) (e : ℕ) → list_at s lowest highest f p ≡ got js e → Apart (contents js)
      unfolding list_at
      list_apart s lowest highest p js e r =
          let a = choose_no _ _ 3 p js e r in
          let b = choose_no _ _ 3 p js e a.1 in
          let c = choose_no _ _ 3 p js e b.1 in
          items_apart _ [] _ js e (λ i j h k t. absurd (omega arith)) c.1

    -- so, where the test does not look at which comes first, two that pass it are one
    pub apart_one : ((x y : A) → T (R x y) → T (R y x)) → (l : List A) → Apart l → (i j : ℕ) → i < length l → j < length l
        → T (R (get_or l i d) (get_or l j d)) → i ≡ j
    apart_one turn l h i j m k t = go (dec_lt i j) (dec_lt j i)
      where
        go : Dec (i < j) → Dec (j < i) → i ≡ j
        go (yes q) e = absurd (h i j q k (turn _ _ t))
        go (no q) (yes e) = absurd (h j i e m t)
        go (no q) (no e) = omega arith
