-- The order of the dictionary, and ascending lists: two with the same elements are the same list.
use mathlib.Core.Path.{◌≡◌, refl, sym, ap₂, subst, ◌∙◌}
use mathlib.Core.Logic.{◌⊎◌, inl, inr, ⊎_elim}
use mathlib.Core.List.Memᴰ
use mathlib.Core.List.{List, [], ◌∷◌, Memᴰ}
use mathlib.Core.Bool.{Bool, true, false, cond, ◌&&◌, not}
use Prim.Native.Nat.{ℕ, ◌<◌}
use native.Mathlib.Omega.{arith}
use lib.Dec.{T, eqb, eqb→eq, ltb, ltb→lt, lt→ltb, nltb→le}
use Rattle.model.specs.Lists.{before, insert, sorted}
use Rattle.model.specs.Meant.{Distinct, Ascends}
use Rattle.model.proofs.ListFacts.{and_of, and_in, or_of, or_left, or_right, eqb_in}
use Rattle.model.proofs.Tests.{dec_t}

-- what the test says
pub before_cons : (x y : ℕ) (xs ys : List ℕ) → T (before (x ∷ xs) (y ∷ ys)) → (x < y) ⊎ ((x ≡ y) × T (before xs ys))
before_cons x y xs ys t =
    ⊎_elim
    (λ h. inl (ltb→lt x y h))
    (λ h. let r = and_of (eqb x y) (before xs ys) h in inr (eqb→eq x y r.0, r.1))
    (or_of (ltb x y) (eqb x y && before xs ys) t)

pub before_lt : (x y : ℕ) (xs ys : List ℕ) → x < y → T (before (x ∷ xs) (y ∷ ys))
before_lt x y xs ys h = or_left (ltb x y) _ (lt→ltb x y h)

pub before_eq : (x y : ℕ) (xs ys : List ℕ) → x ≡ y → T (before xs ys) → T (before (x ∷ xs) (y ∷ ys))
before_eq x y xs ys e t = or_right (ltb x y) _ (and_in (eqb x y) _ (eqb_in e) t)

pub before_irrefl : (xs : List ℕ) → T (before xs xs) → ⊥
before_irrefl [] t = t
before_irrefl (x ∷ xs) t = ⊎_elim (λ h. absurd (omega arith)) (λ h. before_irrefl xs h.1) (before_cons x x xs xs t)

pub before_trans : (xs ys zs : List ℕ) → T (before xs ys) → T (before ys zs) → T (before xs zs)
before_trans [] [] zs s t = absurd s
before_trans [] (y ∷ ys) [] s t = absurd t
before_trans [] (y ∷ ys) (z ∷ zs) s t = tt
before_trans (x ∷ xs) [] zs s t = absurd s
before_trans (x ∷ xs) (y ∷ ys) [] s t = absurd t
before_trans (x ∷ xs) (y ∷ ys) (z ∷ zs) s t =
    ⊎_elim
    (λ (h : x < y). ⊎_elim
    (λ (k : y < z). before_lt x z xs zs (omega arith))
    (λ (k : (y ≡ z) × T (before ys zs)). before_lt x z xs zs (let e : y ≡ z = k.0 in omega arith))
    (before_cons y z ys zs t))
    (λ (h : (x ≡ y) × T (before xs ys)). ⊎_elim
    (λ (k : y < z). before_lt x z xs zs (let e : x ≡ y = h.0 in omega arith))
    (λ (k : (y ≡ z) × T (before ys zs)). before_eq x z xs zs (h.0 ∙ k.0) (before_trans xs ys zs h.1 k.1))
    (before_cons y z ys zs t))
    (before_cons x y xs ys s)

-- one comes first, or they are the same
pub compared : (xs ys : List ℕ) → T (before xs ys) ⊎ (T (before ys xs) ⊎ (xs ≡ ys))
compared [] [] = inr (inr refl)
compared [] (y ∷ ys) = inl tt
compared (x ∷ xs) [] = inr (inl tt)
compared (x ∷ xs) (y ∷ ys) = go (dec_t (ltb x y)) (dec_t (ltb y x)) (compared xs ys)
  where
    go : T (ltb x y) ⊎ T (not (ltb x y)) → T (ltb y x) ⊎ T (not (ltb y x)) → T (before xs ys) ⊎ (T (before ys xs) ⊎ (xs ≡ ys))
        → T (before (x ∷ xs) (y ∷ ys)) ⊎ (T (before (y ∷ ys) (x ∷ xs)) ⊎ (x ∷ xs ≡ y ∷ ys))
    go (inl h) k r = inl (before_lt x y xs ys (ltb→lt x y h))
    go (inr h) (inl k) r = inr (inl (before_lt y x ys xs (ltb→lt y x k)))
    go (inr h) (inr k) r =
        let a = nltb→le x y h in
        let b = nltb→le y x k in
        let e : x ≡ y = omega arith in
        ⊎_elim (λ t. inl (before_eq x y xs ys e t)) (λ s. ⊎_elim (λ t. inr (inl (before_eq y x ys xs (sym e) t))) (λ q. inr (inr (ap₂ ◌∷◌ e q))) s) r

module _ {E : Type 0} (key : E → List ℕ) where
  heads : (x y : E) (l m : List E) → Ascends key (x ∷ l) → Ascends key (y ∷ m) → Memᴰ x (y ∷ m) → Memᴰ y (x ∷ l) → x ≡ y
  heads x y l m a b p q =
      ⊎_elim (λ e. e)
      (λ h. ⊎_elim sym (λ k. absurd (before_irrefl (key x) (before_trans (key x) (key y) (key x) (a.0 y k) (b.0 x h)))) (Memᴰ.cases_cons q))
      (Memᴰ.cases_cons p)

  tails : (x y z : E) (l m : List E) → x ≡ y → Ascends key (x ∷ l) → Memᴰ z l → Memᴰ z (y ∷ m) → Memᴰ z m
  tails x y z l m e a h p =
      ⊎_elim (λ q. absurd (before_irrefl (key z) (subst (λ (w : E). T (before (key w) (key z))) (e ∙ sym q) (a.0 z h)))) (λ k. k) (Memᴰ.cases_cons p)

  pub ascends_unique : (l m : List E) → Ascends key l → Ascends key m → ((z : E) → Memᴰ z l → Memᴰ z m)
      → ((z : E) → Memᴰ z m → Memᴰ z l) → l ≡ m
  ascends_unique [] [] a b f g = refl
  ascends_unique [] (y ∷ m) a b f g = absurd (Memᴰ.not-nil (g y (Memᴰ.head refl)))
  ascends_unique (x ∷ l) [] a b f g = absurd (Memᴰ.not-nil (f x (Memᴰ.head refl)))
  ascends_unique (x ∷ l) (y ∷ m) a b f g =
      let e = heads x y l m a b (f x (Memᴰ.head refl)) (g y (Memᴰ.head refl)) in
      ap₂ ◌∷◌ e (ascends_unique l m a.1 b.1
      (λ z h. tails x y z l m e a h (f z (Memᴰ.tail h)))
      (λ z h. tails y x z m l (sym e) b h (g z (Memᴰ.tail h))))

  -- ---- sorting keeps what is there

  cond_of : {x : E} (b : Bool) (l m : List E) → Memᴰ x (cond b l m) → Memᴰ x l ⊎ Memᴰ x m
  cond_of true l m h = inl h
  cond_of false l m h = inr h

  cond_in : {x : E} (b : Bool) {l m : List E} → Memᴰ x l → Memᴰ x m → Memᴰ x (cond b l m)
  cond_in true h k = h
  cond_in false h k = k

  insert_of : (x z : E) (ys : List E) → Memᴰ z (insert key x ys) → (z ≡ x) ⊎ Memᴰ z ys
  insert_of x z [] m = Memᴰ.cases_cons m
  insert_of x z (y ∷ ys) m =
      ⊎_elim
      Memᴰ.cases_cons
      (λ h. ⊎_elim (λ e. inr (Memᴰ.head e)) (λ k. ⊎_elim inl (λ i. inr (Memᴰ.tail i)) (insert_of x z ys k)) (Memᴰ.cases_cons h))
      (cond_of (before (key x) (key y)) (x ∷ y ∷ ys) (y ∷ insert key x ys) m)

  insert_here : (x : E) (ys : List E) → Memᴰ x (insert key x ys)
  insert_here x [] = Memᴰ.head refl
  insert_here x (y ∷ ys) = cond_in (before (key x) (key y)) (Memᴰ.head refl) (Memᴰ.tail (insert_here x ys))

  insert_in : (x z : E) (ys : List E) → Memᴰ z ys → Memᴰ z (insert key x ys)
  insert_in x z [] m = absurd (Memᴰ.not-nil m)
  insert_in x z (y ∷ ys) m =
      cond_in (before (key x) (key y)) (Memᴰ.tail m) (⊎_elim Memᴰ.head (λ k. Memᴰ.tail (insert_in x z ys k)) (Memᴰ.cases_cons m))

  pub sorted_of : (z : E) (l : List E) → Memᴰ z (sorted key l) → Memᴰ z l
  sorted_of z [] m = m
  sorted_of z (x ∷ l) m = ⊎_elim Memᴰ.head (λ h. Memᴰ.tail (sorted_of z l h)) (insert_of x z (sorted key l) m)

  pub sorted_in : (z : E) (l : List E) → Memᴰ z l → Memᴰ z (sorted key l)
  sorted_in z [] m = m
  sorted_in z (x ∷ l) m =
      ⊎_elim (λ e. Memᴰ.cast e (insert_here x (sorted key l))) (λ h. insert_in x z (sorted key l) (sorted_in z l h)) (Memᴰ.cases_cons m)

  -- ---- and puts it in order

  insert_ascends : (x : E) (l : List E) → ((y : E) → Memᴰ y l → key x ≡ key y → ⊥) → Ascends key l → Ascends key (insert key x l)
  insert_ascends x [] h a = ((λ y m. absurd (Memᴰ.not-nil m)), tt)
  insert_ascends x (y ∷ l) h a = go (before (key x) (key y)) refl (insert_ascends x l (λ z m. h z (Memᴰ.tail m)) a.1)
    where
      go : (b : Bool) → before (key x) (key y) ≡ b → Ascends key (insert key x l) → Ascends key (cond b (x ∷ y ∷ l) (y ∷ insert key x l))
      go true e r =
          let t : T (before (key x) (key y)) = subst T (sym e) tt in (
            (λ z m. ⊎_elim
                (λ q. subst (λ (w : E). T (before (key x) (key w))) (sym q) t)
                (λ k. before_trans (key x) (key y) (key z) t (a.0 z k))
                (Memᴰ.cases_cons m)),
            a,
          )
      go false e r =
          let t : T (before (key y) (key x)) =
          ⊎_elim (λ s. absurd (subst T e s)) (λ s. ⊎_elim (λ u. u) (λ q. absurd (h y (Memᴰ.head refl) q)) s) (compared (key x) (key y)) in
          ((λ z m. ⊎_elim (λ q. subst (λ (w : E). T (before (key y) (key w))) (sym q) t) (a.0 z) (insert_of x z l m)), r)

  pub sorted_ascends : (l : List E) → Distinct l → ((x y : E) → Memᴰ x l → Memᴰ y l → key x ≡ key y → x ≡ y) → Ascends key (sorted key l)
  sorted_ascends [] d i = tt
  sorted_ascends (x ∷ l) d i =
      insert_ascends x (sorted key l)
      (λ y m e. d.0 (Memᴰ.cast (i x y (Memᴰ.head refl) (Memᴰ.tail (sorted_of y l m)) e) (sorted_of y l m)))
      (sorted_ascends l d.1 (λ y z m n e. i y z (Memᴰ.tail m) (Memᴰ.tail n) e))

  pub ascends_distinct : (l : List E) → Ascends key l → Distinct l
  ascends_distinct [] a = tt
  ascends_distinct (x ∷ l) a = ((λ m. before_irrefl (key x) (a.0 x m)), ascends_distinct l a.1)
