-- What is in a computed list, and what a computed test says.
use mathlib.Core.Path.{◌≡◌, refl, sym, ap, ap₂, subst, ◌∙◌}
use mathlib.Core.Logic.{◌⊎◌, inl, inr, ⊎_elim}
use mathlib.Core.List.{List, [], ◌∷◌, ◌++◌, append_assoc, map, Memᴰ}
use mathlib.Core.Bool.{Bool, true, false, cond, ◌&&◌, ◌||◌, or_assoc}
use Prim.Native.Nat.{ℕ, suc, ◌≤◌, zero-le, suc-le-suc}
use lib.ListN.{length}
use lib.Dec.{T, eqb, eqb→eq, eqb_refl}
use Rattle.model.specs.Lists.{only, keep, any, all, each, member, same_list}
use Rattle.model.specs.Meant.{Distinct}

pub and_of : (a b : Bool) → T (a && b) → T a × T b
and_of true b t = (tt, t)
and_of false b t = absurd t

pub and_in : (a b : Bool) → T a → T b → T (a && b)
and_in true b s t = t
and_in false b s t = absurd s

pub or_of : (a b : Bool) → T (a || b) → T a ⊎ T b
or_of true b t = inl tt
or_of false b t = inr t

pub or_left : (a b : Bool) → T a → T (a || b)
or_left true b t = tt
or_left false b t = absurd t

pub or_right : (a b : Bool) → T b → T (a || b)
or_right true b t = tt
or_right false b t = t

pub eqb_in : {m n : ℕ} → m ≡ n → T (eqb m n)
eqb_in {m} e = subst (λ n. T (eqb m n)) e (eqb_refl m)

module _ {A : Type 0} where
  pub any_of_law : (p : A → Bool) (xs : List A) → T (any p xs) → (x : A) × Memᴰ x xs × T (p x)
  any_of_law p [] t = absurd t
  any_of_law p (x ∷ xs) t =
      ⊎_elim
      (λ h. (x, mathlib.Core.List.Memᴰ.head refl, h))
      (λ h. let r = any_of_law p xs h in (r.0, mathlib.Core.List.Memᴰ.tail r.1, r.2))
      (or_of (p x) _ t)

  pub any_in : (p : A → Bool) {x : A} {xs : List A} → Memᴰ x xs → T (p x) → T (any p xs)
  any_in p (mathlib.Core.List.Memᴰ.head {x = y} e) t = or_left (p y) _ (subst (λ z. T (p z)) e t)
  any_in p (mathlib.Core.List.Memᴰ.tail {x = y} m) t = or_right (p y) _ (any_in p m t)

  pub all_of_law : (p : A → Bool) {x : A} {xs : List A} → T (all p xs) → Memᴰ x xs → T (p x)
  all_of_law p t (mathlib.Core.List.Memᴰ.head {x = y} e) = subst (λ z. T (p z)) (sym e) (and_of (p y) _ t).0
  all_of_law p t (mathlib.Core.List.Memᴰ.tail {x = y} m) = all_of_law p (and_of (p y) _ t).1 m

  pub all_in : (p : A → Bool) (xs : List A) → ((x : A) → Memᴰ x xs → T (p x)) → T (all p xs)
  all_in p [] h = tt
  all_in p (x ∷ xs) h = and_in (p x) _ (h x (mathlib.Core.List.Memᴰ.head refl)) (all_in p xs (λ y m. h y (mathlib.Core.List.Memᴰ.tail m)))

  pub if_of : (b : Bool) {x : A} {xs : List A} → Memᴰ x (cond b xs []) → T b × Memᴰ x xs
  if_of true m = (tt, m)
  if_of false m = absurd (mathlib.Core.List.Memᴰ.not-nil m)

  pub if_in : (b : Bool) {x : A} {xs : List A} → T b → Memᴰ x xs → Memᴰ x (cond b xs [])
  if_in true t m = m
  if_in false t m = absurd t

  pub only_of : (b : Bool) {x y : A} → Memᴰ y (only b x) → T b × (y ≡ x)
  only_of true m = (tt, mathlib.Core.List.Memᴰ.eq_of_singleton m)
  only_of false m = absurd (mathlib.Core.List.Memᴰ.not-nil m)

  pub only_in : (b : Bool) {x y : A} → T b → y ≡ x → Memᴰ y (only b x)
  only_in true t e = mathlib.Core.List.Memᴰ.head e
  only_in false t e = absurd t

  pub keep_of : (p : A → Bool) {y : A} (xs : List A) → Memᴰ y (keep p xs) → Memᴰ y xs × T (p y)
  keep_of p [] m = absurd (mathlib.Core.List.Memᴰ.not-nil m)
  keep_of p {y} (x ∷ xs) m =
      ⊎_elim
      (λ h. let r = only_of (p x) h in (mathlib.Core.List.Memᴰ.head r.1, subst (λ z. T (p z)) (sym r.1) r.0))
      (λ h. let r = keep_of p xs h in (mathlib.Core.List.Memᴰ.tail r.0, r.1))
      (mathlib.Core.List.Memᴰ.append_cases (only (p x) x) m)

  pub keep_in : (p : A → Bool) {y : A} {xs : List A} → Memᴰ y xs → T (p y) → Memᴰ y (keep p xs)
  keep_in p {xs = xs} (mathlib.Core.List.Memᴰ.head {x = x} e) t = mathlib.Core.List.Memᴰ.append_left _ (only_in (p x) (subst (λ z. T (p z)) e t) e)
  keep_in p (mathlib.Core.List.Memᴰ.tail {x = x} m) t = mathlib.Core.List.Memᴰ.append_right (only (p x) x) (keep_in p m t)

module _ {A B : Type 0} where
  pub each_of : (f : A → List B) {y : B} (xs : List A) → Memᴰ y (each xs f) → (x : A) × Memᴰ x xs × Memᴰ y (f x)
  each_of f [] m = absurd (mathlib.Core.List.Memᴰ.not-nil m)
  each_of f (x ∷ xs) m =
      ⊎_elim
      (λ h. (x, mathlib.Core.List.Memᴰ.head refl, h))
      (λ h. let r = each_of f xs h in (r.0, mathlib.Core.List.Memᴰ.tail r.1, r.2))
      (mathlib.Core.List.Memᴰ.append_cases (f x) m)

  pub each_in : (f : A → List B) {x : A} {y : B} {xs : List A} → Memᴰ x xs → Memᴰ y (f x) → Memᴰ y (each xs f)
  each_in f {y = y} (mathlib.Core.List.Memᴰ.head e) m = mathlib.Core.List.Memᴰ.append_left _ (subst (λ z. Memᴰ y (f z)) e m)
  each_in f (mathlib.Core.List.Memᴰ.tail {x = x} n) m = mathlib.Core.List.Memᴰ.append_right (f x) (each_in f n m)

pub each_append : {A B : Type 0} (f : A → List B) (xs ys : List A) → each (xs ++ ys) f ≡ each xs f ++ each ys f
each_append f [] ys = refl
each_append {B = B} f (x ∷ xs) ys = ap (λ (l : List B). f x ++ l) (each_append f xs ys) ∙ sym (append_assoc (f x) (each xs f) (each ys f))

-- tests that agree keep the same
pub keep_same : {A : Type 0} (p q : A → Bool) (xs : List A) → ((x : A) → p x ≡ q x) → keep p xs ≡ keep q xs
keep_same p q [] h = refl
keep_same p q (x ∷ xs) h = ap₂ (λ b l. only b x ++ l) (h x) (keep_same p q xs h)

pub same_list_of : (xs ys : List ℕ) → T (same_list xs ys) → xs ≡ ys
same_list_of [] [] t = refl
same_list_of [] (y ∷ ys) t = absurd t
same_list_of (x ∷ xs) [] t = absurd t
same_list_of (x ∷ xs) (y ∷ ys) t = ap₂ ◌∷◌ (eqb→eq x y (and_of (eqb x y) _ t).0) (same_list_of xs ys (and_of (eqb x y) _ t).1)

pub same_list_refl : (xs : List ℕ) → T (same_list xs xs)
same_list_refl [] = tt
same_list_refl (x ∷ xs) = and_in (eqb x x) _ (eqb_refl x) (same_list_refl xs)

pub member_of : (n : ℕ) (l : List ℕ) → T (member n l) → Memᴰ n l
member_of n l t = let r = any_of_law (eqb n) l t in mathlib.Core.List.Memᴰ.cast (eqb→eq n r.0 r.2) r.1

pub member_in : {n : ℕ} {l : List ℕ} → Memᴰ n l → T (member n l)
member_in {n} m = any_in (eqb n) m (eqb_refl n)

pub member_append : (n : ℕ) (l m : List ℕ) → member n (l ++ m) ≡ (member n l || member n m)
member_append n [] m = refl
member_append n (x ∷ l) m = ap (λ (b : Bool). eqb n x || b) (member_append n l m) ∙ sym (or_assoc (eqb n x) (member n l) (member n m))

-- ---- counting

module _ {A : Type 0} where
  pub distinct_append : (xs ys : List A) → Distinct xs → Distinct ys → ((x : A) → Memᴰ x xs → ¬ Memᴰ x ys) → Distinct (xs ++ ys)
  distinct_append [] ys d e h = e
  distinct_append (x ∷ xs) ys d e h = (
    λ m. ⊎_elim d.0 (h x (mathlib.Core.List.Memᴰ.head refl)) (mathlib.Core.List.Memᴰ.append_cases xs m),
    distinct_append xs ys d.1 e
        (λ y m. h y (mathlib.Core.List.Memᴰ.tail m)),
  )

  without : {x : A} {ys : List A} → Memᴰ x ys → List A
  without (mathlib.Core.List.Memᴰ.head {xs = l} e) = l
  without (mathlib.Core.List.Memᴰ.tail {x = y} m) = y ∷ without m

  length_without : {x : A} {ys : List A} (m : Memᴰ x ys) → length ys ≡ suc (length (without m))
  unfolding without
  length_without (mathlib.Core.List.Memᴰ.head e) = refl
  length_without (mathlib.Core.List.Memᴰ.tail m) = ap suc (length_without m)

  in_without : {x z : A} {ys : List A} (m : Memᴰ x ys) → Memᴰ z ys → (z ≡ x → ⊥) → Memᴰ z (without m)
  unfolding without
  in_without (mathlib.Core.List.Memᴰ.head e) n h = ⊎_elim (λ q. absurd (h (q ∙ sym e))) (λ r. r) (mathlib.Core.List.Memᴰ.cases_cons n)
  in_without (mathlib.Core.List.Memᴰ.tail m) n h = ⊎_elim mathlib.Core.List.Memᴰ.head (λ r. mathlib.Core.List.Memᴰ.tail (in_without m r h))
      (mathlib.Core.List.Memᴰ.cases_cons n)

  -- a list without repetitions is no longer than one that has all of its elements
  pub pigeons : (xs ys : List A) → Distinct xs → ((x : A) → Memᴰ x xs → Memᴰ x ys) → length xs ≤ length ys
  pigeons [] ys d h = zero-le
  pigeons (x ∷ xs) ys d h =
      let m : Memᴰ x ys = h x (mathlib.Core.List.Memᴰ.head refl) in
      rw (length_without m) (suc-le-suc (pigeons xs (without m) d.1
      (λ z n. in_without m (h z (mathlib.Core.List.Memᴰ.tail n)) (λ e. d.0 (mathlib.Core.List.Memᴰ.cast (sym e) n)))))

pub distinct_map : {A B : Type 0} (f : A → B) (l : List A) → Distinct (map f l) → Distinct l
distinct_map f [] d = tt
distinct_map f (x ∷ l) d = ((λ m. d.0 (mathlib.Core.List.Memᴰ.map f m)), distinct_map f l d.1)
