-- Lists, and tests that compute.
use Rattle.std.specs.Prelude.{List, [], ◌∷◌, ◌++◌, map, Bool, true, false, cond, ◌&&◌, ◌||◌, not, ℕ, zero, suc, eqb, ltb}

module _ {A : Type 0} where
  -- `x` where the test passes
  abbrev pub only : Bool → A → List A
  only true x = x ∷ []
  only false x = []

  abbrev pub keep : (A → Bool) → List A → List A
  keep p [] = []
  keep p (x ∷ xs) = only (p x) x ++ keep p xs

  abbrev pub any : (A → Bool) → List A → Bool
  any p [] = false
  any p (x ∷ xs) = p x || any p xs

  abbrev pub all : (A → Bool) → List A → Bool
  all p [] = true
  all p (x ∷ xs) = p x && all p xs

module _ {A B : Type 0} where
  -- the lists that `f` gives for the elements, one after another
  abbrev pub each : List A → (A → List B) → List B
  each [] f = []
  each (x ∷ xs) f = f x ++ each xs f

-- ---- numbers

abbrev pub member : ℕ → List ℕ → Bool
member n l = any (eqb n) l

-- each of the first is among the second
abbrev pub among : List ℕ → List ℕ → Bool
among vs ws = all (λ v. member v ws) vs

abbrev pub without : ℕ → List ℕ → List ℕ
without v ws = keep (λ w. not (eqb v w)) ws

-- none stands twice
abbrev pub apart : List ℕ → Bool
apart [] = true
apart (v ∷ vs) = not (member v vs) && apart vs

abbrev pub same_list : List ℕ → List ℕ → Bool
same_list [] [] = true
same_list [] (y ∷ ys) = false
same_list (x ∷ xs) [] = false
same_list (x ∷ xs) (y ∷ ys) = eqb x y && same_list xs ys

-- the first list is the front of the second
abbrev pub front : List ℕ → List ℕ → Bool
front [] ys = true
front (x ∷ xs) [] = false
front (x ∷ xs) (y ∷ ys) = eqb x y && front xs ys

-- the first list comes first in the order of the dictionary
abbrev pub before : List ℕ → List ℕ → Bool
before [] [] = false
before [] (y ∷ ys) = true
before (x ∷ xs) [] = false
before (x ∷ xs) (y ∷ ys) = ltb x y || (eqb x y && before xs ys)

-- at least `n` long, with 0 at the end
abbrev pub pad : ℕ → List ℕ → List ℕ
pad zero l = l
pad (suc n) [] = 0 ∷ pad n []
pad (suc n) (x ∷ l) = x ∷ pad n l

-- ==== Computed from here on: the theorems say what comes of them.

-- all lists with one element from each, in the order of the dictionary where each list ascends
abbrev pub product : List (List ℕ) → List (List ℕ)
product [] = [] ∷ []
product (xs ∷ xss) = let rest = product xss in each xs (λ (x : ℕ). map (λ (l : List ℕ). x ∷ l) rest)

module _ {E : Type 0} (key : E → List ℕ) where
  abbrev pub insert : E → List E → List E
  insert x [] = x ∷ []
  insert x (y ∷ ys) = cond (before (key x) (key y)) (x ∷ y ∷ ys) (y ∷ insert x ys)

  -- in ascending order of the keys
  abbrev pub sorted : List E → List E
  sorted [] = []
  sorted (x ∷ xs) = insert x (sorted xs)
