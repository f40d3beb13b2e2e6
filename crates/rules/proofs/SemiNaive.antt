-- A use of a rule with no premise of the last round gives nothing new.
use mathlib.Core.Path.{◌≡◌, refl, sym, subst}
use mathlib.Core.Logic.{◌⊎◌, inl, inr, ⊎_elim}
use mathlib.Core.List.Memᴰ
use mathlib.Core.List.{List, [], ◌∷◌, map, Memᴰ}
use Prim.Native.Nat.{ℕ, zero, suc, ◌<◌}
use native.Mathlib.Nat.{not-suc-le-zero}
use native.Mathlib.Omega.{arith}
use lib.ListN.{length, get_or}
use Rattle.model.specs.Closure.{Use, Within, First}

module _ {X : Type 0} (Rule : List X → X → Type 0) where
  -- what each premise is: of an earlier round, or of the last
  abbrev Sorts : ℕ → Type 0
  Sorts n = (y : X) → Within Rule (suc n) y → Within Rule n y ⊎ First Rule (suc n) y

  -- one of these premises is of round n + 1, and those before it are of earlier rounds
  abbrev pub Fresh : ℕ → List X → Type 0
  Fresh n [] = ⊥
  Fresh n (p ∷ ps) = First Rule (suc n) p ⊎ (Within Rule n p × Fresh n ps)

  sort : (n : ℕ) → Sorts n → (ps : List X) → ((y : X) → Memᴰ y ps → Within Rule (suc n) y) → ((y : X) → Memᴰ y ps → Within Rule n y) ⊎ Fresh n ps
  sort n s [] h = inl (λ y m. absurd (Memᴰ.not-nil m))
  sort n s (p ∷ ps) h = go (s p (h p (Memᴰ.head refl))) (sort n s ps (λ y m. h y (Memᴰ.tail m)))
    where
      go : Within Rule n p ⊎ First Rule (suc n) p → ((y : X) → Memᴰ y ps → Within Rule n y) ⊎ Fresh n ps
          → ((y : X) → Memᴰ y (p ∷ ps) → Within Rule n y) ⊎ Fresh n (p ∷ ps)
      go (inr f) r = inr (inl f)
      go (inl w) (inr r) = inr (inr (w, r))
      go (inl w) (inl r) = inl (λ y m. ⊎_elim (λ (e : y ≡ p). subst (Within Rule n) (sym e) w) (r y) (Memᴰ.cases_cons m))

  -- one use of a rule that has a premise of round n + 1
  abbrev pub FreshUse : ℕ → X → Type 0
  FreshUse n x = (ps : List X) × Rule ps x × ((y : X) → Memᴰ y ps → Within Rule (suc n) y) × Fresh n ps

  pub semi_naive : (n : ℕ) → Sorts n → (x : X) → Use Rule (Within Rule (suc n)) x → Within Rule (suc n) x ⊎ FreshUse n x
  semi_naive n s x (ps, r, h) = ⊎_elim (λ old. inl (inr (ps, r, old))) (λ new. inr (ps, r, h, new)) (sort n s ps h)

  -- by the premises' numbers
  pub fresh_at : {A : Type 0} (f : A → X) (d : A) (n : ℕ) (l : List A) → Fresh n (map f l)
      → (j : ℕ) × (j < length l) × First Rule (suc n) (f (get_or l j d)) × ((i : ℕ) → i < j → Within Rule n (f (get_or l i d)))
  fresh_at f d n [] r = absurd r
  fresh_at f d n (x ∷ l) (inl h) = (0, omega arith, h, λ i k. absurd (not-suc-le-zero k))
  fresh_at f d n (x ∷ l) (inr (w, r)) = let s = fresh_at f d n l r in let h : s.0 < length l = s.1 in (suc s.0, omega arith, s.2, before s.0 s.3)
    where
      before : (j : ℕ) → ((i : ℕ) → i < j → Within Rule n (f (get_or l i d))) → (i : ℕ) → i < suc j → Within Rule n (f (get_or (x ∷ l) i d))
      before j h zero k = w
      before j h (suc i) k = h i (omega arith)
