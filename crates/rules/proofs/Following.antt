-- What a step of each mode goes on with: every mode goes on from bindings that are carried on, and from one where there is any.
use mathlib.Core.Path.{sym, ◌≡◌, refl, ap, subst, ◌∙◌}
use mathlib.Core.Logic.{◌⊎◌, inl, inr}
use mathlib.Core.Bool.{cond}
use mathlib.Core.Option.{Option, none, some}
use mathlib.Core.List.Memᴰ
use mathlib.Core.List.{List, [], ◌∷◌, ◌++◌}
use Prim.Native.Nat.{ℕ}
use Rattle.model.specs.Lists.{each}
use Rattle.rules.specs.Matching.{follow, first_only, or_next, first_of}
use Rattle.rules.specs.Plan.{Mode, finds}
use Rattle.rules.proofs.ExtendFacts.{L, In}

-- ---- what a match goes on with

pub follow_of : (o : Option (List ℕ)) (go : List ℕ → L) (r : List ℕ) → In r (follow o go) → (τ : List ℕ) × (o ≡ some τ) × In r (go τ)
follow_of none go r m = absurd (Memᴰ.not-nil m)
follow_of (some τ) go r m = (τ, refl, m)

pub follow_in : (o : Option (List ℕ)) (go : List ℕ → L) (r τ : List ℕ) → o ≡ some τ → In r (go τ) → In r (follow o go)
follow_in o go r τ e m = rw e m

-- ---- the first binding

pub only_in : (τs : L) {τ : List ℕ} → In τ τs → (σ : List ℕ) × In σ τs × ((go : List ℕ → L) → first_only go τs ≡ go σ)
only_in [] m = absurd (Memᴰ.not-nil m)
only_in (σ ∷ τs) m = (σ, Memᴰ.head refl, λ go. refl)

-- ---- the first that gives something

module _ (f : List ℕ → L) where
  pub first_that : (l : L) {r : List ℕ} → In r (first_of f l)
      → (before after : L) × (y : List ℕ) × (before ++ y ∷ after ≡ l) × (each before f ≡ []) × In r (f y)
  first_that [] m = absurd (Memᴰ.not-nil m)
  first_that (x ∷ l) {r} m = go (f x) refl m (first_that l)
    where
      go : (k : L) → f x ≡ k → In r (or_next k (first_of f l))
          → (In r (first_of f l) → (before after : L) × (y : List ℕ) × (before ++ y ∷ after ≡ l) × (each before f ≡ []) × In r (f y))
          → (before after : L) × (y : List ℕ) × (before ++ y ∷ after ≡ x ∷ l) × (each before f ≡ []) × In r (f y)
      go [] q m ih = let s = ih m in (x ∷ s.0, s.1, s.2, ap (◌∷◌ x) s.3, ap (λ (k : L). k ++ each s.0 f) q ∙ s.4, s.5)
      go (c ∷ k) q m ih = ([], l, x, refl, refl, subst (In r) (sym q) m)

  -- one that gives something gives something for all
  pub first_in : (l : L) (y : List ℕ) {r : List ℕ} → In y l → In r (f y) → (c : List ℕ) × In c (first_of f l)
  first_in [] y m n = absurd (Memᴰ.not-nil m)
  first_in (x ∷ l) y {r} m n = go (f x) refl (Memᴰ.cases_cons m) (λ m. first_in l y m n)
    where
      go : (k : L) → f x ≡ k → (y ≡ x) ⊎ In y l → (In y l → (c : List ℕ) × In c (first_of f l)) → (c : List ℕ) × In c (or_next k (first_of f l))
      go (c ∷ k) q h ih = (c, Memᴰ.head refl)
      go [] q (inl p) ih = absurd (Memᴰ.not-nil (subst (In r) (ap f p ∙ q) n))
      go [] q (inr h) ih = ih h

-- ---- where a step goes on from

abbrev pub onward : Mode → List ℕ → List ℕ → List ℕ
onward m θ τ = cond (finds m) τ θ
