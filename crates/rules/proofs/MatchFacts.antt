-- Matching instead of trying all bindings: a match gives the least binding that goes on from the one before and agrees, and it gives one where any agrees.
use mathlib.Core.Path.{◌≡◌, refl, sym, ap, ap₂, subst, ◌∙◌}
use mathlib.Core.Logic.{◌⊎◌, inl, inr, ⊎_elim, ◌≢◌}
use mathlib.Core.List.{List, [], ◌∷◌, map, head-eq_of_cons-eq, tail-eq_of_cons-eq, nil≢cons, cons≢nil}
use mathlib.Core.List.Memᴰ
use mathlib.Core.List.{Memᴰ}
use mathlib.Core.Bool.{Bool, true, cond}
use mathlib.Core.Option.{Option, none, some, some-injective}
use Prim.Native.Nat.{ℕ, ◌<◌}
use native.Mathlib.Omega.{arith}
use Rattle.std.proofs.lemmas.Grind.{common_steps}
use Rattle.std.proofs.lemmas.Bool.Decides.{nat_tests}
use lib.ListN.{length, set, length-set}
use lib.Seq.{get_or-set_same}
use lib.Dec.{eqb}
use Rattle.model.specs.Limits.{unbound}
use Rattle.model.specs.Syntax.{Expr, con, var, today}
use Rattle.model.specs.Values.{bound}
use Rattle.rules.specs.Matching.{at, fit, fits}
use Rattle.rules.specs.Proper.{Has, HasAll}

-- the binding goes on from the partial one
pub record Under (σ θ : List ℕ) : Type 0 where
  pub of : (v : ℕ) → (at σ v ≡ unbound) ⊎ (at σ v ≡ at θ v)

pub under_refl : (σ : List ℕ) → Under σ σ
under_refl σ = record { of = λ v. inr refl }

pub under_trans : {σ τ θ : List ℕ} → Under σ τ → Under τ θ → Under σ θ
under_trans a b = record { of = λ v. grind (arith, a.of v, b.of v) }

-- each place has a constant
abbrev pub Ground : List ℕ → Type 0
Ground xs = Memᴰ unbound xs → ⊥

-- each variable of a row that has constants is bound
pub row_bound : (es : List Expr) (xs τ : List ℕ) → Ground xs → map (bound τ) es ≡ xs → (v : ℕ) → Memᴰ (var v) es → at τ v ≢ unbound
row_bound es xs τ g q v m z = g (Memᴰ.cast (sym z) (rw q at (Memᴰ.map (bound τ) m)))

-- a row is the same under bindings that agree on its variables
pub row_same : (f : ℕ → ℕ) (es : List Expr) (τ ρ : List ℕ) → ((v : ℕ) → Memᴰ (var v) es → at τ v ≡ at ρ v)
    → map (λ (e : Expr). f (bound τ e)) es ≡ map (λ (e : Expr). f (bound ρ e)) es
row_same f [] τ ρ h = refl
row_same f (e ∷ es) τ ρ h = ap₂ ◌∷◌ (ap f (one e (λ v q. h v (Memᴰ.head q)))) (row_same f es τ ρ (λ v m. h v (Memᴰ.tail m)))
  where
    one : (e : Expr) → ((v : ℕ) → var v ≡ e → at τ v ≡ at ρ v) → bound τ e ≡ bound ρ e
    one (con c) h = refl
    one (var v) h = h v refl
    one today h = refl

-- a row whose expressions have constants keeps them
pub row_on : (es : List Expr) (xs : List ℕ) {τ ρ : List ℕ} → Ground xs → Under τ ρ → map (bound τ) es ≡ xs → map (bound ρ) es ≡ xs
row_on es xs {τ} {ρ} g u q = row_same (λ (c : ℕ). c) es ρ τ (λ v m. grind (arith, u.of v, row_bound es xs τ g q v m)) ∙ q

module _ (may : ℕ → ℕ → Bool) where
  -- τ is the least binding that goes on from σ and under which the row has these constants; what it binds are variables of the row
  pub record Fitted (es : List Expr) (xs σ τ : List ℕ) : Type 0 where
    pub long : length τ ≡ length σ
    pub under : Under σ τ
    pub is : map (bound τ) es ≡ xs
    pub new : (v : ℕ) → (at τ v ≡ at σ v) ⊎ (Memᴰ (var v) es × (may v (at τ v) ≡ true))
    pub least : (ρ : List ℕ) → Under σ ρ → map (bound ρ) es ≡ xs → Under τ ρ

  -- one place
  abbrev One : Expr → ℕ → List ℕ → List ℕ → Type 0
  One e x σ τ = Fitted (e ∷ []) (x ∷ []) σ τ

  unchanged : (es : List Expr) (xs σ : List ℕ) → map (bound σ) es ≡ xs → Fitted es xs σ σ
  unchanged es xs σ a = record { long = refl; under = under_refl σ; is = a; new = λ v. inl refl; least = λ ρ u b. u }

  fresh : (σ : List ℕ) (v x : ℕ) → v < length σ → at σ v ≡ unbound → may v x ≡ true → One (var v) x σ (set σ v x)
  fresh σ v x l z m = record {
    long = length-set σ v x;
    under = record { of = λ w. grind (arith, common_steps) };
    is = ap (λ (c : ℕ). c ∷ []) (get_or-set_same σ v x unbound l);
    new = λ w. grind (arith, common_steps, Memᴰ.head);
    least = λ ρ u q. record { of = λ w. grind (arith, common_steps, u.of w) };
  }

  fit_of : (σ : List ℕ) (e : Expr) (x : ℕ) {τ : List ℕ} → Has (length σ) e → fit may σ e x ≡ some τ → One e x σ τ
  fit_of σ (con c) x {τ} h q =
      let r : (c ≡ x) × (σ ≡ τ) = grind (arith, nat_tests) in
      subst (One (con c) x σ) r.1 (unchanged (con c ∷ []) (x ∷ []) σ (ap (λ (c : ℕ). c ∷ []) r.0))
  fit_of σ (var v) x {τ} h q = ⊎_elim (λ r. subst (One (var v) x σ) r.2 (fresh σ v x h r.0 r.1))
      (λ r. subst (One (var v) x σ) r.1 (unchanged (var v ∷ []) (x ∷ []) σ (ap (λ (c : ℕ). c ∷ []) r.0))) cases
    where
      cases : ((at σ v ≡ unbound) × (may v x ≡ true) × (set σ v x ≡ τ)) ⊎ ((at σ v ≡ x) × (σ ≡ τ))
      cases = grind (arith, nat_tests)
  fit_of σ today x h q = grind arith

  fit_some : (σ : List ℕ) (e : Expr) (x : ℕ) (ρ : List ℕ) → Has (length σ) e → Under σ ρ → bound ρ e ≡ x
      → ((v : ℕ) → v < length σ → var v ≡ e → may v (at ρ v) ≡ true) → (τ : List ℕ) × (fit may σ e x ≡ some τ)
  fit_some σ (con c) x ρ h u q m = (σ, grind (arith, nat_tests))
  fit_some σ (var v) x ρ h u q m = (cond (eqb (at σ v) unbound) (set σ v x) σ, grind (arith, nat_tests, u.of v, m v h refl))
  fit_some σ today x ρ h u q m = absurd h

  -- place by place
  both : {e : Expr} {es : List Expr} {x : ℕ} {xs σ ρ τ : List ℕ} → Ground (x ∷ xs) → One e x σ ρ → Fitted es xs ρ τ → Fitted (e ∷ es) (x ∷ xs) σ τ
  both {e} {es} {x} {xs} {σ} {ρ} {τ} g f r = record {
    long = r.long ∙ f.long;
    under = under_trans f.under r.under;
    is = ap₂ ◌∷◌ (head-eq_of_cons-eq (row_on (e ∷ []) (x ∷ []) (λ m. g (Memᴰ.head (Memᴰ.eq_of_singleton m))) r.under f.is)) r.is;
    new = λ v. grind (arith, r.new v, f.new v, Memᴰ.tail, Memᴰ.head, Memᴰ.eq_of_singleton);
    least = λ θ u q. r.least θ (f.least θ u (ap (λ (c : ℕ). c ∷ []) (head-eq_of_cons-eq q))) (tail-eq_of_cons-eq q);
  }

  pub fits_of : (es : List Expr) (xs : List ℕ) {σ τ : List ℕ} → HasAll (length σ) es → Ground xs → fits may σ es xs ≡ some τ → Fitted es xs σ τ
  fits_of [] [] {σ} h g q = subst (Fitted [] [] σ) (some-injective _ _ q) (unchanged [] [] σ refl)
  fits_of [] (x ∷ xs) h g q = grind arith
  fits_of (e ∷ es) [] h g q = grind arith
  fits_of (e ∷ es) (x ∷ xs) {σ} {τ} h g q = go (fit may σ e x) refl q (λ ρ k. fits_of es xs {σ = ρ} k (λ m. g (Memᴰ.tail m)))
    where
      go : (o : Option (List ℕ)) → fit may σ e x ≡ o → elim o [ none ↦ none | some ρ ↦ fits may ρ es xs ] ≡ some τ
          → ((ρ : List ℕ) → HasAll (length ρ) es → fits may ρ es xs ≡ some τ → Fitted es xs ρ τ) → Fitted (e ∷ es) (x ∷ xs) σ τ
      go none p q ih = grind arith
      go (some ρ) p q ih = let f = fit_of σ e x h.0 p in both g f (ih ρ (subst (λ (n : ℕ). HasAll n es) (sym f.long) h.1) q)

  -- where some binding that goes on from σ has these constants, there is a match, and it goes on from that too
  pub fits_some : (es : List Expr) (xs σ ρ : List ℕ) → HasAll (length σ) es → Ground xs → Under σ ρ → map (bound ρ) es ≡ xs
      → ((v : ℕ) → v < length σ → Memᴰ (var v) es → may v (at ρ v) ≡ true)
      → (τ : List ℕ) × (fits may σ es xs ≡ some τ) × Fitted es xs σ τ × Under τ ρ
  fits_some [] [] σ ρ h g u q m = (σ, refl, unchanged [] [] σ refl, u)
  fits_some [] (x ∷ xs) σ ρ h g u q m = absurd (nil≢cons q)
  fits_some (e ∷ es) [] σ ρ h g u q m = absurd (cons≢nil q)
  fits_some (e ∷ es) (x ∷ xs) σ ρ h g u q m =
      let f = fit_some σ e x ρ h.0 u (head-eq_of_cons-eq q) (λ v l k. m v l (Memᴰ.head k)) in
      let o = fit_of σ e x h.0 f.1 in
      let on = o.least ρ u (ap (λ (c : ℕ). c ∷ []) (head-eq_of_cons-eq q)) in
      let r =
      fits_some es xs f.0 ρ (subst (λ (n : ℕ). HasAll n es) (sym o.long) h.1) (λ k. g (Memᴰ.tail k)) on (tail-eq_of_cons-eq q)
      (subst (λ (n : ℕ). (v : ℕ) → v < n → Memᴰ (var v) es → may v (at ρ v) ≡ true) (sym o.long) (λ v l k. m v l (Memᴰ.tail k))) in
      (r.0, ap (λ (o : Option (List ℕ)). elim o [ none ↦ none | some τ ↦ fits may τ es xs ]) f.1 ∙ r.1, both g o r.2, r.3)
