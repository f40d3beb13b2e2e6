-- Constraints under a partial binding: one is told exactly if its variables are bound, and it depends on these alone.
use mathlib.Core.Path.{◌≡◌, refl, ap, ap₂}
use mathlib.Core.Logic.{◌≢◌}
use mathlib.Core.Bool.{true, ◌&&◌}
use mathlib.Core.List.Memᴰ
use mathlib.Core.List.{List, Memᴰ}
use Prim.Native.Nat.{ℕ}
use native.Mathlib.Omega.{arith}
use Rattle.std.proofs.lemmas.Bool.Decides.{nat_tests}
use lib.ListN.{get_or}
use Rattle.model.specs.Limits.{unbound}
use Rattle.model.specs.Syntax.{Expr, con, var, today, Constraint, World, vars_of, vars_test}
use Rattle.model.specs.Kinds.{no_constant}
use Rattle.model.specs.Values.{value, operator, passes}
use Rattle.constraints.specs.Told.{told, told_both}
use Rattle.rules.specs.Matching.{at}

-- under bindings that agree on its variables it is the same
pub passes_same : (W : World) (c : Constraint) (τ ρ : List ℕ) → ((v : ℕ) → Memᴰ v (vars_test c) → at τ v ≡ at ρ v) → passes W τ c ≡ passes W ρ c
passes_same W c τ ρ h =
    ap₂ (operator c.op) (side c.left (λ v m. h v (Memᴰ.append_left _ m))) (side c.right (λ v m. h v (Memᴰ.append_right (vars_of c.left) m)))
  where
    side : (e : Expr) → ((v : ℕ) → Memᴰ v (vars_of e) → at τ v ≡ at ρ v) → value W τ e ≡ value W ρ e
    side (con c) h = refl
    side today h = refl
    side (var v) h = ap (λ (x : ℕ). get_or W.constants x no_constant) (h v (Memᴰ.head refl))

pub told_bound : (θ : List ℕ) (c : Constraint) → told_both θ c ≡ true → (v : ℕ) → Memᴰ v (vars_test c) → at θ v ≢ unbound
told_bound θ c e v m = grind (arith, side c.left, side c.right, Memᴰ.append_cases (vars_of c.left) m)
  where
    side : (e : Expr) → told θ e ≡ true → Memᴰ v (vars_of e) → at θ v ≢ unbound
    side (con c) t m = absurd (Memᴰ.not-nil m)
    side today t m = absurd (Memᴰ.not-nil m)
    side (var w) t m = grind (arith, nat_tests, Memᴰ.eq_of_singleton m)

pub told_in : (θ : List ℕ) (c : Constraint) → ((v : ℕ) → Memᴰ v (vars_test c) → at θ v ≢ unbound) → told_both θ c ≡ true
told_in θ c h = ap₂ ◌&&◌ (side c.left (λ v m. h v (Memᴰ.append_left _ m))) (side c.right (λ v m. h v (Memᴰ.append_right (vars_of c.left) m)))
  where
    side : (e : Expr) → ((v : ℕ) → Memᴰ v (vars_of e) → at θ v ≢ unbound) → told θ e ≡ true
    side (con c) h = refl
    side today h = refl
    side (var v) h = grind (arith, nat_tests, h v (Memᴰ.head refl))
