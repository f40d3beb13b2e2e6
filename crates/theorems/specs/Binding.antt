-- Which choices of kinds fit, and which bindings there are: said without computing (`Theorems.KindsFit`, `InstanceBindings`, `AnswerBindings`).
use mathlib.Core.List.{List, Memᴰ}
use Rattle.std.specs.Prelude.{◌≡◌, not, ℕ, ◌<◌, length, get_or, T}
use Rattle.model.specs.Limits.{unbound}
use Rattle.model.specs.Lists.{member, each}
use Rattle.model.specs.Syntax.{Expr, Constant, vars_of}
use Rattle.model.specs.Kinds.{Demands, kind_at, kinds, meets}

-- "choice of kinds for the variables": one of the four for each of the eight; it fits if it meets what is asked
abbrev pub Fits : List Constant → Demands → List ℕ → Type 0
Fits cs D κ = (length κ ≡ 8) × ((v : ℕ) → v < 8 → Memᴰ (get_or κ v 0) kinds) × T (meets cs D κ)

-- "variables range over the policy's constants of their kind": under the choice κ, θ has a constant of its kind for each variable of S, and 255 for the others
abbrev pub Binds : List Constant → List ℕ → List ℕ → List ℕ → Type 0
Binds cs κ S θ = (length θ ≡ 8) × ((v : ℕ) → v < 8
    → (T (member v S) → kind_at cs (get_or θ v unbound) ≡ get_or κ v 0) × (T (not (member v S)) → get_or θ v unbound ≡ unbound))

-- the variables that have a place in a fact
abbrev pub in_places : Demands → List ℕ
in_places D = each D.places (λ (p : ℕ × Expr). vars_of p.1)
