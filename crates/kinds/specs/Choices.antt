-- What the asks mean: a choice of kinds for the variables meets them.
use Rattle.std.specs.Prelude.{ℕ, ◌≤◌, ◌<◌, ◌≡◌, List, [], ◌∷◌, length, get_or, Option, Some, None}
use Rattle.limits.specs.Kinds.{number_of}
use Rattle.kinds.specs.declared.Term.{Term}
use Rattle.kinds.specs.declared.Term.TheVariants.{Variable, Any}
use Rattle.kinds.specs.Cells.{Ask, same, number}

-- a kind of 1 to 4 for each of the eight variables
abbrev pub Choice : List ℕ → Type 0
Choice κ = (length κ ≡ 8) × ((v : ℕ) → v < 8 → (1 ≤ get_or κ v 0) × (get_or κ v 0 ≤ 4))

-- the kind of a term, 0 where there is none
abbrev pub kind_in : List ℕ → Option Term → ℕ
kind_in κ (Some (Variable v)) = get_or κ v 0
kind_in κ (Some (Any k)) = number_of k
kind_in κ None = 0

abbrev pub Meets : List ℕ → Ask → Type 0
Meets κ (same l r) = (1 ≤ kind_in κ l) × (kind_in κ l ≡ kind_in κ r)
Meets κ (number l) = 3 ≤ kind_in κ l

abbrev pub MeetsAll : List ℕ → List Ask → Type 0
MeetsAll κ [] = Unit {0}
MeetsAll κ (a ∷ qs) = Meets κ a × MeetsAll κ qs

-- some choice of kinds meets all
abbrev pub Meetable : List Ask → Type 0
Meetable qs = (κ : List ℕ) × Choice κ × MeetsAll κ qs
