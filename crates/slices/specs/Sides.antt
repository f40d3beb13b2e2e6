-- The slices by their numbers, and what a slice's reader says with its side.
use Rattle.std.specs.Prelude.{ℕ, Result, Ok, Err}
use Rattle.slices.specs.declared.Refusal.{Refusal}
use Rattle.slices.specs.declared.sides.Refused.{Refused}
use Rattle.slices.specs.declared.sides.Side.{Side}
use Rattle.slices.specs.declared.sides.Side.TheVariants as sides

-- a slice's number
abbrev pub side_of : Side → ℕ
side_of sides.Policy = 1
side_of sides.Request = 2
side_of sides.Withdrawals = 3
side_of sides.Hierarchy = 4

-- what a slice's reader says, with its side
abbrev pub on_side : {A : Type 0} → Side → Result A Refusal → Result A Refused
on_side side (Ok x) = Ok x
on_side side (Err r) = Err (record { side = side; refusal = r })
