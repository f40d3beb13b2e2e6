-- The kinds and their numbers.
use Rattle.std.specs.Prelude.{ℕ, Option, Some, None, ◌==◌, if◌then◌else◌}
use Rattle.model.specs.Limits.{principal, thing, day, quantity}
use Rattle.limits.specs.declared.Kind.{Kind}
use Rattle.limits.specs.declared.Kind.TheVariants.{Principal, Thing, Day, Quantity}

abbrev pub number_of : Kind → ℕ
number_of Principal = principal
number_of Thing = thing
number_of Day = day
number_of Quantity = quantity

-- the kind with number n, if there is one
abbrev pub kind_of : ℕ → Option Kind
kind_of n =
    if n == principal then Some Principal
    else if n == thing then Some Thing
    else if n == day then Some Day
    else if n == quantity then Some Quantity
    else None
