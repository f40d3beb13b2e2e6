-- The invariant: what the first j numbers of the set have stands at the front.
use mathlib.Core.Path.{◌≡◌}
use Prim.Native.Nat.{◌*◌, ◌≤◌}
use lib.ListN.{take}
use Rattle.families.specs.Sets.{wide, listed}
use Rattle.families.proofs.sets.list.Given as goal

abbrev pub invariant-loop-j : goal.invariant-loop-j
invariant-loop-j l = (l.n ≤ wide * l.j) × (take l.n l.members ≡ listed l.families l.at l.j)
