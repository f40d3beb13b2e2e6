-- The invariant: the marks from i on are in the number.
use mathlib.Core.Path.{◌≡◌}
use Prim.Native.Nat.{◌+◌, ◌-◌, ◌≤◌}
use Rattle.families.specs.Sets.{wide, packed}
use Rattle.families.proofs.sets.pack.Given as goal

abbrev pub invariant-loop-i : goal.invariant-loop-i
invariant-loop-i l = (l.at ≤ l.i) × (l.number ≡ packed l.marks l.i (l.at + wide - l.i))
