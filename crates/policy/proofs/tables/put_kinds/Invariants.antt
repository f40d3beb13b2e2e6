use mathlib.Core.Path.{◌≡◌}
use Prim.Native.Nat.{◌≤◌, ◌-◌, ◌+◌, ◌*◌}
use lib.Seq.{sets}
use Rattle.wire.specs.Budget.{farthest}
use Rattle.slices.specs.Items.{starts_at}
use mathlib.Core.List.{map}
use Rattle.model.specs.Readings.{item_end}
use Rattle.policy.specs.Index.{kind_of}
use Rattle.policy.proofs.tables.put_kinds.Given as goal

abbrev pub invariant-loop-i : goal.invariant-loop-i
invariant-loop-i l =
    (l.at + 256 * (l.count - l.i) + 2 ≤ farthest)
    × (sets l.table l.i (map (kind_of l.policy) (starts_at (item_end l.policy) (l.count - l.i) l.at)) ≡ sets l.initial.table 0
    (map (kind_of l.policy) (starts_at (item_end l.policy) l.count l.from)))
