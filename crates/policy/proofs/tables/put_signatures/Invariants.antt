use mathlib.Core.Path.{◌≡◌}
use Prim.Native.Nat.{◌≤◌, ◌-◌, ◌+◌, ◌*◌}
use lib.Seq.{sets}
use Rattle.wire.specs.Budget.{farthest}
use Rattle.slices.specs.Items.{starts_at}
use Rattle.model.specs.Lists.{each}
use Rattle.model.specs.Readings.{item_end}
use Rattle.policy.specs.Index.{row_at}
use Rattle.policy.proofs.tables.put_signatures.Given as goal

abbrev pub invariant-loop-i : goal.invariant-loop-i
invariant-loop-i l =
    (l.at + 256 * (l.count - l.i) + 4 ≤ farthest)
    × (sets l.table (4 * l.i + 4) (each (starts_at (item_end l.policy) (l.count - l.i) l.at) (row_at l.policy)) ≡ sets l.initial.table 4
    (each (starts_at (item_end l.policy) l.count l.from) (row_at l.policy)))
