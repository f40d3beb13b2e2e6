use mathlib.Core.Path.{◌≡◌}
use mathlib.Core.List.{map}
use Prim.Native.Nat.{◌≤◌, ◌-◌, ◌+◌, ◌*◌}
use lib.Seq.{sets}
use Rattle.wire.specs.Budget.{farthest}
use Rattle.slices.specs.Items.{starts_at}
use Rattle.model.specs.Readings.{assertion_end}
use Rattle.assertions.specs.Assertions.{issuer_read_at}
use Rattle.policy.proofs.tables.put_issuers.Given as goal

abbrev pub invariant-loop-i : goal.invariant-loop-i
invariant-loop-i l =
    (l.at + 65537 * (l.count - l.i) + 6 ≤ farthest)
    × (sets l.table l.i (map issuer_read_at (starts_at (assertion_end l.policy) (l.count - l.i) l.at)) ≡ sets l.initial.table 0
    (map issuer_read_at (starts_at (assertion_end l.policy) l.count l.from)))
