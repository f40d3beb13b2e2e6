-- The invariant: with those that are left put down, all are.
use Rattle.std.proofs.Common.{◌≡◌, ℕ, ◌≤◌, ◌-◌, ◌+◌, ◌*◌}
use lib.Seq.{sets}
use Rattle.wire.specs.Budget.{farthest}
use Rattle.slices.specs.Items.{starts_at}
use Rattle.policy.proofs.tables.put_offsets.Given as goal

abbrev pub invariant-loop-i : goal.invariant-loop-i
invariant-loop-i g l =
    (l.at + g.row.MOST * (l.count - l.i) ≤ farthest)
    × ((next : ℕ → ℕ) → ((at e : ℕ) → goal.F-post g l.end at e → e ≡ next at)
    → sets l.table l.i (starts_at next (l.count - l.i) l.at) ≡ sets l.initial.table 0 (starts_at next l.count l.from))
