-- The invariant: what the items that are left give, all give.
use Rattle.std.proofs.Common.{◌≡◌, ◌-◌, ◌≤◌, length}
use Rattle.slices.specs.Lists.{items_by}
use Rattle.slices.proofs.lists.items.Given as goal

abbrev pub invariant-loop : goal.invariant-loop
invariant-loop g l =
    let items = items_by (g.R.Reader.read l.reader) l.bytes in
    (l.here ≤ length l.bytes) × (items (l.count - l.counter) l.here ≡ items l.count l.at)
