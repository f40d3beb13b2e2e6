-- The invariant: what the rest of the bucket gives is still to join.
use mathlib.Core.Path.{◌≡◌}
use Rattle.chains.proofs.Walks.{Within}
use Rattle.rules.specs.Families.{join_all}
use Rattle.families.specs.Kin.{children_in}
use Rattle.families.specs.Members.{members_of}
use Rattle.families.proofs.Children.{left}
use Rattle.families.proofs.family.Family.join_children.Given as goal

abbrev pub invariant-loop-i : goal.invariant-loop-i
invariant-loop-i l =
    let x = l.entries.families.now in
    let n = l.entries.count in
    Within n l.i-iterator
    × (join_all (left x n l.key l.parent l.i-iterator) (members_of l.self) ≡ join_all (children_in x n l.key l.parent) (members_of l.initial.self))
