-- The invariant: the families of the children that the rest of the bucket gives are left.
use Rattle.chains.proofs.Walks.{Within}
use Rattle.families.proofs.Children.{left}
use Rattle.families.proofs.Uniting.{Uniting}
use Rattle.families.proofs.entries.Entries.unite.Given as goal

abbrev pub invariant-loop-i : goal.invariant-loop-i
invariant-loop-i l =
    let x = l.self.families.now in
    let n = l.self.count in
    Within n l.i-iterator × Uniting x n l.key l.parent l.marks (left x n l.key l.parent l.i-iterator)
