-- The invariant: the first j numbers of the set are written.
use Rattle.families.proofs.Keeping.{Writing}
use Rattle.families.proofs.sets.write_set.Given as goal

abbrev pub invariant-loop-j : goal.invariant-loop-j
invariant-loop-j l = Writing l.initial.families l.families l.at l.marks l.j
