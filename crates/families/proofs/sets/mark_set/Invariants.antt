-- The invariant: those of the first j numbers of the set are marked beside those that were.
use Rattle.families.specs.Sets.{Adds, listed}
use Rattle.families.proofs.sets.mark_set.Given as goal

abbrev pub invariant-loop-j : goal.invariant-loop-j
invariant-loop-j l = Adds l.initial.marks l.marks (listed l.families l.at l.j)
