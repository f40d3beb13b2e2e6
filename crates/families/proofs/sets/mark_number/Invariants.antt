-- The invariant: from d on those that are marked in w are left.
use Rattle.families.proofs.Uniting.{Marking}
use Rattle.families.proofs.sets.mark_number.Given as goal

abbrev pub invariant-loop-member : goal.invariant-loop-member
invariant-loop-member l = Marking l.initial.marks l.at l.number l.marks l.member l.rest
