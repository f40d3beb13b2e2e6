-- The invariant: from d on those that are marked in w are left.
use lib.ListN.{take}
use Rattle.families.proofs.Marking.{Unpacking}
use Rattle.families.proofs.sets.unpack.Given as goal

abbrev pub invariant-loop-member : goal.invariant-loop-member
invariant-loop-member l =
    Unpacking (take l.count l.initial.members) l.at l.marks l.members l.n l.member l.rest
