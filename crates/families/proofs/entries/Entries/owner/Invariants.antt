-- The invariant: what is left of the bucket has the owner.
use Rattle.families.proofs.Owning.{Looking}
use Rattle.families.proofs.entries.Entries.owner.Given as goal

abbrev pub invariant-loop-i : goal.invariant-loop-i
invariant-loop-i l = Looking l.self.families.now l.self.count l.key l.parent l.i-iterator
