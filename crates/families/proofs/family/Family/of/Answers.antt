-- c is the only member, and the only one that is marked.
use Rattle.std.proofs.Common.{replicate, refl, arith}
use Rattle.model.proofs.ByteFacts.{zeros}
use Rattle.families.proofs.Holding.{started, held_front}
use Rattle.families.proofs.family.Family.of.Goals as goal

pub invariant_of-result : goal.invariant_of-result
invariant_of-result c = record { held = held_front (started (replicate 256 0) (replicate 256 0) c.args.member refl refl (omega arith) (zeros 256)) }
