-- What is left of the bytes falls.
use Rattle.std.proofs.Common.{length}
use Rattle.policy_cases.proofs.cases.Given as goal

abbrev pub decreases-loop-length : goal.decreases-loop-length
decreases-loop-length g l = length l.left
