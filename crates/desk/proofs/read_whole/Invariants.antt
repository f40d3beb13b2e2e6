-- The n bytes so far stand at the front; each turn leaves fewer.
use Rattle.std.proofs.Common.{length, ◌-◌, ◌≤◌}
use Rattle.desk.proofs.read_whole.Given as goal

abbrev pub invariant-loop-n : goal.invariant-loop-n
invariant-loop-n g l = l.n ≤ length l.to

abbrev pub decreases-loop-n : goal.decreases-loop-n
decreases-loop-n g l = length l.initial.to - l.n
