use Rattle.std.proofs.Common.{refl, arith}
use Rattle.constraints.specs.Standing.{world_of}
use Rattle.withdrawals.proofs.Leaving.{none_removed}
use Rattle.withdrawals.proofs.left.left.Goals as goal

-- without entries all stay
pub returns-then-entries-eq0 : goal.returns-then-entries-eq0
returns-then-entries-eq0 c = (omega arith, refl, none_removed (world_of c.args.values.now) _ _ _ _ c.if-entries-eq0.true)
