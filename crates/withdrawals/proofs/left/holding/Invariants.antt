-- Of the entries before `at` those whose constraints hold are put aside (`Holding`).
use Rattle.constraints.specs.Standing.{world_of}
use Rattle.withdrawals.proofs.Holding.{Holding}
use Rattle.withdrawals.proofs.left.holding.Given as goal

abbrev pub invariant-loop : goal.invariant-loop
invariant-loop l = Holding (world_of l.values) l.withdrawals l.count l.ats l.counter l.at l.k
