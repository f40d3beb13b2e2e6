-- What is left of the bucket says what all entries say.
use Rattle.std.proofs.Common.{◌-◌, length, get_or}
use Rattle.model.specs.Lists.{any}
use Rattle.chains.proofs.Offsets.{Looking}
use Rattle.withdrawals.specs.Sought.{named_at}
use Rattle.withdrawals.proofs.chained.Chained.is_named.Given as goal

abbrev pub invariant-loop-i : goal.invariant-loop-i
invariant-loop-i l =
    let ats = l.self.ats.now in
    let named = named_at l.self.bytes.now l.issuer l.serial in
    Looking (length ats) (λ i. named (get_or ats (i - 1) 0)) (any named ats) l.i-iterator
