-- What is left of the bucket says what all names that are listed say.
use Rattle.std.proofs.Common.{ℕ, ◌-◌, length, drop, get_or}
use Rattle.model.specs.Lists.{any}
use Rattle.chains.proofs.Offsets.{Looking}
use Rattle.names.proofs.named.seen.Given as goal

abbrev pub invariant-loop-i : goal.invariant-loop-i
invariant-loop-i g l =
    let alike = λ (at : ℕ). g.N.Named.alike_of l.item (drop at l.bytes) in
    Looking (length l.ats) (λ i. alike (get_or l.ats (i - 1) 0)) (any alike l.ats) l.i-iterator
