-- The invariant: the first of those that are left is the first of all.
use Rattle.std.proofs.Common.{◌≡◌, ℕ, ◌-◌, length, get_or}
use Rattle.demands.specs.Lookups.{first_of}
use Rattle.lookup.specs.Named.{named_at}
use Rattle.lookup.proofs.first.Given as goal

abbrev pub invariant-loop-i : goal.invariant-loop-i
invariant-loop-i l =
    let test = λ (j : ℕ). named_at l.policy l.kinds l.kind l.label j (get_or l.ats j 0) in
    first_of test l.i (length l.ats - l.i) ≡ first_of test 0 (length l.ats)
