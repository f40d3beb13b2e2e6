-- The invariant: the first i places have the first i numbers, and the others are as lent.
use Rattle.std.proofs.Common.{◌≡◌, length}
use Rattle.lookup.proofs.Laws.{over}
use Rattle.lookup.proofs.lay.Given as goal

abbrev pub invariant-loop-i : goal.invariant-loop-i
invariant-loop-i l = (l.offsets ≡ over l.ats l.initial.offsets l.i) × (length l.offsets ≡ length l.initial.offsets)
