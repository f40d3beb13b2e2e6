-- The invariant: the first k issuers, and those that stay of those from i on, are those that stay of all; those from i on are as they were.
use Rattle.std.proofs.Common.{◌≡◌, ℕ, ◌≤◌, get_or}
use Rattle.withdrawals.specs.Left.{picked}
use Rattle.withdrawals.specs.Sought.{unnamed_at}
use Rattle.withdrawals.proofs.Picked.{picked_of}
use Rattle.withdrawals.proofs.chained.Chained.pick.Given as goal

abbrev pub invariant-loop-i : goal.invariant-loop-i
invariant-loop-i l =
    let stays = unnamed_at l.self.bytes.now l.self.ats.now l.policy in
    (l.k ≤ l.i) × ((j : ℕ) → l.i ≤ j → get_or l.issuers j 0 ≡ get_or l.initial.issuers j 0)
    × (picked_of stays l.items l.issuers l.i l.k ≡ picked stays l.items l.initial.issuers)
