use Rattle.std.proofs.Common.{sym, ◌∙◌}
use Rattle.withdrawals.proofs.Holding.{holding_passed, holding_went}
use Rattle.withdrawals.proofs.left.holding.Goals as goal
use Rattle.withdrawals.proofs.left.holding.Goals.{then-holds, else-holds}

-- the entry's constraints hold, and it is put aside, or they do not
pub loop-preserved : goal.loop-preserved
loop-preserved c =
    let H = c.loop.invariant in
    let next = c.end-at.ensures in
    elim c.if-holds.branch [
      | then-holds w ↦ rw (w.ats-is, w.k-is)
          (holding_went _ _ _ H c.requires.0 c.loop-test.true _ next.0 next.1 (sym c.holds.ensures ∙ w.if-holds.true))
      | else-holds w ↦ rw (w.ats-is, w.k-is)
          (holding_passed _ _ _ H c.requires.0 c.loop-test.true _ next.0 next.1 (sym c.holds.ensures ∙ w.if-holds.false))
    ]
