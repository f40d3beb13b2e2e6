use Rattle.std.proofs.Common.{refl, ◌∙◌, arith}
use Rattle.constraints.specs.Standing.{world_of}
use Rattle.withdrawals.proofs.Holding.{stays_same}
use Rattle.withdrawals.proofs.Picked.{none_picked, picked_same}
use Rattle.withdrawals.proofs.left.left_by_items.Goals as goal

-- without entries all stay
pub returns-then-entries-eq0 : goal.returns-then-entries-eq0
returns-then-entries-eq0 c =
    let listed = c.requires.1.all in
    (omega arith, refl, none_picked (world_of c.args.values.now) _ _ _ _ _ c.if-entries-eq0.true listed)

pub returns : goal.returns
returns c =
    let args = c.args in
    let chained = c.chained-chained in
    let same = stays_same (world_of args.values.now) args.withdrawals.now args.entries chained.result.ats.now chained.ensures.1 args.values.now.policy.now in
    let picked = c.pick.ensures in
    (picked.0, c.pick.auto.issuers, rw chained.ensures.0 at picked.1 ∙ picked_same _ _ same _ _)
