use Rattle.std.proofs.Common.{rules, take, get_or, arith}
use lib.ListN.{get_or-replicate}
use Rattle.chains.proofs.Offsets.{chained_by}
use Rattle.withdrawals.specs.Sought.{bucket_at}
use Rattle.withdrawals.proofs.left.chained.Goals as goal

pub link-requires-clause-empty : goal.link-requires-clause-empty
link-requires-clause-empty c = λ b h. rw c.requires.2 (get_or-replicate 513 b 0 0 (omega arith))

-- the entries put aside are all in their chains
pub invariant_of-result : goal.invariant_of-result
invariant_of-result c =
    let bucket = bucket_at c.args.withdrawals.now in
    let ats = take c.holding-n.result c.holding-n.new.ats in
    let chained = chained_by bucket ats _ _ _ (c.link.ensures (λ i. bucket (get_or ats i 0)) (λ i b l h. search rules)) in
    record { linked = record { within = c.holding-n.ensures.0; chained = chained } }
