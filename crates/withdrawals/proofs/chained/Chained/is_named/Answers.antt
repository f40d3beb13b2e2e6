use Rattle.std.proofs.Common.{◌∙◌}
use Rattle.chains.proofs.Offsets.{look_start}
use Rattle.withdrawals.specs.Sought.{bucket_at, named_at, buckets}
use Rattle.withdrawals.proofs.Sought.{apart}
use Rattle.withdrawals.proofs.chained.Chained.is_named.Goals as goal

-- the bucket of the issuer and the serial is enough
pub loop-i-init : goal.loop-i-init
loop-i-init c =
    let s = c.args.self.now.bytes.now in
    let place = c.bucket.ensures in
    look_start (bucket_at s) (named_at s c.args.issuer c.args.serial) buckets _ _ _ _ (apart s _ _ _ place.0) place.1 c.args.self.now.linked.chained
    (c.into_iter-i-iterator.ensures.into_iter_gives ∙ c.bucket-i-items.ensures)
