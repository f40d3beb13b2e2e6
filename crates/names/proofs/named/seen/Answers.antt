use Rattle.std.proofs.Common.{◌∙◌, drop}
use Rattle.labels.specs.Hash.{buckets}
use Rattle.chains.proofs.Offsets.{look_start}
use Rattle.names.proofs.named.seen.Goals as goal

-- no name of another bucket is alike
pub loop-i-init : goal.loop-i-init
loop-i-init g c =
    let s = c.args.bytes.now in
    let r = c.requires in
    look_start (λ at. g.N.Named.bucket_of (drop at s)) (λ at. g.N.Named.alike_of c.args.item.now (drop at s)) buckets _ _ _ _
    (λ at h. r.3 (drop at s) h) r.2 r.1.chained (c.into_iter-i-iterator.ensures.into_iter_gives ∙ c.bucket-i-items.ensures)
