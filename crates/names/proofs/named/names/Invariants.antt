-- Those before are listed, and what the names that are left give, all give.
use Rattle.std.proofs.Common.{◌≡◌, [], ◌+◌, ◌-◌, ◌<◌, ◌≤◌, length}
use Rattle.model.specs.Readings.{item_end, ends_by}
use Rattle.slices.specs.Items.{starts_at}
use Rattle.labels.specs.Hash.{buckets}
use Rattle.names.specs.Names.{names_by}
use Rattle.names.proofs.Seeking.{Going}
use Rattle.names.proofs.named.names.Given as goal

abbrev pub invariant-loop-k : goal.invariant-loop-k
invariant-loop-k g l =
    let names = names_by g.N.Named.form_of g.N.Named.alike_of l.bytes in
    let next = item_end l.bytes in
    Going g.N.Named.form_of g.N.Named.bucket_of l.bytes l.from l.k l.ats l.links × (l.at ≡ ends_by next l.k l.from)
    × (l.count ≤ length l.ats) × (buckets + l.count < length l.links) × (l.at ≤ length l.bytes)
    × (names (l.count - l.k) (starts_at next l.k l.from) l.at ≡ names l.count [] l.from)
