-- Entry k is written, and put into the chain of its bucket.
use Rattle.std.proofs.Common.{ℕ, ◌*◌, List, length, take, drop, ap, ◌∙◌, arith}
use Rattle.chains.specs.Chains.{linked}
use Rattle.store.proofs.Lending.{rest_is, rest_split, rest_long}
use Rattle.families.specs.Laid.{buckets}
use Rattle.families.proofs.Entered.{one_laid}
use Rattle.families.proofs.laying.lay_one.Goals as goal

-- one more is laid out
pub returns : goal.returns
returns c =
    let at : ℕ = 3 * c.args.entries in
    let mid : List ℕ = c.write.new.families in
    let x = rw c.entry_at-entry.ensures at c.write.ensures in
    let b = rw c.entry_at-entry.ensures at c.bucket-bucket.ensures.0 in
    let parts = rest_split mid at (omega arith) c.add.new.links in
    let after : List ℕ → List ℕ = λ (l : List ℕ). linked (drop at l) buckets c.args.k c.bucket-bucket.result in
    one_laid c.requires.0 c.requires.1 c.requires.2 c.bucket-bucket.result b c.bucket-bucket.ensures.1
    (parts.0 ∙ c.add.ensures ∙ ap (λ (l : List ℕ). linked l buckets c.args.k c.bucket-bucket.result) (rest_is mid at) ∙ ap after x)
    (parts.1 ∙ ap (take at) x)
    (rest_long mid at (omega arith) c.add.new.links c.add.auto.links ∙ ap length x)
