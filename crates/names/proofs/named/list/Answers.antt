use Rattle.std.proofs.Common.{ℕ, [], ◌+◌, ◌≤◌, Err, drop, refl, sym, ap, ◌∙◌, arith}
use lib.ListN.{length-replicate}
use Rattle.slices.specs.Steps.{step_of}
use Rattle.slices.specs.declared.Refusal.{Refusal}
use Rattle.slices.proofs.ListFacts.{counted}
use Rattle.names.specs.Names.{names_by, name_list}
use Rattle.labels.specs.Hash.{buckets}
use Rattle.chains.proofs.Offsets.{none_chained}
use Rattle.names.proofs.named.list.Goals as goal

pub returns-then-not-count_right : goal.returns-then-not-count_right
unfolding name_list
returns-then-not-count_right g c =
    let e = sym c.count_right.ensures ∙ c.if-not-count_right.true in
    rw e (ap (λ (r : Refusal). step_of (Err r)) c.at.ensures)

pub u16_at-requires : goal.u16_at-requires
u16_at-requires g c = (counted _ _ _ _ (sym c.count_right.ensures ∙ c.if-not-count_right.false)).there

pub names-requires : goal.names-requires
names-requires g c =
    let there = counted _ _ _ _ (sym c.count_right.ensures ∙ c.if-not-count_right.false) in
    let n = c.u16_at.result in
    let most : n ≤ g.row.MOST = omega (arith, c.u16_at.ensures.0, there.most) in
    let r = c.requires in (
      none_chained (λ at. g.N.Named.bucket_of (drop at c.args.bytes.now)) buckets _ _ g.row.LINKS refl (omega (arith, r.2)),
      omega (arith, most, length-replicate {A = ℕ} g.row.MOST 0),
      omega (arith, most, r.2, length-replicate {A = ℕ} g.row.LINKS 0),
      omega (arith, most, r.1),
      there.there,
    )

pub returns : goal.returns
unfolding name_list
returns g c =
    let e = sym c.count_right.ensures ∙ c.if-not-count_right.false in
    let names = names_by g.N.Named.form_of g.N.Named.alike_of c.args.bytes.now in
    rw e (c.names.ensures ∙ ap (λ (n : ℕ). names n [] (c.args.at + 2)) c.u16_at.ensures.0)
