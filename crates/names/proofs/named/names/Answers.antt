use Rattle.std.proofs.Common.{◌≡◌, ◌≤◌, ℕ, List, [], ◌+◌, ◌-◌, drop, length, slice_set, Err, refl, sym, ap, subst, ◌∙◌, arith}
use lib.ListN.{length-set}
use Rattle.model.specs.Readings.{ends_by}
use Rattle.model.proofs.Shifts.{rest_length, rest_is}
use Rattle.slices.specs.Items.{starts_at}
use Rattle.slices.specs.Steps.{step_of}
use Rattle.slices.specs.declared.Refusal.{Refusal}
use Rattle.labels.specs.Hash.{buckets}
use Rattle.names.specs.Names.{size_of, name_by, names_by}
use Rattle.names.proofs.Seeking.{Going, going_start, going_starts, going_listed, going_next, linked_long}
use Rattle.names.proofs.NameFacts.{names_more, names_stop, names_none, name_taken, taken_ends}
use Rattle.names.proofs.named.names.Goals as goal

pub loop-k-init : goal.loop-k-init
unfolding ends_by starts_at
loop-k-init g c =
    let r = c.requires in
    let a = c.args in
    let e : a.count - 0 ≡ a.count = omega arith in
    let names = names_by g.N.Named.form_of g.N.Named.alike_of a.bytes.now in
    (going_start _ _ _ a.from _ _ r.0, refl, r.1, r.2, r.4, ap (λ (n : ℕ). names n [] a.from) e)

pub name-requires : goal.name-requires
name-requires g c = going_listed _ _ _ _ _ _ _ c.loop-k.invariant.0

-- the names before stand where they are listed
pub returns-in-Err : goal.returns-in-Err
returns-in-Err g c =
    let i = c.loop-k.invariant in
    let s = c.args.bytes.now in
    let at = c.loop-k.at in
    let name = name_by g.N.Named.form_of g.N.Named.alike_of s in
    let said = ap (λ (l : List ℕ). name l (drop at s)) (sym (going_starts _ _ _ _ _ _ _ i.0)) ∙ ap (name _) (sym (rest_is s at)) ∙ sym c.name.ensures.read
    ∙ ap size_of c.in-Err.is in
    ap (λ (r : Refusal). step_of (Err r)) c.at.ensures
    ∙ sym (names_stop _ _ s c.args.count c.loop-k.k c.args.from at c.in-Err.reason c.loop-k-test.true said) ∙ i.5

pub loop-k-preserved : goal.loop-k-preserved
loop-k-preserved g c =
    let i = c.loop-k.invariant in
    let s = c.args.bytes.now in
    let at = c.loop-k.at in
    let k = c.loop-k.k in
    let from = c.args.from in
    let form = g.N.Named.form_of in
    let bucket = g.N.Named.bucket_of in
    let taken = c.in-Ok.taken in
    let ats = slice_set c.loop-k.ats k at in
    let name = name_by form g.N.Named.alike_of s in
    let rest = rest_is s at in
    let said = ap (λ (l : List ℕ). name l (drop at s)) (sym (going_starts _ _ _ _ _ _ _ i.0)) ∙ ap (name _) (sym rest) ∙ sym c.name.ensures.read
    ∙ ap size_of c.in-Ok.is in
    let told = name_taken form g.N.Named.alike_of s _ _ _ said in
    let ends = taken_ends form g.N.Named.alike_of s k from at taken.size i.1 told.1 in
    let b = c.in-Ok.ensures.taken in
    let listed = going_next form bucket s from k c.loop-k.ats c.loop-k.links i.0 at taken.bucket i.1 told.0 i.4 (b.1 ∙ ap bucket rest) b.2
    (omega (arith, i.2)) (omega (arith, i.3)) in
    let long = linked_long c.add.new.links c.loop-k.links buckets k taken.bucket c.add.ensures in
    let within : at + taken.size ≤ length s = omega (arith, b.0, ap length rest, rest_length s at, i.4) in (
      subst (λ (t : List ℕ). Going form bucket s from (k + 1) ats t) (sym c.add.ensures) listed,
      ends,
      simp length-set i.2,
      omega (arith, long, i.3),
      within,
      sym (names_more _ _ s c.args.count k from at taken.size c.loop-k-test.true i.1 said) ∙ i.5,
    )

pub returns : goal.returns
returns g c = let i = c.loop-k.invariant in sym (names_none _ _ _ c.args.count c.loop-k.k c.args.from c.loop-k.at c.loop-k-test.false) ∙ i.5
