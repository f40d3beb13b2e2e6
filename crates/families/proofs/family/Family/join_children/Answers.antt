use Rattle.std.proofs.Common.{ℕ, List, ◌-◌, sym, ap, ◌∙◌}
use Rattle.rules.specs.Families.{join_all}
use Rattle.families.specs.Kin.{child_in}
use Rattle.families.specs.Members.{members_of}
use Rattle.families.proofs.Holding.{joins_append}
use Rattle.families.proofs.Children.{left, left_all, left_some, left_next, under_within}
use Rattle.families.proofs.family.Family.join_children.Goals as goal

-- at first all entries of the bucket are left
pub loop-i-init : goal.loop-i-init
loop-i-init c =
    let s = c.args.entries.now in
    let u = c.into_iter-i-iterator.ensures.into_iter_gives ∙ c.under-i-items.ensures in (
      under_within s.families.now s.count c.args.key c.args.parent s.entered u,
      ap (λ (l : List ℕ). join_all l (members_of c.args.self.now)) (left_all s.families.now s.count c.args.key c.args.parent s.entered u),
    )

pub overflow_sub-i : goal.overflow_sub-i
overflow_sub-i c =
    let s = c.args.entries.now in
    (left_some s.families.now s.count c.args.key c.args.parent c.loop-i.invariant.0 c.in-Some.ensures.steps).0

pub join_child-requires : goal.join_child-requires
join_child-requires c =
    let s = c.args.entries.now in
    (left_some s.families.now s.count c.args.key c.args.parent c.loop-i.invariant.0 c.in-Some.ensures.steps).1

pub loop-i-preserved : goal.loop-i-preserved
loop-i-preserved c =
    let s = c.args.entries.now in
    let a = c.args in
    let rest : List ℕ = left s.families.now s.count a.key a.parent c.next.new.self in
    let old : List ℕ = members_of c.loop-i.self in (
      (left_some s.families.now s.count a.key a.parent c.loop-i.invariant.0 c.in-Some.ensures.steps).2,
      ap (join_all rest) c.join_child.ensures ∙ sym (joins_append (child_in s.families.now a.key a.parent (c.in-Some.i - 1)) rest old)
          ∙ sym (ap (λ (l : List ℕ). join_all l old) (left_next s.families.now s.count a.key a.parent c.in-Some.ensures.steps)) ∙ c.loop-i.invariant.1,
    )

-- none is left
pub returns : goal.returns
unfolding join_all
returns c =
    let s = c.args.entries.now in
    sym (ap (λ (l : List ℕ). join_all (left s.families.now s.count c.args.key c.args.parent l) (members_of c.loop-i.self)) c.in-None.ensures.steps.0)
    ∙ c.loop-i.invariant.1
