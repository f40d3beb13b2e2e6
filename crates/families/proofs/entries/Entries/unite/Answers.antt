use Rattle.std.proofs.Common.{◌-◌, ap, ◌∙◌, arith}
use lib.ListN.{replicate}
use Rattle.model.proofs.ByteFacts.{zeros}
use Rattle.families.specs.Kin.{child_in}
use Rattle.families.proofs.Children.{left, left_all, left_some, left_next, under_within}
use Rattle.families.proofs.Uniting.{uniting_start, uniting_went, uniting_done}
use Rattle.families.proofs.entries.Entries.unite.Goals as goal

-- at first all entries of the bucket are left
pub loop-i-init : goal.loop-i-init
loop-i-init c =
    let s = c.args.self.now in
    let x = s.families.now in
    let u = c.into_iter-i-iterator.ensures.into_iter_gives ∙ c.under-i-items.ensures in (
      under_within x s.count c.args.key c.args.parent s.entered u,
      uniting_start x s.count c.args.key c.args.parent (replicate 256 0) (omega (arith, c.requires.2)) (zeros 256) _
          (left_all x s.count c.args.key c.args.parent s.entered u),
    )

pub overflow_sub-i : goal.overflow_sub-i
overflow_sub-i c =
    let s = c.args.self.now in
    (left_some s.families.now s.count c.args.key c.args.parent c.loop-i.invariant.0 c.in-Some.ensures.steps).0

pub take_child-requires : goal.take_child-requires
take_child-requires c =
    let s = c.args.self.now in
    (c.requires.0, c.requires.1, (left_some s.families.now s.count c.args.key c.args.parent c.loop-i.invariant.0 c.in-Some.ensures.steps).1)

pub loop-i-preserved : goal.loop-i-preserved
loop-i-preserved c =
    let s = c.args.self.now in
    let x = s.families.now in
    let a = c.args in (
      (left_some x s.count a.key a.parent c.loop-i.invariant.0 c.in-Some.ensures.steps).2,
      uniting_went x s.count a.key a.parent c.loop-i.marks _ _ (child_in x a.key a.parent (c.in-Some.i - 1)) (left x s.count a.key a.parent c.next.new.self)
          (left_next x s.count a.key a.parent c.in-Some.ensures.steps) c.loop-i.invariant.1 c.in_ok-take_child.ensures,
    )

-- none is left
pub returns : goal.returns
returns c =
    let s = c.args.self.now in
    let a = c.args in
    uniting_done s.families.now s.count a.key a.parent s.entered c.requires.2 c.loop-i.marks _
    (ap (left s.families.now s.count a.key a.parent) c.in-None.ensures.steps.0) c.loop-i.invariant.1
