use mathlib.Core.Path.{sym, ◌∙◌}
use Rattle.families.proofs.Owning.{look_start, look_some, look_here, look_on, look_none}
use Rattle.families.proofs.entries.Entries.owner.Goals as goal

pub loop-i-init : goal.loop-i-init
loop-i-init c =
    let s = c.args.self.now in
    look_start s.families.now s.count c.args.key c.args.parent s.entered (c.into_iter-i-iterator.ensures.into_iter_gives ∙ c.under-i-items.ensures)

pub overflow_sub-i : goal.overflow_sub-i
overflow_sub-i c =
    let s = c.args.self.now in
    (look_some s.families.now s.count c.args.key c.args.parent c.loop-i.invariant c.in-Some.ensures.steps).0

pub is_in-requires : goal.is_in-requires
is_in-requires c =
    let s = c.args.self.now in
    (look_some s.families.now s.count c.args.key c.args.parent c.loop-i.invariant c.in-Some.ensures.steps).1

pub overflow_sub-result : goal.overflow_sub-result
overflow_sub-result c =
    let s = c.args.self.now in
    (look_some s.families.now s.count c.args.key c.args.parent c.loop-i.invariant c.in-Some.ensures.steps).0

-- it is the one
pub returns-then-is_in : goal.returns-then-is_in
returns-then-is_in c =
    let s = c.args.self.now in
    look_here s.families.now s.count c.args.key c.args.parent c.loop-i.invariant c.in-Some.ensures.steps (sym c.is_in.ensures ∙ c.if-is_in.true)

pub loop-i-preserved : goal.loop-i-preserved
loop-i-preserved c =
    let s = c.args.self.now in
    look_on s.families.now s.count c.args.key c.args.parent c.loop-i.invariant c.in-Some.ensures.steps (sym c.is_in.ensures ∙ c.if-is_in.false)

-- there is none
pub returns : goal.returns
returns c =
    let s = c.args.self.now in
    look_none s.families.now s.count c.args.key c.args.parent c.loop-i.invariant c.in-None.ensures.steps.0
