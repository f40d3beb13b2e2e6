use mathlib.Core.Path.{sym, ◌∙◌}
use native.Mathlib.Omega.{arith}
use Rattle.model.specs.Readings.{item_end}
use Rattle.policy.specs.Index.{kind_of}
use Rattle.policy.proofs.TableLaws.{all_map, left_map, done_map, kind_at}
use Rattle.policy.proofs.tables.put_kinds.Goals as goal

pub loop-i-init : goal.loop-i-init
loop-i-init c = (omega arith, all_map (item_end c.args.policy.now) (kind_of c.args.policy.now) _ _ _)

pub loop-i-preserved : goal.loop-i-preserved
loop-i-preserved c =
    let l = c.loop-i in
    let s = c.args.policy.now in
    let next = left_map (item_end s) (kind_of s) _ _ _ _ _ _ (omega arith) c.item_end-at.ensures.0 (kind_at _ _ _ c.u8_or.ensures) in
    (omega arith, sym next ∙ l.invariant.1)

pub returns : goal.returns
returns c =
    let l = c.loop-i in
    let s = c.args.policy.now in
    sym (done_map (item_end s) (kind_of s) _ _ _ _ _ c.loop-i-test.false) ∙ l.invariant.1
