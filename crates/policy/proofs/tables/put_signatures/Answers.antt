use mathlib.Core.Path.{◌≡◌, sym, ◌∙◌}
use native.Mathlib.Omega.{arith}
use Rattle.model.specs.Readings.{item_end}
use Rattle.policy.specs.Index.{row_at}
use Rattle.policy.proofs.TableLaws.{all_rows, left_rows, done_rows, row_length}
use Rattle.policy.proofs.tables.put_signatures.Goals as goal

pub loop-i-init : goal.loop-i-init
loop-i-init c = (omega arith, all_rows (item_end c.args.policy.now) (row_at c.args.policy.now) _ _ _)

pub loop-i-preserved : goal.loop-i-preserved
loop-i-preserved c =
    let l = c.loop-i in
    let s = c.args.policy.now in
    let copied : c.copy_from_slice.new.self ≡ row_at s l.at = cc in
    let next = left_rows (item_end s) (row_at s) _ _ _ _ _ _ _ c.loop-i-test.true c.item_end-at.ensures.0 copied
    (rw copied (row_length _ _)) (omega arith) (omega arith) in
    (omega arith, sym next ∙ l.invariant.1)

pub returns : goal.returns
returns c =
    let l = c.loop-i in
    let s = c.args.policy.now in
    sym (done_rows (item_end s) (row_at s) _ _ _ _ _ c.loop-i-test.false) ∙ l.invariant.1
