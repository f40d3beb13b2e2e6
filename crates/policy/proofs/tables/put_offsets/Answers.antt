use Rattle.std.proofs.Common.{sym, ◌∙◌, arith}
use Rattle.policy.proofs.TableLaws.{mul_less_none, mul_one_less, all_starts, left_starts, done_starts}
use Rattle.policy.proofs.tables.put_offsets.Goals as goal

pub loop-i-init : goal.loop-i-init
loop-i-init g c = (omega (arith, c.requires.few.1, mul_less_none g.row.MOST c.args.count), λ next t. all_starts next _ _ _)

pub loop-i-preserved : goal.loop-i-preserved
loop-i-preserved g c =
    let l = c.loop-i in (
      omega (arith, c.requires.near _ _ c.end-at.ensures, mul_one_less g.row.MOST c.args.count l.i (omega arith)),
      λ next t. sym (left_starts next _ _ _ _ _ (omega arith) (t _ _ c.end-at.ensures)) ∙ l.invariant.1 next t,
    )

pub returns : goal.returns
returns g c = λ next t. sym (done_starts next _ _ _ _ _ c.loop-i-test.false) ∙ c.loop-i.invariant.1 next t
