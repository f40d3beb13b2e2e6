use mathlib.Core.Path.{refl, sym, ◌∙◌}
use native.Mathlib.Omega.{arith}
use Rattle.model.specs.Readings.{assertion_end}
use Rattle.assertions.specs.Assertions.{issuer_read_at}
use Rattle.policy.proofs.TableLaws.{all_map, left_map, done_map, issuer_is}
use Rattle.policy.proofs.tables.put_issuers.Goals as goal

pub loop-i-init : goal.loop-i-init
loop-i-init c = (omega arith, all_map (assertion_end c.args.policy.now) issuer_read_at _ _ _)

pub loop-i-preserved : goal.loop-i-preserved
loop-i-preserved c =
    let l = c.loop-i in
    let s = c.args.policy.now in
    let next = left_map (assertion_end s) issuer_read_at _ _ _ _ _ _ (omega arith) c.assertion_end-at.ensures.0 (issuer_is _ _ refl) in
    (omega arith, sym next ∙ l.invariant.1)

pub returns : goal.returns
returns c =
    let l = c.loop-i in
    let s = c.args.policy.now in
    sym (done_map (assertion_end s) issuer_read_at _ _ _ _ _ c.loop-i-test.false) ∙ l.invariant.1
