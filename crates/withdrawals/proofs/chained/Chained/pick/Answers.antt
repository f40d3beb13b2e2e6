use Rattle.std.proofs.Common.{sym, ◌∙◌, arith}
use lib.Seq.{get_or-set_other}
use Rattle.withdrawals.specs.Sought.{unnamed_at}
use Rattle.withdrawals.proofs.Picked.{ended, passed, went}
use Rattle.withdrawals.proofs.chained.Chained.pick.Goals as goal
use Rattle.withdrawals.proofs.chained.Chained.pick.Goals.{then-unnamed, else-unnamed}

pub loop-i-preserved : goal.loop-i-preserved
loop-i-preserved c =
    let f = unnamed_at c.args.self.now.bytes.now c.args.self.now.ats.now c.args.policy.now in
    let items = c.args.items.now in
    let out = c.loop-i.issuers in
    let i = c.loop-i.i in
    let k = c.loop-i.k in
    let few = c.loop-i.invariant.0 in
    let later = c.loop-i.invariant.1 in
    let listed = c.requires.0.all in
    elim c.if-unnamed.branch [
      | then-unnamed w ↦
          rw (w.issuers-is, w.k-is) (
            omega arith,
            λ j h. get_or-set_other out k j _ 0 (λ q. omega arith) ∙ later j (omega arith),
            went f items out i k few (omega arith) (omega arith) (sym c.unnamed.ensures ∙ w.if-unnamed.true) ∙ c.loop-i.invariant.2,
          )
      | else-unnamed w ↦
          rw (w.issuers-is, w.k-is) (
            omega arith,
            λ j h. later j (omega arith),
            passed f items out i k few (omega arith) (omega arith) (sym c.unnamed.ensures ∙ w.if-unnamed.false) ∙ c.loop-i.invariant.2,
          )
    ]

pub returns : goal.returns
returns c = (
  (let few = c.loop-i.invariant.0 in omega arith),
  ended _ c.args.items.now c.loop-i.issuers c.loop-i.i c.loop-i.k (omega arith) ∙ c.loop-i.invariant.2,
)
