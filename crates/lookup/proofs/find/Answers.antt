-- The search by the index that was handed out finds the model's number.
use Rattle.std.proofs.Common.{sym, ap, ◌∙◌, arith, length-take}
use Rattle.lookup.specs.Named.{number_or}
use Rattle.lookup.proofs.Accepted.{constants_laid, constants_stand, number_is, none_refused, no_number_law}
use Rattle.lookup.proofs.find.Goals as goal

pub returns-then-not-has_label : goal.returns-then-not-has_label
returns-then-not-has_label c = no_number_law c.args.policy.now c.args.kind c.args.label.now (sym c.has_label.ensures ∙ c.if-not-has_label.true)

pub shared_ref_as_front-first : goal.shared_ref_as_front-first
shared_ref_as_front-first c = (constants_laid c.args.policy.now c.read.new.index c.in-Ok.ensures (λ i. omega (arith, c.type_inv.policy i))).few

pub first-requires : goal.first-requires
first-requires c =
    let known = constants_laid c.args.policy.now c.read.new.index c.in-Ok.ensures (λ i. omega (arith, c.type_inv.policy i)) in (
      omega (arith, known.few, length-take c.read.new.index.constants c.read.new.index.constant_at),
      constants_stand c.args.policy.now c.read.new.index c.in-Ok.ensures (λ i. omega (arith, c.type_inv.policy i)),
    )

pub overflow_cast-result : goal.overflow_cast-result
overflow_cast-result c =
    let known = constants_laid c.args.policy.now c.read.new.index c.in-Ok.ensures (λ i. omega (arith, c.type_inv.policy i)) in
    record { fits = omega (arith, c.in-Some.ensures.within, known.few, length-take c.read.new.index.constants c.read.new.index.constant_at) }

pub returns-in-Some : goal.returns-in-Some
returns-in-Some c =
    ap number_or (sym c.in-Some.is) ∙ c.first.ensures.is
    ∙ number_is c.args.policy.now c.read.new.index c.in-Ok.ensures (λ i. omega (arith, c.type_inv.policy i)) c.args.kind c.args.label.now
    (sym c.has_label.ensures ∙ c.if-not-has_label.false)

pub returns-in-None : goal.returns-in-None
returns-in-None c =
    ap number_or (sym c.in-None.is) ∙ c.first.ensures.is
    ∙ number_is c.args.policy.now c.read.new.index c.in-Ok.ensures (λ i. omega (arith, c.type_inv.policy i)) c.args.kind c.args.label.now
    (sym c.has_label.ensures ∙ c.if-not-has_label.false)

pub returns-in-Err : goal.returns-in-Err
returns-in-Err c = sym ((none_refused c.args.policy.now _ _ c.in-Err.ensures).2 c.args.kind c.args.label.now)
