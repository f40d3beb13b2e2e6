-- What an accepted policy has for a constant.
use Rattle.std.proofs.Common.{arith}
use Rattle.policy.proofs.LabelFacts.{few, stands}
use Rattle.policy.proofs.label_part.Goals as goal

pub bounds-index-constant : goal.bounds-index-constant
bounds-index-constant c = omega (arith, few c.args.policy.now c.read.new.index c.in-Ok.ensures)

pub offset_bounds-index-constant : goal.offset_bounds-index-constant
offset_bounds-index-constant c =
    record { fits = omega (arith, few c.args.policy.now c.read.new.index c.in-Ok.ensures, c.if-constant-index.true) }

pub bounds-index-constant-then-has_label : goal.bounds-index-constant-then-has_label
bounds-index-constant-then-has_label c = omega (arith, few c.args.policy.now c.read.new.index c.in-Ok.ensures, c.if-constant-index.true)

pub overflow_add-result : goal.overflow_add-result
overflow_add-result c = omega (arith, stands c.args.policy.now c.read.new.index c.in-Ok.ensures c.args.constant c.if-constant-index.true)

pub overflow_add-result-then-has_label : goal.overflow_add-result-then-has_label
overflow_add-result-then-has_label c = omega (arith, stands c.args.policy.now c.read.new.index c.in-Ok.ensures c.args.constant c.if-constant-index.true)

pub overflow_add-result-then-has_label-2 : goal.overflow_add-result-then-has_label-2
overflow_add-result-then-has_label-2 c =
    omega (arith, stands c.args.policy.now c.read.new.index c.in-Ok.ensures c.args.constant c.if-constant-index.true, c.byte_or.ensures.0)
