use Rattle.std.proofs.Common.{◌+◌, ◌-◌, arith}
use Rattle.families.specs.Sets.{wide}
use Rattle.families.proofs.Marking.{packed_none, packed_more, packed_fits}
use Rattle.families.proofs.sets.pack.Goals as goal

-- at first none are
pub loop-i-init : goal.loop-i-init
loop-i-init c = let a = c.args in (omega arith, packed_none a.marks.now a.at)

-- one mark more, for which there is room
pub overflow_mul-number : goal.overflow_mul-number
overflow_mul-number c =
    let fits = packed_fits c.args.marks.now c.loop-i.i (c.args.at + wide - c.loop-i.i) (omega (arith, c.loop-i-test.true)) in
    omega (arith, c.loop-i.invariant.1)

pub overflow_add-number : goal.overflow_add-number
overflow_add-number c =
    let fits = packed_fits c.args.marks.now c.loop-i.i (c.args.at + wide - c.loop-i.i) (omega (arith, c.loop-i-test.true)) in
    omega (arith, c.loop-i.invariant.1, c.bit.ensures.1)

pub loop-i-preserved : goal.loop-i-preserved
loop-i-preserved c =
    let a = c.args in (
      omega (arith, c.loop-i-test.true),
      packed_more a.marks.now a.at c.loop-i.i c.loop-i.number c.bit.result c.loop-i-test.true c.loop-i.auto.i c.loop-i.invariant.1 c.bit.ensures.0,
    )
