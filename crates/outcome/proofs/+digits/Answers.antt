use native.Mathlib.Omega.{arith}
use Rattle.outcome.proofs.Writing.{digits_one, digits_more}
use Rattle.outcome.proofs.+digits.Goals as goal

pub returns-then-n-lt10 : goal.returns-then-n-lt10
returns-then-n-lt10 t c =
    digits_one c.args.out.now c.args.at c.args.n c.digit.result (omega arith) c.requires c.digit.ensures

pub returns : goal.returns
returns t c =
    let a = c.args in
    let rest = c.digits-end in
    let last = c.digit-2 in
    digits_more a.out.now rest.new.out a.at a.n rest.result last.result (omega arith) c.requires rest.ensures last.ensures
