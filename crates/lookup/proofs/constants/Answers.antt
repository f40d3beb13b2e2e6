-- The first numbers of the index that was handed out are the model's offsets, and fit 32 bits.
use Rattle.std.proofs.Common.{sym, ap, ◌∙◌, length, length-take, arith}
use Rattle.demands.specs.Lookups.{laid}
use Rattle.lookup.proofs.Laws.{nothing_laid}
use Rattle.lookup.proofs.Accepted.{constants_laid, none_refused}
use Rattle.lookup.proofs.constants.Goals as goal

pub shared_ref_as_front-lay : goal.shared_ref_as_front-lay
shared_ref_as_front-lay c = (constants_laid c.args.policy.now c.read.new.index c.in-Ok.ensures (λ i. omega (arith, c.type_inv.policy i))).few

pub lay-requires : goal.lay-requires
lay-requires c =
    let known = constants_laid c.args.policy.now c.read.new.index c.in-Ok.ensures (λ i. omega (arith, c.type_inv.policy i)) in
    (known.near, omega (arith, known.few, length-take c.read.new.index.constants c.read.new.index.constant_at))

pub returns-in-Ok : goal.returns-in-Ok
returns-in-Ok c =
    let known = constants_laid c.args.policy.now c.read.new.index c.in-Ok.ensures (λ i. omega (arith, c.type_inv.policy i)) in
    record { count = c.lay.ensures.count ∙ ap length known.front; written = c.lay.ensures.written ∙ ap (λ l. laid l c.args.offsets.now) known.front }

pub returns-in-Err : goal.returns-in-Err
returns-in-Err c =
    let none = none_refused c.args.policy.now _ _ c.in-Err.ensures in
    record { count = sym (ap length none.0); written = rw none.0 (nothing_laid c.args.offsets.now) }
