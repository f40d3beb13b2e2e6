use Rattle.std.proofs.Common.{ap, sym, ◌∙◌, ◌-◌, ◌≤◌, length, Err, arith}
use Rattle.model.proofs.Shifts.{rest_length, rest_is}
use Rattle.slices.specs.Steps.{step_of}
use Rattle.slices.specs.declared.Refusal.{Refusal}
use Rattle.slices.proofs.ListSteps.{items_more, items_stop}
use Rattle.slices.proofs.lists.items.Goals as goal

pub returns-in-Err : goal.returns-in-Err
returns-in-Err g c =
    let bytes = c.args.bytes.now in
    let item = g.R.Reader.read c.args.reader.now in
    let said = ap item (sym (rest_is bytes c.loop.here)) ∙ sym c.item.ensures.read ∙ c.in-Err.is in
    ap (λ (r : Refusal). step_of (Err r)) c.at.ensures
    ∙ sym (items_stop item bytes c.args.count c.loop.counter c.loop.here c.in-Err.reason c.loop-test.true said) ∙ c.loop.invariant.1

pub loop-preserved : goal.loop-preserved
loop-preserved g c =
    let bytes = c.args.bytes.now in
    let item = g.R.Reader.read c.args.reader.now in
    let rest = rest_is bytes c.loop.here in
    let said = ap item (sym rest) ∙ sym c.item.ensures.read ∙ c.in-Ok.is in
    let within : c.in-Ok.n ≤ length bytes - c.loop.here = omega (arith, c.in-Ok.ensures.within, ap length rest, rest_length bytes c.loop.here) in (
      omega (arith, c.loop.invariant.0, within),
      sym (items_more item bytes c.args.count c.loop.counter c.loop.here c.in-Ok.n c.loop-test.true said) ∙ c.loop.invariant.1,
    )
