use Rattle.std.proofs.Common.{rules, refl, sym, ap, ◌∙◌, ◌&&◌, ◌+◌, ◌*◌, arith}
use Rattle.std.proofs.lemmas.Iterator.{YieldsList-from_range}
use Rattle.std.proofs.lemmas.Iterator.Search.{all_from_yields_List}
use Rattle.model.specs.Bytes.{byte_at}
use Rattle.withdrawals.specs.Reading.{test_closed, tests_closed}
use Rattle.withdrawals.proofs.Steps.{closed_each}
use Rattle.withdrawals.proofs.closed.Goals as goal

pub returns-then-no_variable : goal.returns-then-no_variable
returns-then-no_variable c =
    let s = c.args.entry.now in
    let n = c.count.result in
    all_from_yields_List (λ i. test_closed s (7 + 5 * i)) _ _ _ c.all.ensures.ran
    (YieldsList-from_range 0 n n refl (omega arith)) (λ i b q k. search rules)
    ∙ closed_each s n 7 ∙ ap (λ m. tests_closed m s 7) c.count.ensures.0
    ∙ ap (λ b. b && tests_closed (byte_at s 6) s 7) (sym c.if-no_variable.true ∙ c.no_variable.ensures)
