-- The numbers are those of the model's report, and both buffers are its.
use Rattle.model.specs.Decision.{Lent, lent}
use Rattle.engine.proofs.Reporting.{facts_fit, rounds_fit, numbers_are, facts_are, answers_are}
use Rattle.engine.proofs.secpal_decide.Goals as goal

pub in_numbers-requires : goal.in_numbers-requires
in_numbers-requires c =
    let given : Lent = let a = c.args in lent a.policy.now a.request.now a.withdrawals.now a.hierarchy.now a.facts.now a.answers.now in
    let d = c.decide in
    let l = given in
    (facts_fit l d.result _ _ d.ensures, rounds_fit l d.result _ _ d.ensures)

pub returns : goal.returns
returns c =
    let given : Lent = let a = c.args in lent a.policy.now a.request.now a.withdrawals.now a.hierarchy.now a.facts.now a.answers.now in
    let d = c.decide in
    let l = given in (
      numbers_are l d.result _ _ d.ensures c.in_numbers.ensures,
      facts_are l d.result _ _ d.ensures,
      answers_are l d.result _ _ d.ensures,
    )
