-- By what the policy's reader says.
use Rattle.deciding.proofs.Refusing.{policy_call}
use Rattle.model.specs.Decision.{lent}
use Rattle.engine.proofs.decide.Goals as goal

pub returns-in-Err : goal.returns-in-Err
returns-in-Err c =
    let a = c.args in
    policy_call (lent a.policy.now a.request.now a.withdrawals.now a.hierarchy.now a.facts.now a.answers.now) _ _ c.in-Err.ensures
