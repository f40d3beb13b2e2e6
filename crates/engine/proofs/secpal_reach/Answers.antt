-- By what the policy's reader says.
use Rattle.std.proofs.Common.{sym, ap, ◌∙◌}
use Rattle.policy.proofs.PolicyFacts.{refused_got}
use Rattle.deciding.proofs.Refusing.{policy_taken}
use Rattle.model.specs.Decision.{slices}
use Rattle.model.specs.Policies.{read_policy}
use Rattle.demands.specs.Lookups.{Reached}
use Rattle.outcome.specs.Numbers.{refusal_of}
use Rattle.deciding.proofs.MarkLaws.{refused_words}
use Rattle.engine.proofs.secpal_reach.Goals as goal

pub returns-in-Err : goal.returns-in-Err
returns-in-Err c =
    let a = c.args in
    let s = slices a.policy.now a.request.now a.withdrawals.now a.hierarchy.now in
    let words = sym (refused_words s a.marks.now _ 1 _ (policy_taken s _ _ (refused_got (read_policy a.policy.now) _ _ c.in-Err.ensures))) in
    record { numbers = c.refused.ensures ∙ ap refusal_of words; marks = ap (λ (κ : Reached). κ.marks) words }
