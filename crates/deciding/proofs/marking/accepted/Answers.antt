-- By what the readers of the slices say: the marks of the reach, or the refusal, and the marks as they were.
use Rattle.std.proofs.Common.{◌≡◌, refl, sym, ap, ◌∙◌, rules}
use Rattle.model.specs.Policies.{policy_of}
use Rattle.model.specs.Deciding.{read}
use Rattle.model.specs.Decision.{slices}
use Rattle.demands.specs.Lookups.{Reached}
use Rattle.outcome.specs.Numbers.{numbers, refusal_of}
use Rattle.inputs.proofs.Handing.{hands, refuses, inputs}
use Rattle.deciding.proofs.MarkLaws.{accepted_words, refused_words}
use Rattle.deciding.proofs.marking.accepted.Goals as goal

pub mark_reach-requires : goal.mark_reach-requires
mark_reach-requires c =
    let a = c.args in
    let d = hands a.policy.now a.request.now a.withdrawals.now a.hierarchy.now a.index.now c.requires _ c.in-Ok.ensures.meant _ refl
    c.in-Ok.ensures.short in
    (d.0, d.1, d.2, d.4.takes, d.4.withdraws)

pub returns-in-Ok : goal.returns-in-Ok
returns-in-Ok c =
    let a = c.args in
    let d = hands a.policy.now a.request.now a.withdrawals.now a.hierarchy.now a.index.now c.requires _ c.in-Ok.ensures.meant _ refl
    c.in-Ok.ensures.short in
    let s = slices a.policy.now a.request.now a.withdrawals.now a.hierarchy.now in
    let words = sym (accepted_words s (read (policy_of d.0) d.1 d.2 d.3) a.marks.now (inputs d.4)) in
    let none : c.default.result ≡ numbers 0 0 0 0 0 0 0 = search rules in
    record {
      numbers = none ∙ ap refusal_of words;
      marks = c.mark_reach.ensures d.0 d.1 d.2 d.3 d.4.takes d.4.withdraws ∙ ap (λ (κ : Reached). κ.marks) words;
    }

pub returns-in-Err : goal.returns-in-Err
returns-in-Err c =
    let a = c.args in
    let s = slices a.policy.now a.request.now a.withdrawals.now a.hierarchy.now in
    let refusal = refuses a.policy.now a.request.now a.withdrawals.now a.hierarchy.now a.index.now c.requires _ c.in-Err.ensures.meant _ refl in
    let words = sym (refused_words s a.marks.now _ _ _ refusal) in
    record {
      numbers = c.refused.ensures ∙ ap refusal_of words;
      marks = ap (λ (κ : Reached). κ.marks) words;
    }
