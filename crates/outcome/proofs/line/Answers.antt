-- For each outcome, what was written is its line: the laws of `Lines`.
use mathlib.Core.Path.{◌≡◌}
use lib.ListN.{length}
use Rattle.outcome.proofs.Lines.{allow_is, deny_is, facts_are, answers_are}
use Rattle.outcome.proofs.line.Goals as goal

pub returns-in-Allow : goal.returns-in-Allow
returns-in-Allow c =
    let l : length c.args.out.now ≡ 96 = c.told-out in
    let w = allow_is c.args.outcome c.in-Allow.facts c.in-Allow.rounds c.in-Allow.answers c.in-Allow.is l c.word-end.ensures c.counted.ensures in
    record { upper_bound = w.0; out_after = w.1.0; out_unchanged = w.1.1 }

pub returns-in-Deny : goal.returns-in-Deny
returns-in-Deny c =
    let l : length c.args.out.now ≡ 96 = c.told-out in
    let w = deny_is c.args.outcome c.in-Deny.facts c.in-Deny.rounds c.in-Deny.is l c.word-end-in-Deny.ensures c.counted-in-Deny.ensures in
    record { upper_bound = w.0; out_after = w.1.0; out_unchanged = w.1.1 }

pub returns-in-TooManyFacts : goal.returns-in-TooManyFacts
returns-in-TooManyFacts c =
    let l : length c.args.out.now ≡ 96 = c.told-out in
    let w = facts_are c.args.outcome c.in-TooManyFacts.is l c.refusal.ensures in
    record { upper_bound = w.0; out_after = w.1.0; out_unchanged = w.1.1 }

pub returns-in-TooManyAnswers : goal.returns-in-TooManyAnswers
returns-in-TooManyAnswers c =
    let l : length c.args.out.now ≡ 96 = c.told-out in
    let w = answers_are c.args.outcome c.in-TooManyAnswers.field-0 c.in-TooManyAnswers.field-1 c.in-TooManyAnswers.is l c.refusal-in-TooManyAnswers.ensures in
    record { upper_bound = w.0; out_after = w.1.0; out_unchanged = w.1.1 }
