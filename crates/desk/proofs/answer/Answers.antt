-- The line is that of the outcome's report, and the contract of `decide` says that this is the model's.
use Rattle.std.proofs.Common.{◌≡◌, ℕ, List, [], sym, ap, ◌∙◌, replicate}
use Rattle.model.specs.Decision.{Lent, lent, decision}
use Rattle.model.specs.Inputs.{without_entries}
use Rattle.demands.specs.Demands.{Call}
use Rattle.outcome.specs.declared.Outcome.{Outcome}
use Rattle.outcome.specs.Reported.{report_of}
use Rattle.outcome.specs.Line.{line_of}
use Rattle.outcome.proofs.Lines.{any_buffers}
use Rattle.desk.proofs.answer.Goals as goal

-- the line of a call's outcome is that of the model's report
line_of_call : (l : Lent) (o : Outcome) (f a : List ℕ) → Call l (report_of o f a) → line_of (report_of o [] []) ≡ line_of (decision l)
line_of_call l o f a e = sym (any_buffers o f a) ∙ ap line_of e

pub returns-clause-text_after : goal.returns-clause-text_after
returns-clause-text_after c =
    let d = c.decide-o in
    c.line.ensures.out_after ∙ line_of_call (lent _ _ without_entries without_entries (replicate 65536 0) (replicate 1024 0)) d.result _ _ d.ensures
