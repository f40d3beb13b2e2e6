-- The lines of some of the paper's cases, by computation.
use mathlib.Core.Path.{◌≡◌, refl}
use mathlib.Core.List.{[]}
use Rattle.model.specs.Decision.{report, allow, deny, refusal}
use Rattle.outcome.specs.Line.{text, decimal_by, decimal, decision_line, side_word, refusal_line, line_by, line_of}

pub belt : line_of (report allow 10 3 1 [] []) ≡ text "allow facts 10 rounds 3 answers 1\n"
unfolding decimal_by decimal decision_line line_by line_of
belt = refl

pub denied : line_of (report deny 6 1 0 [] []) ≡ text "deny facts 6 rounds 1 answers 0\n"
unfolding decimal_by decimal decision_line line_by line_of
denied = refl

pub full : line_of (report (refusal 8 0 0) 0 0 0 [] []) ≡ text "refused 8 none 0\n"
unfolding decimal_by decimal side_word refusal_line line_by line_of
full = refl

pub unsafe : line_of (report (refusal 7 2 9) 0 0 0 [] []) ≡ text "refused 7 request 9\n"
unfolding decimal_by decimal side_word refusal_line line_by line_of
unsafe = refl

pub withdrawn : line_of (report (refusal 10 3 7) 0 0 0 [] []) ≡ text "refused 10 withdrawals 7\n"
unfolding decimal_by decimal side_word refusal_line line_by line_of
withdrawn = refl

pub circular : line_of (report (refusal 11 4 7) 0 0 0 [] []) ≡ text "refused 11 hierarchy 7\n"
unfolding decimal_by decimal side_word refusal_line line_by line_of
circular = refl
