-- "When an answer is an enum, the promises use a definition that gives this paper's number and values for each case of the enum."
use Rattle.std.specs.Prelude.{◌≡◌, ℕ, List, Option, Some, None}
use Rattle.model.specs.Decision.{Report, report, allow, deny, refusal}
use Rattle.slices.specs.Steps.{number_of}
use Rattle.slices.specs.Sides.{side_of}
use Rattle.slices.specs.declared.sides.Side.{Side}
use Rattle.outcome.specs.declared.Outcome.{Outcome}
use Rattle.outcome.specs.declared.Outcome.TheVariants.{Allow, Deny, Refused, TooManyFacts, TooManyAnswers}

-- the number of a side, 0 where there is none
abbrev pub side_number : Option Side → ℕ
side_number (Some side) = side_of side
side_number None = 0

-- the report that an outcome stands for, with both buffers afterwards
abbrev pub report_of : Outcome → List ℕ → List ℕ → Report
report_of (Allow f r a) facts answers = report allow f r a facts answers
report_of (Deny f r) facts answers = report deny f r 0 facts answers
report_of (Refused side why) facts answers = report (refusal (number_of why.reason) (side_of side) why.place) 0 0 0 facts answers
report_of TooManyFacts facts answers = report (refusal 8 0 0) 0 0 0 facts answers
report_of (TooManyAnswers f r) facts answers = report (refusal 9 0 0) f r 0 facts answers

-- a report is that of one outcome only: who matches on an outcome meets each report in one case (`proofs/Spelling`)
abbrev pub OneSpelling : Type 0
OneSpelling = (o o' : Outcome) (facts answers facts' answers' : List ℕ) → report_of o facts answers ≡ report_of o' facts' answers' → o ≡ o'
