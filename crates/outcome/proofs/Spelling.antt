-- A report tells its outcome: the outcome can be read off it again.
use mathlib.Core.Path.{◌≡◌, refl, sym, ap, ◌∙◌}
use Rattle.std.specs.Prelude.{ℕ, List, ◌==◌, if◌then◌else◌}
use Rattle.slices.specs.Steps.{number_of}
use Rattle.slices.specs.declared.sides.Side.{Side}
use Rattle.slices.specs.declared.sides.Side.TheVariants as sides
use Rattle.slices.specs.declared.Reason.{Reason}
use Rattle.slices.specs.declared.Reason.TheVariants as reasons
use Rattle.model.specs.Decision.{Report, Verdict, allow, deny, refusal}
use Rattle.outcome.specs.declared.Outcome.{Outcome}
use Rattle.outcome.specs.declared.Outcome.TheVariants.{Allow, Deny, Refused, TooManyFacts, TooManyAnswers}
use Rattle.outcome.specs.Reported as Q
use Rattle.outcome.specs.Reported.{report_of}

-- the side and the reason that have these numbers
abbrev side_at : ℕ → Side
side_at s = if s == 1 then sides.Policy else if s == 2 then sides.Request else if s == 3 then sides.Withdrawals else sides.Hierarchy

abbrev reason_at : ℕ → Reason
reason_at n =
    if n == 1 then reasons.Version else if n == 2 then reasons.Length else if n == 3 then reasons.Form else if n == 4 then reasons.Repeated
    else if n == 5 then reasons.Unfit else if n == 6 then reasons.UnsafeAssertion else if n == 7 then reasons.UnsafeRequest
    else if n == 10 then reasons.Variable else reasons.OwnPart

-- a number from 1 on has its reason
reason_back : (r : Reason) → reason_at (number_of r) ≡ r
reason_back reasons.Version = refl
reason_back reasons.Length = refl
reason_back reasons.Form = refl
reason_back reasons.Repeated = refl
reason_back reasons.Unfit = refl
reason_back reasons.UnsafeAssertion = refl
reason_back reasons.UnsafeRequest = refl
reason_back reasons.Variable = refl
reason_back reasons.OwnPart = refl

abbrev refused_at : Side → Reason → ℕ → Outcome
refused_at side reason place = Refused side (record { reason = reason; place = place })

-- sides count from 1: 0 is that of a refusal that is of no slice
abbrev told : Verdict → ℕ → ℕ → ℕ → Outcome
told allow f r a = Allow f r a
told deny f r a = Deny f r
told (refusal n s p) f r a = if s == 0 then (if n == 8 then TooManyFacts else TooManyAnswers f r) else refused_at (side_at s) (reason_at n) p

abbrev outcome_of : Report → Outcome
outcome_of ρ = told ρ.verdict ρ.facts ρ.rounds ρ.answers

read_off : (o : Outcome) (facts answers : List ℕ) → outcome_of (report_of o facts answers) ≡ o
read_off (Allow f r a) facts answers = refl
read_off (Deny f r) facts answers = refl
read_off (Refused sides.Policy why) facts answers = ap (λ (r : Reason). refused_at sides.Policy r why.place) (reason_back why.reason)
read_off (Refused sides.Request why) facts answers = ap (λ (r : Reason). refused_at sides.Request r why.place) (reason_back why.reason)
read_off (Refused sides.Withdrawals why) facts answers = ap (λ (r : Reason). refused_at sides.Withdrawals r why.place) (reason_back why.reason)
read_off (Refused sides.Hierarchy why) facts answers = ap (λ (r : Reason). refused_at sides.Hierarchy r why.place) (reason_back why.reason)
read_off TooManyFacts facts answers = refl
read_off (TooManyAnswers f r) facts answers = refl

pub one_spelling : Q.OneSpelling
one_spelling o o' facts answers facts' answers' e = sym (read_off o facts answers) ∙ ap outcome_of e ∙ read_off o' facts' answers'
