-- The numbers of the C interface: what `secpal_decide` returns for a report of the model.
use Rattle.std.specs.Prelude.{ℕ}
use Rattle.model.specs.Decision.{Verdict, allow, deny, refusal, Report}
use Rattle.demands.specs.Lookups.{Reached}
use Rattle.outcome.specs.declared.Report as c

-- 0 refused, 1 allow, 2 deny
abbrev pub decision_number : Verdict → ℕ
decision_number allow = 1
decision_number deny = 2
decision_number (refusal n s p) = 0

abbrev pub refusal_number : Verdict → ℕ
refusal_number allow = 0
refusal_number deny = 0
refusal_number (refusal n s p) = n

abbrev pub side_number : Verdict → ℕ
side_number allow = 0
side_number deny = 0
side_number (refusal n s p) = s

abbrev pub place_number : Verdict → ℕ
place_number allow = 0
place_number deny = 0
place_number (refusal n s p) = p

-- decision, refusal, side, place, and the counts of facts, rounds and answers
abbrev pub numbers : ℕ → ℕ → ℕ → ℕ → ℕ → ℕ → ℕ → c.Report
numbers d n s p f r a = record { decision = d; refusal = n; side = s; facts = f; rounds = r; place = p; answers = a }

abbrev pub numbers_of : Report → c.Report
numbers_of ρ =
    numbers (decision_number ρ.verdict) (refusal_number ρ.verdict) (side_number ρ.verdict) (place_number ρ.verdict) ρ.facts ρ.rounds ρ.answers

-- what `secpal_reach` returns: a refusal from the input, or no numbers at all
abbrev pub refusal_of : Reached → c.Report
refusal_of κ = numbers 0 κ.refusal κ.side κ.place 0 0 0
