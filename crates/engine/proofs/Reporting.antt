-- The numbers that go out to C: they are those of the model's report, and they fit.
use mathlib.Core.Path.{◌≡◌, refl, ap, ◌∙◌}
use mathlib.Core.List.{List, []}
use Prim.Native.Nat.{ℕ, ◌≤◌, ◌<◌, zero-le}
use native.Mathlib.Omega.{arith}
use Rattle.model.specs.Syntax.{Assertion, World, world_in, Node}
use Rattle.model.specs.Records.{key_of}
use Rattle.model.specs.Meant as meant
use Rattle.model.specs.Deciding.{counted_in}
use Rattle.model.specs.Decision.{Lent, Taken, accepted, refused_on, read_slices, Report, capacity, room, reported, decision_of, decision}
use Rattle.model.proofs.OutcomeFacts.{sorted_length, Result, over, many, fine, result, found}
use Rattle.model.proofs.DecisionFacts.{rounds_facts}
use Rattle.outcome.specs.Reported.{report_of}
use Rattle.outcome.specs.declared.Outcome.{Outcome}
use Rattle.outcome.specs.declared.Outcome.TheVariants.{Allow, Deny, Refused, TooManyFacts, TooManyAnswers}
use Rattle.outcome.specs.Numbers.{numbers_of}
use Rattle.outcome.specs.declared.Report as c

-- ---- at most 65,535 facts are reported, whatever the bytes

most_result : (W : World) (𝒜 : List Assertion) (n : Node) (k r : ℕ) (l : Lent) → k ≤ 65535 → {o : meant.Outcome} → Result W 𝒜 n k r o
    → (reported o l).facts ≤ 65535
most_result W 𝒜 n k r l h (over x) = zero-le
most_result W 𝒜 n k r l h (many x y) = omega (arith, sorted_length key_of (found W 𝒜 n k r), x)
most_result W 𝒜 n k r l h (fine x y) = omega (arith, sorted_length key_of (found W 𝒜 n k r), x)

most_of : (t : Taken) (l : Lent) → (decision_of t l).facts ≤ 65535
unfolding decision_of
most_of (accepted R) l =
    let n = R.request.node in
    let c = capacity l.fact_buffer in
    let r = room l.answer_buffer in
    most_result (world_in R) (counted_in R) n c r l (omega arith) (result (world_in R) (counted_in R) n c r)
most_of (refused_on n side p) l = zero-le

facts_most : (l : Lent) → (decision l).facts ≤ 65535
unfolding decision
facts_most l = most_of (read_slices l.slices) l

-- ---- the numbers do not depend on the buffers

same_facts : (o : Outcome) (facts answers : List ℕ) → (report_of o [] []).facts ≡ (report_of o facts answers).facts
same_facts (Allow f r a) facts answers = refl
same_facts (Deny f r) facts answers = refl
same_facts (Refused side why) facts answers = refl
same_facts TooManyFacts facts answers = refl
same_facts (TooManyAnswers f r) facts answers = refl

same_rounds : (o : Outcome) (facts answers : List ℕ) → (report_of o [] []).rounds ≡ (report_of o facts answers).rounds
same_rounds (Allow f r a) facts answers = refl
same_rounds (Deny f r) facts answers = refl
same_rounds (Refused side why) facts answers = refl
same_rounds TooManyFacts facts answers = refl
same_rounds (TooManyAnswers f r) facts answers = refl

same_numbers : (o : Outcome) (facts answers : List ℕ) → numbers_of (report_of o [] []) ≡ numbers_of (report_of o facts answers)
same_numbers (Allow f r a) facts answers = refl
same_numbers (Deny f r) facts answers = refl
same_numbers (Refused side why) facts answers = refl
same_numbers TooManyFacts facts answers = refl
same_numbers (TooManyAnswers f r) facts answers = refl

same_fact_buffer : (o : Outcome) (facts answers : List ℕ) → facts ≡ (report_of o facts answers).fact_buffer
same_fact_buffer (Allow f r a) facts answers = refl
same_fact_buffer (Deny f r) facts answers = refl
same_fact_buffer (Refused side why) facts answers = refl
same_fact_buffer TooManyFacts facts answers = refl
same_fact_buffer (TooManyAnswers f r) facts answers = refl

same_answer_buffer : (o : Outcome) (facts answers : List ℕ) → answers ≡ (report_of o facts answers).answer_buffer
same_answer_buffer (Allow f r a) facts answers = refl
same_answer_buffer (Deny f r) facts answers = refl
same_answer_buffer (Refused side why) facts answers = refl
same_answer_buffer TooManyFacts facts answers = refl
same_answer_buffer (TooManyAnswers f r) facts answers = refl

-- ---- for a call

module _ (l : Lent) (o : Outcome) (facts' answers' : List ℕ) (call : report_of o facts' answers' ≡ decision l) where
  pub facts_fit : (report_of o [] []).facts < 4294967296
  facts_fit = omega (arith, same_facts o facts' answers', ap (λ (ρ : Report). ρ.facts) call, facts_most l)

  pub rounds_fit : (report_of o [] []).rounds < 4294967296
  rounds_fit = omega (
    arith,
    same_rounds o facts' answers',
    ap (λ (ρ : Report). ρ.rounds) call,
    rounds_facts l,
    facts_most l,
  )

  pub numbers_are : {r : c.Report} → r ≡ numbers_of (report_of o [] []) → r ≡ numbers_of (decision l)
  numbers_are e = e ∙ same_numbers o facts' answers' ∙ ap numbers_of call

  pub facts_are : facts' ≡ (decision l).fact_buffer
  facts_are = same_fact_buffer o facts' answers' ∙ ap (λ (ρ : Report). ρ.fact_buffer) call

  pub answers_are : answers' ≡ (decision l).answer_buffer
  answers_are = same_answer_buffer o facts' answers' ∙ ap (λ (ρ : Report). ρ.answer_buffer) call
