-- Document 01's belt cases, its four wrong turnings, and demand 3 on the belt.
use Rattle.std.specs.Prelude.{List, [], ◌∷◌, ◌++◌, ℕ, replicate}
use Rattle.model.specs.Limits.{principal, day, unlimited, unbound}
use Rattle.model.specs.Syntax.{Policy, Read}
use Rattle.model.specs.Decision.{slices, allow, deny, refusal, report}
use Rattle.model.specs.Inputs.{ReadAs, Inputs, without_entries}
use Rattle.theorems.specs.Theorems.{Longer, IssuedOutside, Positive, IsDecision}
use Rattle.cases.specs.Calls.{Row, Agree, lent, call, refuses, two, file, list, short, var₀, can_say, can_act_as, is_fitter, may_order, statement}
use Rattle.cases.specs.Calls.{says, request, works, north, otto, policy, i, ii, iii, P, asks, Q, who_may, ten_facts, six_facts, closed, zeros}
use Rattle.cases.specs.Calls.{counts_of, counts, AgreeInCounts, Counts}

-- ---- operator 5, "left is no later than right's calendar date one year after": today against a day

abbrev since : ℕ → List ℕ
since right = file (list (short (principal ∷ 87 ∷ []) ∷ short (day ∷ 0 ∷ 0 ∷ two right) ∷ []) ++ list [] ++ list [])

abbrev in_the_year : ℕ → List ℕ
in_the_year today = request today (2 ∷ 5 ∷ two 0x4000 ++ two 1)

abbrev pub belt_rows : List Row
belt_rows =
    -- "P, Q: 6 can-say facts and 2 by North, then 1, then 1: 10 facts, 3 rounds."
    (call P Q 160 8, report allow 10 3 1 ten_facts closed)
    -- "Capacity 10 decides, 9 gives 8"; and so does 0
    ∷ (call P Q 159 8, report (refusal 8 0 0) 0 0 0 (zeros 159) (lent 8))
    ∷ (call P Q 15 8, report (refusal 8 0 0) 0 0 0 (zeros 15) (lent 8))
    -- "P plus 'Otto says Otto may-order encoder': the same bytes."
    ∷ (call (policy (i ∷ ii ∷ iii ∷ statement otto (may_order otto) [] ∷ [])) Q 160 8, report allow 10 3 1 ten_facts closed)
    -- "P without (iii): deny, 6 facts, 1 round."
    ∷ (call (policy (i ∷ ii ∷ [])) Q 160 8, report deny 6 1 0 (six_facts ++ zeros 64) (zeros 8))
    -- "No assertions: Q denied, 0 facts; not Q allowed, one answer."
    ∷ (call (policy []) Q 160 8, report deny 0 0 0 (zeros 160) (zeros 8))
    ∷ (call (policy []) (request 0 (5 ∷ asks)) 160 8, report allow 0 0 1 (zeros 160) closed)
    -- "Works says v0 may-order encoder, v0 free: one answer, v0 = 2; answer buffer of 7 bytes: 9."
    ∷ (call P who_may 160 8, report allow 10 3 1 ten_facts (2 ∷ replicate 7 unbound))
    ∷ (call P who_may 160 7, report (refusal 9 0 0) 10 3 0 ten_facts (zeros 7))
    -- "Right 0 (1 January 2000) admits left 366."
    ∷ (call (since 0) (in_the_year 366) 0 8, report allow 0 0 1 [] closed)
    ∷ (call (since 0) (in_the_year 367) 0 8, report deny 0 0 0 [] (zeros 8))
    -- "differences of 0 and below still hold"
    ∷ (call (since 100) (in_the_year 100) 0 8, report allow 0 0 1 [] closed)
    ∷ (call (since 100) (in_the_year 99) 0 8, report allow 0 0 1 [] closed)
    -- 28 February 2000 to 28 February 2001
    ∷ (call (since 58) (in_the_year 424) 0 8, report allow 0 0 1 [] closed)
    ∷ (call (since 58) (in_the_year 425) 0 8, report deny 0 0 0 [] (zeros 8))
    -- "29 February goes to 28 February."
    ∷ (call (since 59) (in_the_year 424) 0 8, report allow 0 0 1 [] closed)
    ∷ (call (since 59) (in_the_year 425) 0 8, report deny 0 0 0 [] (zeros 8))
    -- 1 March 2000 to 1 March 2001
    ∷ (call (since 60) (in_the_year 425) 0 8, report allow 0 0 1 [] closed)
    ∷ (call (since 60) (in_the_year 426) 0 8, report deny 0 0 0 [] (zeros 8))
    -- 1 March 2003 to 1 March 2004, with a 29 February between
    ∷ (call (since 1155) (in_the_year 1521) 0 8, report allow 0 0 1 [] closed)
    ∷ (call (since 1155) (in_the_year 1522) 0 8, report deny 0 0 0 [] (zeros 8))
    -- "Head 'v0 is-fitter' with no body: 6. A lone not over v0: 7."
    ∷ (call (policy (i ∷ ii ∷ statement works (is_fitter var₀) [] ∷ [])) Q 160 8, refuses 6 1 100 160 8)
    ∷ (call P (request 0 (5 ∷ says works (is_fitter var₀))) 160 8, refuses 7 2 9 160 8)
    ∷ []

abbrev pub Belt : Type 0
Belt = Agree belt_rows

-- ---- "Wrong turnings": a case for each, in which it would answer otherwise

abbrev pub turning_rows : List (Counts × Counts)
turning_rows =
    -- "Letting a depth 0 quote lean on another's quote: North's contractor then vouches to Works."
    (
      counts_of (call (policy (i ∷ ii ∷ statement north (can_say otto unlimited (is_fitter var₀)) [] ∷ statement otto (is_fitter otto) [] ∷ [])) Q 320 8),
      counts deny 15 2 0,
    )
    -- "A reach without can-act-as subjects: Otto acting as North can vouch."
    ∷ (counts_of (call (policy (i ∷ ii ∷ statement works (can_act_as otto north) [] ∷ statement otto (is_fitter otto) [] ∷ [])) Q 320 8), counts allow 18 4 1)
    -- "Applying can say by issuer name alone, without matching the fact."
    ∷ (counts_of (call (policy (statement works (can_say north 0 (may_order otto)) [] ∷ iii ∷ [])) Q 160 8), counts deny 4 1 0)
    -- "Counting a variable as known after an any-of when only one part makes it known."
    ∷ (counts_of (call P (request 0 (4 ∷ 2 ∷ says works (is_fitter var₀) ++ asks)) 160 8), counts (refusal 7 2 9) 0 0 0)
    ∷ []

abbrev pub Turnings : Type 0
Turnings = AgreeInCounts turning_rows

-- ---- demand 3 on the belt: "P plus 'Otto says Otto may-order encoder'" is a longer policy whose added issuer is outside the reach

abbrev added : List ℕ
added = statement otto (may_order otto) []

abbrev pub longer_p : List ℕ
longer_p = policy (i ∷ ii ∷ iii ∷ added ∷ [])

-- P, the longer policy and Q meet the hypotheses of both halves
pub record BeltPair : Type 0 where
  pub shorter : Read
  pub longer : Policy
  pub inputs : Inputs (slices P Q without_entries without_entries) shorter
  pub longer_read : ReadAs longer_p longer
  pub outside : Longer (IssuedOutside shorter) shorter.policy longer
  pub positive : Positive shorter.request.node
  pub shorter_decided : IsDecision (call P Q 160 8).verdict
  pub longer_decided : IsDecision (call longer_p Q 160 8).verdict
