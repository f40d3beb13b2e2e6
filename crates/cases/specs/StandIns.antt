-- Request 06: "Stand-ins may order but not vouch." The same policy in versions 1 and 2.
use Rattle.std.specs.Prelude.{List, [], ◌∷◌, ◌++◌, ℕ, set}
use Rattle.model.specs.Decision.{allow, deny, refusal}
use Rattle.model.specs.Inputs.{without_entries}
use Rattle.cases.specs.Calls.{call_with, call, can_act_as, is_fitter, may_order, statement, says, request, works, north, otto, policy, i, ii, iii, P}
use Rattle.cases.specs.Calls.{asks, Q, counts_of, counts, AgreeInCounts, Counts}

abbrev in_both : List (List ℕ) → List ℕ → Counts → Counts → List (Counts × Counts)
in_both statements asked first second =
    (counts_of (call (policy statements) asked 320 8), first) ∷ (counts_of (call (set (policy statements) 0 2) asked 320 8), second) ∷ []

abbrev otto_acts_as_north : List ℕ
otto_acts_as_north = statement works (can_act_as otto north) []

abbrev pub stand_in_rows : List (Counts × Counts)
stand_in_rows =
    -- a stand-in may order: what North may, Otto may
    in_both (otto_acts_as_north ∷ statement works (may_order north) [] ∷ []) Q (counts allow 6 2 1) (counts allow 6 2 1)
    -- but not vouch: Works listens to North, and in version 2 not to Otto, who is out of reach
    ++ in_both (i ∷ ii ∷ otto_acts_as_north ∷ statement otto (is_fitter otto) [] ∷ []) Q (counts allow 18 4 1) (counts deny 8 1 0)
    -- nor where he is in the reach, as one who is asked
    ++ in_both (i ∷ ii ∷ otto_acts_as_north ∷ statement otto (is_fitter otto) [] ∷ []) (request 0 (3 ∷ 2 ∷ asks ++ says otto (is_fitter otto)))
    (counts allow 18 4 1) (counts deny 10 1 0)
    -- can act as is carried on: Otto can act as Works
    ++ in_both (otto_acts_as_north ∷ statement works (can_act_as north works) [] ∷ statement works (may_order works) [] ∷ []) Q
    (counts allow 12 3 1) (counts allow 12 3 1)
    -- where nobody acts as another the versions give the same
    ++ in_both (i ∷ ii ∷ iii ∷ []) Q (counts allow 10 3 1) (counts allow 10 3 1)
    -- "Refusal 1 on side 1 now means absent or neither 1 nor 2"; requests and withdrawals keep their version
    ++ (counts_of (call (set P 0 3) Q 160 8), counts (refusal 1 1 0) 0 0 0)
    ∷ (counts_of (call (set P 0 0) Q 160 8), counts (refusal 1 1 0) 0 0 0)
    ∷ (counts_of (call [] Q 160 8), counts (refusal 1 1 0) 0 0 0)
    ∷ (counts_of (call (set P 0 2) (set Q 0 2) 160 8), counts (refusal 1 2 0) 0 0 0)
    ∷ (counts_of (call_with (set without_entries 0 2) (set P 0 2) Q 160 8), counts (refusal 1 3 0) 0 0 0)
    ∷ []

abbrev pub StandIns : Type 0
StandIns = AgreeInCounts stand_in_rows
