-- How document 01 is read: each refusal number, and its place.
use Rattle.std.specs.Prelude.{List, [], ◌∷◌, ◌++◌, replicate, set}
use Rattle.model.specs.Limits.{unbound}
use Rattle.model.specs.Decision.{allow, refusal, report}
use Rattle.cases.specs.Calls.{Row, Agree, call, refuses, two, var₀, can_say, is_fitter, may_order, statement, says, request, works, north, otto}
use Rattle.cases.specs.Calls.{policy, i, ii, iii, P, asks, Q, ten_facts, closed, zeros}

abbrev pub refusal_rows : List Row
refusal_rows =
    -- version and length wrong
    (call (set (set P 0 3) 4 3) Q 160 8, refuses 1 1 0 160 8)
    -- a policy of one byte
    ∷ (call (1 ∷ []) Q 160 8, refuses 2 1 1 160 8)
    -- a fourth assertion counted and not there: the place where it would stand
    ∷ (call (set P 62 4) Q 160 8, refuses 3 1 114 160 8)
    -- an all-of without parts, inside a not
    ∷ (call P (1 ∷ 0 ∷ 0 ∷ 0 ∷ 7 ∷ 0 ∷ 0 ∷ 0 ∷ 0 ∷ 5 ∷ 3 ∷ 0 ∷ []) 160 8, refuses 3 2 10 160 8)
    -- a node nine deep
    ∷ (call P (request 0 (5 ∷ 5 ∷ 5 ∷ 5 ∷ 5 ∷ 5 ∷ 5 ∷ 5 ∷ asks)) 160 8, refuses 3 2 17 160 8)
    -- constant 1 alike to constant 0, before a fault in the count of verbs
    ∷ (call (set (set (set (set P 16 87) 19 107) 20 115) 37 65) Q 160 8, refuses 4 1 14 160 8)
    -- a subject of no class
    ∷ (call (set (set P 109 128) 110 8) Q 160 8, refuses 5 1 100 160 8)
    -- three constraints, and no choice of kinds from the third on
    ∷ (
      call P (request 0 (3 ∷ 3 ∷ 2 ∷ 3 ∷ two 0x8000 ++ two 0x8001 ++ 2 ∷ 1 ∷ two 0x8001 ++ two 0x8002 ++ 2 ∷ 1 ∷ two 0x8002 ++ otto)) 160 8,
      refuses 5 2 23 160 8,
    )
    -- 5 in a part, 3 in a later part
    ∷ (call P (1 ∷ 0 ∷ 0 ∷ 0 ∷ 14 ∷ 0 ∷ 0 ∷ 0 ∷ 0 ∷ 3 ∷ 2 ∷ 1 ∷ 0 ∷ 0 ∷ 0 ∷ 0 ∷ 99 ∷ 1 ∷ 7 ∷ []) 160 8, refuses 5 2 11 160 8)
    -- 6 in the policy comes before the request's 1
    ∷ (call (set (set P 109 128) 110 0) [] 160 8, refuses 6 1 100 160 8)
    -- a not that holds what is not safe by itself
    ∷ (
      call P (request 0 (3 ∷ 2 ∷ says works (is_fitter var₀) ++ 5 ∷ 6 ∷ 1 ∷ 3 ∷ 2 ∷ 2 ∷ 1 ∷ two 0x8000 ++ two 0x8001
          ++ says works (is_fitter (two 0x8001)))) 160 8,
      refuses 7 2 9 160 8,
    )
    -- an exists whose variable is not used
    ∷ (call P (request 0 (6 ∷ 1 ∷ asks)) 160 8, refuses 7 2 9 160 8)
    -- half of the verbs' count
    ∷ (call (1 ∷ 0 ∷ 0 ∷ 0 ∷ 6 ∷ 0 ∷ 1 ∷ 2 ∷ 1 ∷ 87 ∷ 0 ∷ []) Q 160 8, refuses 3 1 10 160 8)
    -- an assertion issued by a thing, and by today
    ∷ (call (policy (i ∷ ii ∷ statement (two 3) (is_fitter otto) [] ∷ [])) Q 160 8, refuses 5 1 100 160 8)
    ∷ (call (policy (i ∷ ii ∷ statement (two 0x4000) (is_fitter otto) [] ∷ [])) Q 160 8, refuses 5 1 100 160 8)
    -- a nested body fact: 6; with a thing as speaker 5; at depth 2, or four deep, 3
    ∷ (call (policy (statement works (may_order otto) (can_say north 0 (is_fitter otto) ∷ []) ∷ [])) Q 160 8, refuses 6 1 63 160 8)
    ∷ (call (policy (statement works (may_order otto) (can_say (two 3) 0 (is_fitter otto) ∷ []) ∷ [])) Q 160 8, refuses 5 1 63 160 8)
    ∷ (call (policy (statement works (may_order otto) (can_say north 2 (is_fitter otto) ∷ []) ∷ [])) Q 160 8, refuses 3 1 63 160 8)
    ∷ (
      call (policy (statement works (may_order otto) (can_say north 0 (can_say north 0 (can_say north 0 (can_say north 0 (is_fitter otto)))) ∷ []) ∷ [])) Q
          160 8,
      refuses 3 1 63 160 8,
    )
    -- a verb number past the verbs ends the reading of its item: 5 whatever follows, 3 where the item ends before it or passes the end
    ∷ (call (policy ((0 ∷ 12 ∷ 0 ∷ 0 ∷ 0 ∷ 0 ∷ 0 ∷ 0 ∷ 0 ∷ 0 ∷ 2 ∷ 3 ∷ 9 ∷ 9 ∷ []) ∷ [])) Q 160 8, refuses 5 1 63 160 8)
    ∷ (call (policy ((0 ∷ 13 ∷ 0 ∷ 0 ∷ 0 ∷ 0 ∷ 0 ∷ 0 ∷ 0 ∷ 0 ∷ 2 ∷ 3 ∷ 9 ∷ 9 ∷ []) ∷ [])) Q 160 8, refuses 3 1 63 160 8)
    ∷ (call (policy ((0 ∷ 9 ∷ 0 ∷ 0 ∷ 0 ∷ 0 ∷ 0 ∷ 0 ∷ 0 ∷ 0 ∷ 2 ∷ 3 ∷ []) ∷ [])) Q 160 8, refuses 3 1 63 160 8)
    -- a byte missing later in the same node comes before an expression with no fit
    ∷ (call P (request 0 (1 ∷ 0 ∷ 99 ∷ 0 ∷ 0 ∷ 2 ∷ 2 ∷ 0 ∷ [])) 160 8, refuses 3 2 9 160 8)
    -- constants of two kinds under operator 2, and 255 as a constant
    ∷ (call P (request 0 (2 ∷ 2 ∷ two 0 ++ two 3)) 160 8, refuses 5 2 9 160 8)
    ∷ (call P (request 0 (2 ∷ 1 ∷ two 255 ++ two 255)) 160 8, refuses 5 2 9 160 8)
    -- a nested says whose issuer is a variable of its fact
    ∷ (call P (request 0 (says var₀ (can_say var₀ 0 (is_fitter otto)))) 160 8, refuses 7 2 9 160 8)
    -- bytes left over come before 7
    ∷ (call P (request 0 (5 ∷ says works (is_fitter var₀) ++ 0 ∷ [])) 160 8, refuses 3 2 17 160 8)
    -- the day after the last
    ∷ (call P (request 36525 asks) 160 8, refuses 3 2 5 160 8)
    -- a request that ends after today
    ∷ (call P (1 ∷ 0 ∷ 0 ∷ 0 ∷ 4 ∷ 0 ∷ 0 ∷ 0 ∷ 0 ∷ []) 160 8, refuses 3 2 9 160 8)
    -- what one part of an any-of makes known, and later parts of the all-of around it
    ∷ (
      call P (request 0 (3 ∷ 3 ∷ 4 ∷ 2 ∷ says works (is_fitter var₀) ++ says works (is_fitter (two 0x8001)) ++ says works (is_fitter var₀)
          ++ says works (is_fitter (two 0x8001)))) 160 8,
      report allow 10 3 1 ten_facts (2 ∷ 2 ∷ replicate 6 unbound),
    )
    -- a variable as the issuer of a nested says
    ∷ (call P (request 0 (says var₀ (can_say north 0 (is_fitter otto)))) 160 8, report allow 10 3 1 ten_facts (0 ∷ replicate 7 unbound))
    -- assertions in another order, and some of them twice
    ∷ (call (policy (iii ∷ i ∷ ii ∷ iii ∷ i ∷ [])) Q 160 8, report allow 10 3 1 ten_facts closed)
    -- 8 and 9: 8 comes first
    ∷ (call P Q 159 0, report (refusal 8 0 0) 0 0 0 (zeros 159) [])
    -- 9 with odd buffers
    ∷ (call P Q 167 5, report (refusal 9 0 0) 10 3 0 (ten_facts ++ zeros 7) (zeros 5))
    ∷ []

abbrev pub Refusals : Type 0
Refusals = Agree refusal_rows
