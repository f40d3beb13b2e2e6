-- Request 02: the belt policy with serials 7, 8 and 7.
use Rattle.std.specs.Prelude.{List, [], ◌∷◌, ◌++◌, ℕ}
use Rattle.model.specs.Decision.{allow, deny, Report, report}
use Rattle.cases.specs.Calls.{Row, Agree, call_with, refuses, two, var₀, can_say, is_fitter, may_order, numbered, says, entry, withdrawals, request}
use Rattle.cases.specs.Calls.{works, north, otto, policy, Q, ten_facts, six_facts, closed, zeros}

abbrev pub serial_p : List ℕ
serial_p = policy (numbered 7 works (can_say north 0 (is_fitter var₀)) [] ∷ numbered 8 works (may_order var₀) (is_fitter var₀ ∷ [])
    ∷ numbered 7 north (is_fitter otto) [] ∷ [])

-- a constraint that holds, today being at most today, and one that does not
abbrev from_today : List ℕ
from_today = 3 ∷ two 0x4000 ++ two 0x4000

abbrev works_is_north : List ℕ
works_is_north = 1 ∷ works ++ north

abbrev withdrawal_call : List (List ℕ) → Report
withdrawal_call entries = call_with (withdrawals entries) serial_p Q 160 8

abbrev pub withdrawal_rows : List Row
withdrawal_rows =
    -- North's statement withdrawn: "P without (iii): deny, 6 facts, 1 round."
    (withdrawal_call (entry north 7 [] ∷ []), report deny 6 1 0 (six_facts ++ zeros 64) (zeros 8))
    ∷ (withdrawal_call (entry north 7 (from_today ∷ []) ∷ []), report deny 6 1 0 (six_facts ++ zeros 64) (zeros 8))
    -- no entries; one for a serial that North has not; one whose constraints do not hold
    ∷ (withdrawal_call [], report allow 10 3 1 ten_facts closed)
    ∷ (withdrawal_call (entry north 8 [] ∷ []), report allow 10 3 1 ten_facts closed)
    ∷ (withdrawal_call (entry north 7 (from_today ∷ works_is_north ∷ []) ∷ []), report allow 10 3 1 ten_facts closed)
    -- one whose constraints hold suffices
    ∷ (
      withdrawal_call (entry north 7 (works_is_north ∷ []) ∷ entry north 7 (from_today ∷ []) ∷ []),
      report deny 6 1 0 (six_facts ++ zeros 64) (zeros 8),
    )
    -- what Works says of North withdrawn: North is out of reach, and no fact is derived
    ∷ (withdrawal_call (entry works 7 [] ∷ []), report deny 0 0 0 (zeros 160) (zeros 8))
    -- version absent, length wrong, a count of one and no entry, bytes left over
    ∷ (call_with [] serial_p Q 160 8, refuses 1 3 0 160 8)
    ∷ (call_with (1 ∷ 0 ∷ 0 ∷ 0 ∷ 3 ∷ 0 ∷ 0 ∷ []) serial_p Q 160 8, refuses 2 3 1 160 8)
    ∷ (call_with (1 ∷ 0 ∷ 0 ∷ 0 ∷ 2 ∷ 1 ∷ 1 ∷ []) serial_p Q 160 8, refuses 3 3 5 160 8)
    ∷ (call_with (1 ∷ 0 ∷ 0 ∷ 0 ∷ 2 ∷ 0 ∷ 1 ∷ []) serial_p Q 160 8, refuses 3 3 7 160 8)
    ∷ (call_with (1 ∷ 0 ∷ 0 ∷ 0 ∷ 3 ∷ 0 ∷ 0 ∷ 0 ∷ []) serial_p Q 160 8, refuses 3 3 7 160 8)
    -- five constraints; an operator with no meaning, though the issuer is a thing
    ∷ (
      withdrawal_call (entry north 7 [] ∷ entry north 7 (from_today ∷ from_today ∷ from_today ∷ from_today ∷ from_today ∷ []) ∷ []),
      refuses 3 3 14 160 8,
    )
    ∷ (withdrawal_call (entry (two 3) 7 ((6 ∷ works ++ north) ∷ []) ∷ []), refuses 3 3 7 160 8)
    -- a thing, today and a number past the constants as issuer
    ∷ (withdrawal_call (entry (two 3) 7 [] ∷ []), refuses 5 3 7 160 8)
    ∷ (withdrawal_call (entry (two 0x4000) 7 [] ∷ []), refuses 5 3 7 160 8)
    ∷ (withdrawal_call (entry (two 4) 7 [] ∷ []), refuses 5 3 7 160 8)
    -- a variable as issuer: 10, and 5 where it is compared with a day
    ∷ (withdrawal_call (entry var₀ 7 ((1 ∷ var₀ ++ var₀) ∷ []) ∷ []), refuses 10 3 7 160 8)
    ∷ (withdrawal_call (entry var₀ 7 ((3 ∷ var₀ ++ two 0x4000) ∷ []) ∷ []), refuses 5 3 7 160 8)
    -- a variable in a constraint, before a fault of the next entry
    ∷ (withdrawal_call (entry north 7 ((1 ∷ var₀ ++ var₀) ∷ []) ∷ entry (two 3) 7 [] ∷ []), refuses 10 3 7 160 8)
    -- after the request: its 7 comes first
    ∷ (call_with [] serial_p (request 0 (5 ∷ says works (is_fitter var₀))) 160 8, refuses 7 2 9 160 8)
    ∷ []

abbrev pub Withdrawing : Type 0
Withdrawing = Agree withdrawal_rows
