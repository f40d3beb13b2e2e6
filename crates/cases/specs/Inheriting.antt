-- Request 05: principals 0 W, 1 N, things 2 m, 3 b, 4 e; verbs 1 o (thing), 2 s (thing, thing).
use Rattle.std.specs.Prelude.{◌≡◌, List, [], ◌∷◌, ◌++◌, map, ℕ, set}
use Rattle.model.specs.Limits.{principal, thing}
use Rattle.model.specs.Decision.{allow, deny, Report}
use Rattle.model.specs.Inputs.{without_entries}
use Rattle.cases.specs.Calls.{Row, Agree, call_on, refuses, two, file, list, short, can_say, statement, says, request, works, north, counts_of}
use Rattle.cases.specs.Calls.{counts, Counts}

abbrev family : List (List ℕ) → List ℕ
family statements =
    file (list (short (principal ∷ 87 ∷ []) ∷ short (principal ∷ 78 ∷ []) ∷ short (thing ∷ 109 ∷ []) ∷ short (thing ∷ 98 ∷ []) ∷ short (thing ∷ 101 ∷ []) ∷ [])
    ++ list (short (1 ∷ thing ∷ 111 ∷ []) ∷ short (2 ∷ thing ∷ thing ∷ 115 ∷ []) ∷ [])
    ++ list statements)

-- "N o x" and "N s x y"
abbrev orders : ℕ → List ℕ
orders x = 0 ∷ north ++ 1 ∷ two x

abbrev swaps : ℕ → ℕ → List ℕ
swaps x y = 0 ∷ north ++ 2 ∷ two x ++ two y

abbrev below : ℕ → ℕ → ℕ → ℕ → List ℕ
below verb position parent child = verb ∷ position ∷ two parent ++ two child

-- W says `fact`; W is asked for `asked`
abbrev inherits : List (List ℕ) → List ℕ → List ℕ → Counts
inherits links fact asked =
    counts_of (call_on without_entries (file (list links)) (family (statement works fact [] ∷ [])) (request 0 (says works asked)) 320 8)

-- a slice of these bytes
abbrev hierarchy_call : List ℕ → Report
hierarchy_call hierarchy = call_on without_entries hierarchy (family []) (request 0 (says works (orders 2))) 0 8

abbrev pub inheriting_rows : List (Counts × Counts)
inheriting_rows =
    -- two levels in one round, at both depths
    (inherits (below 1 1 2 3 ∷ below 1 1 3 4 ∷ []) (orders 2) (orders 4), counts allow 6 2 1)
    -- not upwards
    ∷ (inherits (below 1 1 2 3 ∷ below 1 1 3 4 ∷ []) (orders 4) (orders 2), counts deny 2 1 0)
    -- inside a nested fact, whose speaker and subject stay
    ∷ (inherits (below 1 1 2 3 ∷ below 1 1 3 4 ∷ []) (can_say north 0 (orders 2)) (can_say north 0 (orders 4)), counts allow 6 2 1)
    -- two parameters at once
    ∷ (inherits (below 2 1 2 3 ∷ below 2 2 2 3 ∷ []) (swaps 2 2) (swaps 3 3), counts allow 8 2 1)
    -- each by the entries for its own position
    ∷ (inherits (below 2 1 2 3 ∷ []) (swaps 2 2) (swaps 2 3), counts deny 4 2 0)
    -- and verb
    ∷ (inherits (below 2 1 2 3 ∷ []) (orders 2) (orders 3), counts deny 2 1 0)
    -- a cycle ends, and repeated entries change nothing
    ∷ (inherits (below 1 1 2 3 ∷ below 1 1 3 2 ∷ below 1 1 2 3 ∷ []) (orders 2) (orders 3), counts allow 4 2 1)
    -- without entries
    ∷ (inherits [] (orders 2) (orders 2), counts allow 2 1 1)
    ∷ []

abbrev pub hierarchy_rows : List Row
hierarchy_rows =
    -- no bytes, version 2, a length too long, 1,025 entries, one that is not there
    (hierarchy_call [], refuses 1 4 0 0 8)
    ∷ (hierarchy_call (set without_entries 0 2), refuses 1 4 0 0 8)
    ∷ (hierarchy_call (set without_entries 4 3), refuses 2 4 1 0 8)
    ∷ (hierarchy_call (file (two 1025)), refuses 3 4 5 0 8)
    ∷ (hierarchy_call (file (two 1)), refuses 3 4 7 0 8)
    -- left over
    ∷ (hierarchy_call (file (list (below 1 1 2 3 ∷ []) ++ 0 ∷ [])), refuses 3 4 13 0 8)
    -- a verb past the verbs, also where the slice ends right after it; verb 0 with the entry cut
    ∷ (hierarchy_call (file (list (below 3 1 2 3 ∷ []))), refuses 5 4 7 0 8)
    ∷ (hierarchy_call (file (two 1 ++ 3 ∷ [])), refuses 5 4 7 0 8)
    ∷ (hierarchy_call (file (two 1 ++ 0 ∷ 1 ∷ [])), refuses 3 4 7 0 8)
    -- verb 0, position 0, a position past the arity
    ∷ (hierarchy_call (file (list (below 0 1 0 1 ∷ []))), refuses 5 4 7 0 8)
    ∷ (hierarchy_call (file (list (below 1 0 2 3 ∷ []))), refuses 5 4 7 0 8)
    ∷ (hierarchy_call (file (list (below 1 2 2 3 ∷ []))), refuses 5 4 7 0 8)
    -- a principal, a variable and today in the place of a thing, in the second entry
    ∷ (hierarchy_call (file (list (below 1 1 2 3 ∷ below 1 1 0 3 ∷ []))), refuses 5 4 13 0 8)
    ∷ (hierarchy_call (file (list (below 1 1 2 3 ∷ below 1 1 2 0x8000 ∷ []))), refuses 5 4 13 0 8)
    ∷ (hierarchy_call (file (list (below 1 1 2 3 ∷ below 1 1 0x4000 3 ∷ []))), refuses 5 4 13 0 8)
    -- parent equal to child: 11, and 5 where they do not fit
    ∷ (hierarchy_call (file (list (below 1 1 2 2 ∷ []))), refuses 11 4 7 0 8)
    ∷ (hierarchy_call (file (list (below 1 1 0 0 ∷ []))), refuses 5 4 7 0 8)
    -- after the withdrawals
    ∷ (call_on [] [] (family []) (request 0 (says works (orders 2))) 0 8, refuses 1 3 0 0 8)
    ∷ []

abbrev pub Inheriting : Type 0
Inheriting = (map (λ (r : Counts × Counts). r.0) inheriting_rows ≡ map (λ (r : Counts × Counts). r.1) inheriting_rows) × Agree hierarchy_rows
