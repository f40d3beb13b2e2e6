-- Rows of calls with what they must report; the bytes of slices from their parts; document 01's belt policy and request.
use Rattle.std.specs.Prelude.{◌≡◌, List, [], ◌∷◌, ◌++◌, map, ℕ, suc, ◌/◌, ◌%◌, length, replicate}
use Rattle.model.specs.Limits.{version, principal, thing, unbound}
use Rattle.model.specs.Lists.{each}
use Rattle.model.specs.Decision as given
use Rattle.model.specs.Decision.{Verdict, refusal, Report, report, decision}
use Rattle.model.specs.Inputs.{without_entries}

-- ---- a row: a call, and what it must report

abbrev pub Row : Type 0
Row = Report × Report

abbrev pub Agree : List Row → Type 0
Agree rows = map (λ (r : Row). r.0) rows ≡ map (λ (r : Row). r.1) rows

-- both buffers are lent with every byte 165
abbrev pub lent : ℕ → List ℕ
lent n = replicate n 165

abbrev pub call_on : List ℕ → List ℕ → List ℕ → List ℕ → ℕ → ℕ → Report
call_on withdrawals hierarchy policy request facts answers = decision (given.lent policy request withdrawals hierarchy (lent facts) (lent answers))

abbrev pub call_with : List ℕ → List ℕ → List ℕ → ℕ → ℕ → Report
call_with withdrawals = call_on withdrawals without_entries

-- document 01's cases: "document 01's program lends such slices without entries"
abbrev pub call : List ℕ → List ℕ → ℕ → ℕ → Report
call = call_with without_entries

abbrev pub refuses : ℕ → ℕ → ℕ → ℕ → ℕ → Report
refuses n side place facts answers = report (refusal n side place) 0 0 0 (lent facts) (lent answers)

-- ---- bytes from their parts

abbrev pub two : ℕ → List ℕ
two n = n / 256 ∷ n % 256 ∷ []

abbrev pub file : List ℕ → List ℕ
file bytes = version ∷ 0 ∷ 0 ∷ two (length bytes) ++ bytes

abbrev pub list : List (List ℕ) → List ℕ
list items = two (length items) ++ each items (λ i. i)

abbrev pub short : List ℕ → List ℕ
short bytes = length bytes ∷ bytes

abbrev pub var₀ : List ℕ
var₀ = two 0x8000

-- "v can say (depth k) f": one level more around a fact
abbrev pub can_say : List ℕ → ℕ → List ℕ → List ℕ
can_say v k [] = []
can_say v k (nest ∷ f) = suc nest ∷ v ++ k ∷ f

abbrev pub can_act_as : List ℕ → List ℕ → List ℕ
can_act_as a b = 0 ∷ a ++ 0 ∷ b

abbrev pub is_fitter : List ℕ → List ℕ
is_fitter v = 0 ∷ v ++ 1 ∷ []

abbrev pub may_order : List ℕ → List ℕ
may_order v = 0 ∷ v ++ 2 ∷ two 3

abbrev pub numbered : ℕ → List ℕ → List ℕ → List (List ℕ) → List ℕ
numbered serial issuer head body =
    let bytes = 0 ∷ 0 ∷ two serial ++ issuer ++ head ++ (length body ∷ each body (λ f. f)) ++ 0 ∷ [] in
    two (length bytes) ++ bytes

abbrev pub statement : List ℕ → List ℕ → List (List ℕ) → List ℕ
statement = numbered 0

abbrev pub says : List ℕ → List ℕ → List ℕ
says issuer fact = 1 ∷ issuer ++ fact

-- an entry of the withdrawals, and the slice
abbrev pub entry : List ℕ → ℕ → List (List ℕ) → List ℕ
entry issuer serial tests = issuer ++ 0 ∷ 0 ∷ two serial ++ length tests ∷ each tests (λ t. t)

abbrev pub withdrawals : List (List ℕ) → List ℕ
withdrawals entries = file (list entries)

abbrev pub request : ℕ → List ℕ → List ℕ
request today node = file (0 ∷ 0 ∷ two today ++ node)

-- ---- "Principals 0 Works, 1 North, 2 Otto; thing 3 encoder; verbs 1 is-fitter (arity 0), 2 may-order (thing)."

abbrev pub works : List ℕ
works = two 0

abbrev pub north : List ℕ
north = two 1

abbrev pub otto : List ℕ
otto = two 2

abbrev pub policy : List (List ℕ) → List ℕ
policy statements =
    file (list (short (principal ∷ 87 ∷ 111 ∷ 114 ∷ 107 ∷ 115 ∷ [])
    ∷ short (principal ∷ 78 ∷ 111 ∷ 114 ∷ 116 ∷ 104 ∷ [])
    ∷ short (principal ∷ 79 ∷ 116 ∷ 116 ∷ 111 ∷ [])
    ∷ short (thing ∷ 101 ∷ 110 ∷ 99 ∷ 111 ∷ 100 ∷ 101 ∷ 114 ∷ [])
    ∷ [])
    ++ list (short (0 ∷ 105 ∷ 115 ∷ 45 ∷ 102 ∷ 105 ∷ 116 ∷ 116 ∷ 101 ∷ 114 ∷ [])
    ∷ short (1 ∷ thing ∷ 109 ∷ 97 ∷ 121 ∷ 45 ∷ 111 ∷ 114 ∷ 100 ∷ 101 ∷ 114 ∷ [])
    ∷ [])
    ++ list statements)

-- "(i) Works says North can say, depth 0, v0 is-fitter; (ii) Works says v0 may-order encoder if v0 is-fitter; (iii) North says Otto is-fitter."
abbrev pub i : List ℕ
i = statement works (can_say north 0 (is_fitter var₀)) []

abbrev pub ii : List ℕ
ii = statement works (may_order var₀) (is_fitter var₀ ∷ [])

abbrev pub iii : List ℕ
iii = statement north (is_fitter otto) []

abbrev pub P : List ℕ
P = policy (i ∷ ii ∷ iii ∷ [])

-- "Works says Otto may-order encoder."
abbrev pub asks : List ℕ
asks = says works (may_order otto)

abbrev pub Q : List ℕ
Q = request 0 asks

-- "Works says v0 may-order encoder, v0 free"
abbrev pub who_may : List ℕ
who_may = request 0 (says works (may_order var₀))

-- ---- what stands in the buffers

-- round, issuer, depth and "North can say (depth 0) s is-fitter"
abbrev pub quote : ℕ → ℕ → ℕ → ℕ → List ℕ
quote r a d s = 0 ∷ r ∷ a ∷ d ∷ 1 ∷ 1 ∷ 0 ∷ 0 ∷ 0 ∷ 0 ∷ 0 ∷ s ∷ 1 ∷ 0 ∷ 0 ∷ 0 ∷ []

-- round, issuer, depth and "Otto v p"
abbrev pub plain : ℕ → ℕ → ℕ → ℕ → ℕ → List ℕ
plain r a d v p = 0 ∷ r ∷ a ∷ d ∷ 0 ∷ 0 ∷ 0 ∷ 0 ∷ 0 ∷ 0 ∷ 0 ∷ 2 ∷ v ∷ p ∷ 0 ∷ 0 ∷ []

abbrev pub ten_facts : List ℕ
ten_facts =
    quote 1 0 0 0 ++ quote 1 0 0 1 ++ quote 1 0 0 2 ++ plain 2 0 1 1 0 ++ plain 3 0 1 2 3
    ++ quote 1 0 1 0 ++ quote 1 0 1 1 ++ quote 1 0 1 2 ++ plain 1 1 0 1 0 ++ plain 1 1 1 1 0

abbrev pub six_facts : List ℕ
six_facts = quote 1 0 0 0 ++ quote 1 0 0 1 ++ quote 1 0 0 2 ++ quote 1 0 1 0 ++ quote 1 0 1 1 ++ quote 1 0 1 2

abbrev pub closed : List ℕ
closed = replicate 8 unbound

abbrev pub zeros : ℕ → List ℕ
zeros n = replicate n 0

-- ---- its counts alone

pub record Counts : Type 0 where
  pub verdict : Verdict
  pub facts : ℕ
  pub rounds : ℕ
  pub answers : ℕ

abbrev pub counts_of : Report → Counts
counts_of r = record { verdict = r.verdict; facts = r.facts; rounds = r.rounds; answers = r.answers }

abbrev pub counts : Verdict → ℕ → ℕ → ℕ → Counts
counts v f r a = record { verdict = v; facts = f; rounds = r; answers = a }

abbrev pub AgreeInCounts : List (Counts × Counts) → Type 0
AgreeInCounts rows = map (λ (r : Counts × Counts). r.0) rows ≡ map (λ (r : Counts × Counts). r.1) rows
