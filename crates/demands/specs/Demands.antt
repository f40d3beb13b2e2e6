-- The three demands, and what requests 02, 05 and 06 add, as statements about calls of the engine. `proofs/Demands.antt` has a proof of each, under the same
-- name in snake case.
use Rattle.std.specs.Prelude.{◌≡◌, ◌↔◌, ◌⊎◌, ℕ, zero, suc, ◌*◌, ◌≤◌, ◌<◌, length, take, drop, T}
use mathlib.Core.List.{List, [], ◌∷◌, Memᴰ}
use Rattle.model.specs.Limits.{record_bytes, answer_bytes}
use Rattle.model.specs.Lists.{before}
use Rattle.model.specs.Syntax.{con, Constraint, Assertion, Withdrawal, Link, Policy, Request, Read, world_in, Said}
use Rattle.model.specs.Values.{passes}
use Rattle.model.specs.Withdrawals.{no_binding, left_in}
use Rattle.model.specs.Records.{Entry, record_of}
use Rattle.model.specs.Meant.{MoreThan, AtMost}
use Rattle.model.specs.Deciding.{read, counted_in}
use Rattle.model.specs.Bytes.{byte_at, refused}
use Rattle.model.specs.Layout.{read_policy}
use Rattle.model.specs.Decision.{Slices, Lent, request_under, withdrawals_under, hierarchy_under, Verdict, allow, deny, refusal, Report, report, capacity}
use Rattle.model.specs.Decision.{room, cleared, untouched, decision}
use Rattle.model.specs.Inputs.{ReadAs, AskedAs, WithdrawnAs, RankedAs, Inputs, DerivableIn, EntryIn, AnswerIn, InReach}
use Rattle.theorems.specs.Theorems.{Longer, with_policy, IssuedOutside}
use Rattle.theorems.specs.Theorems.{Anyone, Positive, Ground, NoHierarchy, ComputedDescendants}
use Rattle.model.specs.Inputs.{answer_in, without_entries}
use Rattle.theorems.specs.Theorems.{IsDecision, ListedIn, RecordsTell, Insiders, with_withdrawals, with_assertions, without_serials}
use Rattle.theorems.specs.Theorems.{policy_in_version, read_in_version, NoMoreByVersion2, NoMoreInReach}
use Rattle.demands.specs.Lookups.{Reached, whose_words}

-- what the contract of `decide` says of a call: ρ is what it returned, and what both buffers hold then
abbrev pub Call : Lent → Report → Type 0
Call l ρ = ρ ≡ decision l

-- ---- what stands in a buffer

-- record i: the 16 bytes at 16 * i; its key is bytes 2 to 15
abbrev pub record_in : List ℕ → ℕ → List ℕ
record_in buffer i = take record_bytes (drop (record_bytes * i) buffer)

abbrev pub key_in : List ℕ → ℕ → List ℕ
key_in buffer i = drop 2 (record_in buffer i)

-- these bytes stand among the counted records at the front of the fact buffer
abbrev pub StandsIn : Report → List ℕ → Type 0
StandsIn ρ b = (i : ℕ) × (i < ρ.facts) × (record_in ρ.fact_buffer i ≡ b)

-- a buffer with `front` bytes at its front: as long as it was lent, and 0 after them. "Unfilled rest of both buffers: 0."
pub record Filled (front : ℕ) (lent buffer : List ℕ) : Type 0 where
  pub fits : front ≤ length lent
  pub long : length buffer ≡ length lent
  pub rest : (k : ℕ) → front ≤ k → k < length buffer → byte_at buffer k ≡ 0

-- the fact buffer and the counts of facts and rounds: what demand 2 says of the table
pub record TableOf (l : Lent) (R : Read) (ρ : Report) : Type 0 where
  -- bytes stand there exactly if they are the record of a statement that the rules derive from the assertions within the reach, with the round in which it
  -- first appears
  pub stands : (b : List ℕ) → StandsIn ρ b ↔ ((e : Entry) × EntryIn R e × (record_of e ≡ b))
  -- "Records ascend by bytes 2 to 15", so none stands twice
  pub ascends : (i j : ℕ) → i < j → j < ρ.facts → T (before (key_in ρ.fact_buffer i) (key_in ρ.fact_buffer j))
  -- "Rounds reported: the last round that adds a fact", 0 where there is no fact
  pub rounds : (e : Entry) → EntryIn R e → e.0 ≤ ρ.rounds
  pub last : ((x : Said) × EntryIn R (ρ.rounds, x)) ⊎ ((ρ.facts ≡ 0) × (ρ.rounds ≡ 0))
  pub filled : Filled (record_bytes * ρ.facts) l.fact_buffer ρ.fact_buffer

-- the decision word, the answer buffer and the count of answers: what demand 2 says of the answers
pub record AnswersOf (l : Lent) (R : Read) (ρ : Report) : Type 0 where
  -- "a request is allowed exactly if some binding makes it hold"
  pub allows : (ρ.verdict ≡ allow) ↔ ((θ : List ℕ) × AnswerIn R θ)
  pub denies : (ρ.verdict ≡ deny) ↔ (¬ ((θ : List ℕ) × AnswerIn R θ))
  -- "all such bindings are listed once, in order"
  pub lists : (θ : List ℕ) → ListedIn ρ θ ↔ AnswerIn R θ
  pub ascends : (i j : ℕ) → i < j → j < ρ.answers → T (before (answer_in ρ.answer_buffer i) (answer_in ρ.answer_buffer j))
  pub filled : Filled (answer_bytes * ρ.answers) l.answer_buffer ρ.answer_buffer

-- ---- demand 1: "Bytes of every sort as policy and request, with buffers of every length, get an end and an answer: a decision, or one of nine numbered
-- refusals with a place, each on its written condition and no other; in either case the buffers' content is laid down."
-- The contract is an equation for every call, and that the code ends is proved with it. What the equation says:

-- a decision, or a refusal with a number of its side: the state's 8 and 9, the policy's 1 to 6, the request's 1, 2, 3, 5 and 7, the withdrawals' 1, 2, 3, 5
-- and 10, the hierarchy's 1, 2, 3, 5 and 11
abbrev pub Answered : Verdict → Type 0
Answered allow = Unit {0}
Answered deny = Unit {0}
Answered (refusal n zero p) = Memᴰ n (8 ∷ 9 ∷ []) × (p ≡ 0)
Answered (refusal n (suc zero) p) = Memᴰ n (1 ∷ 2 ∷ 3 ∷ 4 ∷ 5 ∷ 6 ∷ [])
Answered (refusal n (suc (suc zero)) p) = Memᴰ n (1 ∷ 2 ∷ 3 ∷ 5 ∷ 7 ∷ [])
Answered (refusal n (suc (suc (suc zero))) p) = Memᴰ n (1 ∷ 2 ∷ 3 ∷ 5 ∷ 10 ∷ [])
Answered (refusal n (suc (suc (suc (suc zero)))) p) = Memᴰ n (1 ∷ 2 ∷ 3 ∷ 5 ∷ 11 ∷ [])
Answered (refusal n (suc (suc (suc (suc (suc s))))) p) = ⊥

pub record AnsweredAs (l : Lent) (ρ : Report) : Type 0 where
  pub answered : Answered ρ.verdict
  -- "Rounds reported: .. never more than the facts", with every answer
  pub few_rounds : ρ.rounds ≤ ρ.facts
  -- side 1 exactly if the policy reader refuses, with its number and place; "Both buffers untouched, counts 0"
  pub policy_side : (n p : ℕ) → (ρ.verdict ≡ refusal n 1 p) ↔ (read_policy l.slices.policy ≡ refused n p)
  pub policy_keeps : (n p : ℕ) → read_policy l.slices.policy ≡ refused n p → ρ ≡ untouched n 1 p l
  -- side 2, where the policy is accepted, exactly if the request reader refuses
  pub request_side : (P : Policy) → ReadAs l.slices.policy P → (n p : ℕ) → (ρ.verdict ≡ refusal n 2 p) ↔ (request_under P l.slices ≡ refused n p)
  pub request_keeps : (P : Policy) → ReadAs l.slices.policy P → (n p : ℕ) → request_under P l.slices ≡ refused n p → ρ ≡ untouched n 2 p l
  -- side 3, where policy and request are accepted, exactly if the reader of the withdrawals refuses. "From here on demand 1 covers each added slice"
  pub withdrawals_side : (P : Policy) (q : Request) → ReadAs l.slices.policy P → AskedAs P l.slices.request q
      → (n p : ℕ) → (ρ.verdict ≡ refusal n 3 p) ↔ (withdrawals_under P l.slices ≡ refused n p)
  pub withdrawals_keeps : (P : Policy) (q : Request) → ReadAs l.slices.policy P → AskedAs P l.slices.request q
      → (n p : ℕ) → withdrawals_under P l.slices ≡ refused n p → ρ ≡ untouched n 3 p l
  -- side 4, where those before are accepted, exactly if the reader of the hierarchy refuses
  pub hierarchy_side : (P : Policy) (q : Request) (ws : List Withdrawal)
      → ReadAs l.slices.policy P → AskedAs P l.slices.request q → WithdrawnAs P l.slices.withdrawals ws
      → (n p : ℕ) → (ρ.verdict ≡ refusal n 4 p) ↔ (hierarchy_under P l.slices ≡ refused n p)
  pub hierarchy_keeps : (P : Policy) (q : Request) (ws : List Withdrawal)
      → ReadAs l.slices.policy P → AskedAs P l.slices.request q → WithdrawnAs P l.slices.withdrawals ws
      → (n p : ℕ) → hierarchy_under P l.slices ≡ refused n p → ρ ≡ untouched n 4 p l
  -- "8 more derivable facts than capacity, and only then: fact buffer all 0, answer buffer untouched, counts 0."
  pub eight : (R : Read) → Inputs l.slices R → (ρ.verdict ≡ refusal 8 0 0) ↔ MoreThan (capacity l.fact_buffer) (DerivableIn R)
  pub eight_leaves : (R : Read) → Inputs l.slices R → ρ.verdict ≡ refusal 8 0 0
      → ρ ≡ report (refusal 8 0 0) 0 0 0 (cleared l.fact_buffer) l.answer_buffer
  -- "9 no 8, but more answers than the answer buffer's length divided by 8, and only then: facts and rounds stand, answers 0, answer buffer all 0."
  pub nine : (R : Read) → Inputs l.slices R
      → (ρ.verdict ≡ refusal 9 0 0) ↔ (AtMost (capacity l.fact_buffer) (DerivableIn R) × MoreThan (room l.answer_buffer) (AnswerIn R))
  pub nine_leaves : (R : Read) → Inputs l.slices R → ρ.verdict ≡ refusal 9 0 0
      → TableOf l R ρ × (ρ.answers ≡ 0) × (ρ.answer_buffer ≡ cleared l.answer_buffer)
  -- otherwise, and only then, a decision; what the buffers hold then is demand 2
  pub decides : IsDecision ρ.verdict
      ↔ ((R : Read) × Inputs l.slices R × AtMost (capacity l.fact_buffer) (DerivableIn R) × AtMost (room l.answer_buffer) (AnswerIn R))

abbrev pub EveryInput : Type 0
EveryInput = (l : Lent) (ρ : Report) → Call l ρ → AnsweredAs l ρ

-- ---- demand 2: "Where a decision is given, the fact table holds a statement exactly if the three published rules derive it from the statements within the
-- request's reach, with the round in which it first appears; a request is allowed exactly if some binding makes it hold, and all such bindings are listed
-- once, in order." From request 05 on the hierarchy is "a fourth rule beside demand 2's three" (`Rules.Rule`).

abbrev pub TheTable : Type 0
TheTable = (l : Lent) (R : Read) (ρ : Report) → Call l ρ → Inputs l.slices R → IsDecision ρ.verdict → TableOf l R ρ

abbrev pub TheAnswers : Type 0
TheAnswers = (l : Lent) (R : Read) (ρ : Report) → Call l ρ → Inputs l.slices R → IsDecision ρ.verdict → AnswersOf l R ρ

-- what the rules derive is what first appears in some round, and in one only
abbrev pub TheRounds : Type 0
TheRounds = (R : Read) (x : Said) → (DerivableIn R x ↔ ((r : ℕ) × EntryIn R (r, x))) × ((r s : ℕ) → EntryIn R (r, x) → EntryIn R (s, x) → r ≡ s)

-- "the statements within the request's reach": those of the assertions that are left whose issuer is in the least set. "Reach and derivation use what is left."
abbrev pub TheReach : Type 0
TheReach = (R : Read) (a : Assertion) → Memᴰ a (counted_in R) ↔ (Memᴰ a (left_in R) × InReach R a.issuer)

-- what is left: those of the policy's assertions for which no entry has their issuer, their serial, and constraints that all hold
abbrev pub WhatIsLeft : Type 0
WhatIsLeft = (R : Read) (a : Assertion) → Memᴰ a (left_in R) ↔ (Memᴰ a R.policy.assertions
    × ((w : Withdrawal) → Memᴰ w R.withdrawals → w.issuer ≡ con a.issuer → w.serial ≡ a.serial
    → ¬ ((c : Constraint) → Memᴰ c w.tests → T (passes (world_in R) no_binding c))))

-- a record has 16 bytes, and they tell statement and round
abbrev pub TheRecords : Type 0
TheRecords = ((s : Slices) (R : Read) → Inputs s R → (e : Entry) → EntryIn R e → length (record_of e) ≡ record_bytes) × RecordsTell

-- ---- demand 3, over two calls "on one request, with buffers alike in length and in every byte at entry", "where both runs have the same withdrawals" and "the
-- same hierarchy"

-- "If every added issuer is outside the reach in the shorter policy, result and both buffers are the same, byte for byte."
abbrev pub OutsidersCall : Type 0
OutsidersCall = (l : Lent) (longer : List ℕ) (R : Read) (L : Policy) (ρ ρ' : Report) → Call l ρ → Call (with_policy longer l) ρ'
    → Inputs l.slices R → ReadAs longer L → Longer (IssuedOutside R) R.policy L → ρ' ≡ ρ

-- "Whoever issues them, if the request has no 'not' and both get a decision, every answer of the shorter is an answer of the longer."
abbrev pub GrowingCall : Type 0
GrowingCall = (l : Lent) (longer : List ℕ) (R : Read) (L : Policy) (ρ ρ' : Report) → Call l ρ → Call (with_policy longer l) ρ'
    → Inputs l.slices R → ReadAs longer L → Longer Anyone R.policy L → Positive R.request.node
    → IsDecision ρ.verdict → IsDecision ρ'.verdict → (θ : List ℕ) → ListedIn ρ θ → ListedIn ρ' θ

-- "Each issuer in the reach says the same, in the same rounds, when assertions from outside it count too": no calls in it, so it stands as in the model
abbrev pub InsidersSay : Type 0
InsidersSay = Insiders

-- ---- withdrawals (request 02): a withdrawn statement is as one that is not there

-- with withdrawals the report is that of the same call without entries, on a policy that differs in its assertions alone, these being what is left
abbrev pub WithdrawnCall : Type 0
WithdrawnCall =
    (l : Lent) (other : List ℕ) (R : Read) (L : Policy) (ρ ρ' : Report) → Call l ρ → Call (with_withdrawals without_entries (with_policy other l)) ρ'
    → Inputs l.slices R → ReadAs other L → L ≡ with_assertions (left_in R) R.policy → ρ' ≡ ρ

-- without entries nothing is withdrawn: the slice is accepted, and all of the policy's assertions are left
abbrev pub WithoutEntries : Type 0
WithoutEntries = (s : Slices) (P : Policy) (q : Request) (H : List Link)
    → s.withdrawals ≡ without_entries → ReadAs s.policy P → AskedAs P s.request q → RankedAs P s.hierarchy H
    → Inputs s (read P q [] H) × (left_in (read P q [] H) ≡ P.assertions)

-- and then "serial (no effect)": two policies alike but for serials give the same report
abbrev pub SerialsCall : Type 0
SerialsCall = (l : Lent) (other : List ℕ) (R : Read) (L : Policy) (ρ ρ' : Report) → Call l ρ → Call (with_policy other l) ρ'
    → Inputs l.slices R → ReadAs other L → R.withdrawals ≡ [] → without_serials L ≡ without_serials R.policy → ρ' ≡ ρ

-- ---- the hierarchy (request 05): no calls in these, so they stand as in the model

-- without entries the slice is accepted, and each round holds what it holds by the three published rules alone
abbrev pub WithoutHierarchy : Type 0
WithoutHierarchy = NoHierarchy

-- descendants, as they are computed, are the least set; so are the facts that a fact covers
abbrev pub TheDescendants : Type 0
TheDescendants = ComputedDescendants

-- what is derived is ground: a parameter that is replaced is a constant of the verb's kind
abbrev pub TheGround : Type 0
TheGround = Ground

-- ---- versions (request 06): every statement above is of both. What version 2 derives, version 1 derives too; no calls in it, so it stands as in the model

-- from one list of assertions within the same rounds, and so from what the reach of each counts
abbrev pub VersionsDerive : Type 0
VersionsDerive = NoMoreByVersion2 × NoMoreInReach

-- two calls on slices that say the same, but that the policy is of version 2 and then of version 1: if the request has no "not" and both get a decision,
-- every answer by version 2 is one by version 1
abbrev pub VersionsCall : Type 0
VersionsCall = (l : Lent) (other : List ℕ) (R : Read) (ρ₂ ρ₁ : Report) → Call l ρ₂ → Call (with_policy other l) ρ₁
    → Inputs l.slices (read_in_version 2 R) → ReadAs other (policy_in_version 1 R.policy) → Positive R.request.node
    → IsDecision ρ₂.verdict → IsDecision ρ₁.verdict → (θ : List ℕ) → ListedIn ρ₂ θ → ListedIn ρ₁ θ

-- ---- whose words count: what a call of `secpal_reach` gives, and what demand 3 makes of it

-- what its contract says of a call: κ is the refusal that it told, and what the marks hold then
abbrev pub ReachCall : Slices → List ℕ → Reached → Type 0
ReachCall s marks κ = κ ≡ whose_words s marks

-- no refusal, and as many marks as were lent: 1 for each constant in the least set, 0 for any other number
pub record MarksOf (R : Read) (lent : List ℕ) (κ : Reached) : Type 0 where
  pub accepted : κ.refusal ≡ 0
  pub long : length κ.marks ≡ length lent
  pub inside : (i : ℕ) → i < length lent → (byte_at κ.marks i ≡ 1) ↔ InReach R i
  pub outside : (i : ℕ) → i < length lent → (byte_at κ.marks i ≡ 0) ↔ (¬ InReach R i)

abbrev pub TheMarks : Type 0
TheMarks = (s : Slices) (R : Read) (marks : List ℕ) (κ : Reached) → ReachCall s marks κ → Inputs s R → MarksOf R marks κ

-- an assertion whose issuer has a mark that is 0
abbrev pub Unmarked : List ℕ → Assertion → Type 0
Unmarked marks a = (a.issuer < length marks) × (byte_at marks a.issuer ≡ 0)

-- nobody outside can change a byte of the decision
abbrev pub UnmarkedCall : Type 0
UnmarkedCall = (l : Lent) (longer marks : List ℕ) (R : Read) (L : Policy) (κ : Reached) (ρ ρ' : Report)
    → ReachCall l.slices marks κ → Call l ρ → Call (with_policy longer l) ρ'
    → Inputs l.slices R → ReadAs longer L → Longer (Unmarked κ.marks) R.policy L → ρ' ≡ ρ
