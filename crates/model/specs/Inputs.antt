-- What the statements speak of: accepted inputs, what they derive and answer, and their assertions with others added.
use Rattle.std.specs.Prelude.{◌≡◌, ℕ, ◌*◌, take, drop}
use mathlib.Core.List.{List, [], ◌∷◌, map, Memᴰ}
use Rattle.model.specs.Limits.{principal, answer_bytes}
use Rattle.model.specs.Syntax.{Fact, flat, can_say, Assertion, Withdrawal, Link, Constant, Verb, Policy, Request, World, Read, world_in}
use Rattle.model.specs.Syntax.{Said, said}
use Rattle.model.specs.Kinds.{param_kinds, kind_at}
use Rattle.model.specs.Closure.{Within}
use Rattle.model.specs.Rules.{Rule, depths}
use Rattle.model.specs.Reach.{Reach}
use Rattle.model.specs.Requests.{issuers}
use Rattle.model.specs.Withdrawals.{left_in}
use Rattle.model.specs.Records.{Entry}
use Rattle.model.specs.Meant.{Outcome, Derivable, FirstIn, Satisfies, Meant}
use Rattle.model.specs.Deciding.{counted_in}
use Rattle.model.specs.Bytes.{got}
use Rattle.model.specs.Layout.{Accepted, policy_of, read_policy, read_request, read_withdrawals, read_hierarchy}
use Rattle.model.specs.Decision.{Slices, accepted, read_slices}

-- ---- accepted. "Accepted: no refusal from the input stands against it."

abbrev pub ReadAs : List ℕ → Policy → Type 0
ReadAs policy P = (A : Accepted) × (e : ℕ) × (read_policy policy ≡ got A e) × (policy_of A ≡ P)

abbrev pub AskedAs : Policy → List ℕ → Request → Type 0
AskedAs P request q = (e : ℕ) × (read_request P.constants P.verbs request ≡ got q e)

abbrev pub WithdrawnAs : Policy → List ℕ → List Withdrawal → Type 0
WithdrawnAs P withdrawals ws = (e : ℕ) × (read_withdrawals P.constants withdrawals ≡ got ws e)

abbrev pub RankedAs : Policy → List ℕ → List Link → Type 0
RankedAs P hierarchy H = (e : ℕ) × (read_hierarchy P.constants P.verbs hierarchy ≡ got H e)

-- the slices are accepted, and R is what was read of them
abbrev pub Inputs : Slices → Read → Type 0
Inputs s R = read_slices s ≡ accepted R

-- "such slices without entries": version 1, a length of 2, a count of 0
abbrev pub without_entries : List ℕ
without_entries = 1 ∷ 0 ∷ 0 ∷ 0 ∷ 2 ∷ 0 ∷ 0 ∷ []

-- ---- what they derive and answer

-- the reach goes by what is left
abbrev pub InReach : Read → ℕ → Type 0
InReach R = Reach (world_in R) (left_in R) (issuers R.request.node (world_in R))

-- what the request's reach derives, in some round or within n of them, the entries of its table, and its answers
abbrev pub DerivableIn : Read → Said → Type 0
DerivableIn R = Derivable (world_in R) (counted_in R) R.request.node

abbrev pub WithinIn : Read → ℕ → Said → Type 0
WithinIn R = Within (Rule (world_in R) (counted_in R))

abbrev pub EntryIn : Read → Entry → Type 0
EntryIn R = FirstIn (world_in R) (counted_in R) R.request.node

abbrev pub AnswerIn : Read → List ℕ → Type 0
AnswerIn R = Satisfies (world_in R) (counted_in R) R.request.node

abbrev pub who : Said → ℕ
who (said a d f) = a

-- the answer at place i of an answer buffer
abbrev pub answer_in : List ℕ → ℕ → List ℕ
answer_in buffer i = take answer_bytes (drop (answer_bytes * i) buffer)

-- "Facts are ground": issuer, speakers and subject are principals of the policy, parameters constants of their verb's kinds; so 255 is none of them
abbrev pub GroundFact : List Constant → List Verb → Fact ℕ → Type 0
GroundFact cs vs (flat s v ps) = (kind_at cs s ≡ principal) × (map (kind_at cs) ps ≡ param_kinds vs v)
GroundFact cs vs (can_say s d f) = (kind_at cs s ≡ principal) × GroundFact cs vs f

-- "and each fact is said at depth 0 or unlimited"
abbrev pub GroundSaid : World → Said → Type 0
GroundSaid W (said a d f) = (kind_at W.constants a ≡ principal) × Memᴰ d depths × GroundFact W.constants W.verbs f

-- ---- other assertions

-- `Adds Q 𝒜 ℬ`: "With the added assertions taken out, wherever they stand, the longer policy's list is the shorter's, unchanged and in its order"; each added
-- one has Q
pub data Adds (Q : Assertion → Type 0) : List Assertion → List Assertion → Type 0 where
  done : Adds Q [] []
  keeps : (a : Assertion) {𝒜 ℬ : List Assertion} → Adds Q 𝒜 ℬ → Adds Q (a ∷ 𝒜) (a ∷ ℬ)
  adds : {a : Assertion} {𝒜 ℬ : List Assertion} → Q a → Adds Q 𝒜 ℬ → Adds Q 𝒜 (a ∷ ℬ)

-- the assertion with serial 0: two are alike but for their serials if this is the same of both
abbrev pub without_serial : Assertion → Assertion
without_serial a = record { serial = 0; issuer = a.issuer; head = a.head; body = a.body; tests = a.tests }

-- ==== For proofs from here on.

-- slice by slice
pub record InputsBySlice (s : Slices) (R : Read) : Type 0 where
  pub read_as : ReadAs s.policy R.policy
  pub asked_as : AskedAs R.policy s.request R.request
  pub withdrawn_as : WithdrawnAs R.policy s.withdrawals R.withdrawals
  pub ranked_as : RankedAs R.policy s.hierarchy R.hierarchy

-- the outcomes that are meant
abbrev pub MeantBy : Read → ℕ → ℕ → Outcome → Type 0
MeantBy R = Meant (world_in R) (counted_in R) R.request.node
