-- What is proved of the definitions: each statement as a type. `proofs/Theorems.antt` has a proof of each, under the same name in snake case.
use Rattle.std.specs.Prelude.{◌≡◌, ◌↔◌, ℕ, ◌≤◌, ◌<◌, length, get_or, T}
use mathlib.Core.List.{List, [], map, Memᴰ}
use Rattle.model.specs.Limits.{unbound}
use Rattle.model.specs.Lists.{member}
use Rattle.model.specs.Syntax.{Fact, Assertion, Withdrawal, Link, Constant, Policy, Request, World, world_of, Read, world_in}
use Rattle.model.specs.Syntax.{Said, Node, Nodes, says, test, all_of, any_of, non, exists, end, more}
use Rattle.model.specs.Kinds.{Demands, no_demands, demands_of, demands_in, kind_at, meets, fitting, kinds, kind_of}
use Rattle.model.specs.Values.{bindings_of}
use Rattle.theorems.specs.Binding.{Fits, Binds, in_places}
use Rattle.model.specs.Closure.{Derives, Within, First}
use Rattle.model.specs.Hierarchy.{Below, Covers}
use Rattle.model.specs.Rules.{Rule, ThreeRules}
use Rattle.model.specs.Reach.{Reach}
use Rattle.model.specs.Requests.{free, kinds_in, bindings_in}
use Rattle.model.specs.Withdrawals.{left_in}
use Rattle.model.specs.Records.{Entry, key_of, record_of}
use Rattle.model.specs.Meant.{Outcome, decided, MoreThan, AtMost, Enumerates, itself}
use Rattle.model.specs.Rounds.{round, table}
use Rattle.model.specs.Descendants.{descendants, covered}
use Rattle.model.specs.Steps.{eq_said, step}
use Rattle.model.specs.Reached.{reach, counting}
use Rattle.model.specs.Deciding.{read, counted_in}
use Rattle.model.specs.Bytes.{got}
use Rattle.model.specs.Layout.{node}
use Rattle.model.specs.Safety.{safe_request}
use Rattle.model.specs.Safe.{SafeRequest}
use Rattle.model.specs.Decision.{Slices, Lent, lent, Verdict, allow, deny, refusal, Report, capacity, room, reported, decision}
use Rattle.model.specs.Inputs.{ReadAs, AskedAs, WithdrawnAs, RankedAs, Inputs, without_entries, InReach, DerivableIn, WithinIn, EntryIn, AnswerIn, who}
use Rattle.model.specs.Inputs.{answer_in, GroundSaid, Adds, without_serial, InputsBySlice, MeantBy}

-- ---- 1. records

-- a record's bytes tell which statement and round it is of
abbrev pub RecordsTell : Type 0
RecordsTell = (s : Slices) (R : Read) → Inputs s R → (e e' : Entry) → EntryIn R e → EntryIn R e' → record_of e ≡ record_of e' → e ≡ e'

-- ---- 2. added assertions (demand 3; obligation e)

-- the longer policy `L` is the shorter `P` with assertions added: "alike in version, constants and verbs with their kinds, number by number"
pub record Longer (Q : Assertion → Type 0) (P L : Policy) : Type 0 where
  pub version : L.version ≡ P.version
  pub constants : L.constants ≡ P.constants
  pub verbs : L.verbs ≡ P.verbs
  pub assertions : Adds Q P.assertions L.assertions

-- "two calls .. on one request, with buffers alike in length and in every byte at entry": another policy, and all else as lent
abbrev pub with_policy : List ℕ → Lent → Lent
with_policy policy l = lent policy l.slices.request l.slices.withdrawals l.slices.hierarchy l.fact_buffer l.answer_buffer

abbrev pub IssuedOutside : Read → Assertion → Type 0
IssuedOutside R a = ¬ InReach R a.issuer

-- "Each issuer in the reach says the same, in the same rounds, when assertions from outside it count too"
abbrev pub Insiders : Type 0
Insiders = (s : Slices) (R : Read) → Inputs s R → (n : ℕ) (x : Said) → InReach R (who x)
    → Within (Rule (world_in R) (left_in R)) n x ↔ WithinIn R n x

-- no "not" at any depth
abbrev mutual
  pub Positive : Node → Type 0
  Positive (says e f) = Unit {0}
  Positive (test c) = Unit {0}
  Positive (all_of ns) = Positives ns
  Positive (any_of ns) = Positives ns
  Positive (non n) = ⊥
  Positive (exists v n) = Positive n

  pub Positives : Nodes → Type 0
  Positives end = Unit {0}
  Positives (more n ns) = Positive n × Positives ns

-- "both get a decision"
abbrev pub IsDecision : Verdict → Type 0
IsDecision allow = Unit {0}
IsDecision deny = Unit {0}
IsDecision (refusal n s p) = ⊥

abbrev pub ListedIn : Report → List ℕ → Type 0
ListedIn r θ = (i : ℕ) × (i < r.answers) × (answer_in r.answer_buffer i ≡ θ)

abbrev pub Anyone : Assertion → Type 0
Anyone a = Unit {0}

-- ---- 3. withdrawals (request 02) and the hierarchy (request 05)

-- other withdrawals, and all else as lent
abbrev pub with_withdrawals : List ℕ → Lent → Lent
with_withdrawals withdrawals l = lent l.slices.policy l.slices.request withdrawals l.slices.hierarchy l.fact_buffer l.answer_buffer

-- the policy with another list of assertions
abbrev pub with_assertions : List Assertion → Policy → Policy
with_assertions 𝒜 P = record { version = P.version; constants = P.constants; verbs = P.verbs; assertions = 𝒜 }

abbrev pub without_serials : Policy → Policy
without_serials P = with_assertions (map without_serial P.assertions) P

-- each round holds what it holds by the three published rules alone
abbrev pub ByThree : Read → Type 0
ByThree R = (n : ℕ) (x : Said) → Within (Rule (world_in R) (counted_in R)) n x ↔ Within (ThreeRules (world_in R) (counted_in R)) n x

-- without entries the hierarchy is accepted, and the same is derived, in the same rounds, as by the three published rules alone
abbrev pub NoHierarchy : Type 0
NoHierarchy = (s : Slices) (P : Policy) (q : Request) (ws : List Withdrawal)
    → s.hierarchy ≡ without_entries → ReadAs s.policy P → AskedAs P s.request q → WithdrawnAs P s.withdrawals ws
    → Inputs s (read P q ws []) × ByThree (read P q ws [])

-- ---- 4. versions (request 06)

-- the same in another version
abbrev pub in_version : ℕ → World → World
in_version version W = record { version = version; constants = W.constants; verbs = W.verbs; today = W.today; hierarchy = W.hierarchy }

abbrev pub policy_in_version : ℕ → Policy → Policy
policy_in_version version P = record { version = version; constants = P.constants; verbs = P.verbs; assertions = P.assertions }

abbrev pub read_in_version : ℕ → Read → Read
read_in_version version R = read (policy_in_version version R.policy) R.request R.withdrawals R.hierarchy

-- what version 2 derives from a list of assertions, version 1 derives from it, within the same rounds
abbrev pub NoMoreByVersion2 : Type 0
NoMoreByVersion2 = (W : World) (𝒜 : List Assertion) (n : ℕ) (x : Said) → Within (Rule (in_version 2 W) 𝒜) n x → Within (Rule (in_version 1 W) 𝒜) n x

-- so it does where each derives from what its own reach counts, that of version 2 being part of that of version 1
pub record NoMoreIn (R : Read) : Type 0 where
  pub reach : (p : ℕ) → InReach (read_in_version 2 R) p → InReach (read_in_version 1 R) p
  pub within : (n : ℕ) (x : Said) → WithinIn (read_in_version 2 R) n x → WithinIn (read_in_version 1 R) n x

abbrev pub NoMoreInReach : Type 0
NoMoreInReach = (R : Read) → NoMoreIn R

-- ---- 5. kinds and bindings

-- "no choice of kinds for the variables fits": the computed test says whether there is one, whatever the kinds of variables that do not occur
abbrev pub KindsFit : Type 0
KindsFit = (cs : List Constant) (D : Demands) → T (fitting cs D) ↔ ((κ : List ℕ) × Fits cs D κ)

-- a variable's kind is settled: a choice that fits gives it the kind of its first place in a fact
abbrev pub OneKind : Type 0
OneKind = (cs : List Constant) (D : Demands) (κ : List ℕ) → T (meets cs D κ)
    → (v : ℕ) → (¬ (kind_of D.places v ≡ 0)) → get_or κ v 0 ≡ kind_of D.places v

-- "variables range over the policy's constants of their kind": the bindings of an assertion are those under a choice of kinds that fits it
abbrev pub InstanceBindings : Type 0
InstanceBindings = (policy : List ℕ) (P : Policy) (q : Request) → ReadAs policy P → (a : Assertion) → Memᴰ a P.assertions
    → (θ : List ℕ) → Memᴰ θ (bindings_of (world_of P q) a)
    ↔ ((κ : List ℕ) × Fits P.constants (demands_of P.verbs a) κ × Binds P.constants κ (in_places (demands_of P.verbs a)) θ)

-- "Bindings range over the policy's constants of the variable's kind. .. 255 where not free": those of a request likewise
abbrev pub AnswerBindings : Type 0
AnswerBindings = (s : Slices) (R : Read) → Inputs s R → (θ : List ℕ) → Memᴰ θ (bindings_in (world_in R) R.request.node)
    ↔ ((κ : List ℕ) × Fits R.policy.constants (demands_in R.request.node R.policy.verbs) κ
    × Binds R.policy.constants κ (free R.request.node) θ)

-- the reader asks item by item; what an accepted request was asked is what its whole node asks, and a choice of kinds fits it
abbrev pub WholeNodeFits : Type 0
WholeNodeFits = (s : Slices) (R : Read) → Inputs s R → (κ : List ℕ) × Fits R.policy.constants (demands_in R.request.node R.policy.verbs) κ

-- 255 is no constant's number
abbrev pub BelowUnbound : Type 0
BelowUnbound = (policy : List ℕ) (P : Policy) → ReadAs policy P → (c : ℕ) → (¬ (kind_at P.constants c ≡ 0)) → c < unbound

-- "An answer is .. a constant per variable": of a free variable a constant of its kind, so never 255
abbrev pub FreeAnswers : Type 0
FreeAnswers = (s : Slices) (R : Read) → Inputs s R → (θ : List ℕ) → AnswerIn R θ → (v : ℕ) → T (member v (free R.request.node))
    → Memᴰ (kinds_in (world_in R) R.request.node v) kinds
    × (kind_at R.policy.constants (get_or θ v unbound) ≡ kinds_in (world_in R) R.request.node v) × (get_or θ v unbound < unbound)

-- ---- 6. facts are ground

abbrev pub Ground : Type 0
Ground = (s : Slices) (R : Read) → Inputs s R → (x : Said) → DerivableIn R x → GroundSaid (world_in R) x

-- ---- 7. safety

-- "7 unsafe request": of a node that is read, the computed test says whether the rules of safety find it safe
abbrev pub SafelyAsked : Type 0
SafelyAsked = (policy request : List ℕ) (P : Policy) → ReadAs policy P
    → (n : Node) (e : ℕ) → node request P.constants P.verbs 8 no_demands 0 (length request) 9 ≡ got n e → T (safe_request n) ↔ SafeRequest n

-- ==== For proofs from here on: what the demands say again, of calls of the engine (crate `demands`).

abbrev pub SliceBySlice : Type 0
SliceBySlice = (s : Slices) (R : Read) → Inputs s R ↔ InputsBySlice s R

-- ---- 8. rules and rounds

-- what the rules derive is what some round holds
abbrev pub RulesAreRounds : Type 0
RulesAreRounds = (W : World) (𝒜 : List Assertion) (x : Said) → Derives (Rule W 𝒜) x ↔ ((n : ℕ) × Within (Rule W 𝒜) n x)

-- the computed descendants are the least set, and the computed facts those that a fact covers
abbrev pub ComputedDescendants : Type 0
ComputedDescendants = (H : List Link)
    → ((verb position c d : ℕ) → Memᴰ d (descendants H verb position c) ↔ Below H verb position c d)
    × ((f g : Fact ℕ) → Memᴰ g (covered H f) ↔ Covers H f g)

-- a computed round holds exactly what is derivable within it
abbrev pub ComputedRounds : Type 0
ComputedRounds = (W : World) (𝒜 : List Assertion) (n : ℕ) (x : Said) → Memᴰ x (round eq_said (step W 𝒜) n) ↔ Within (Rule W 𝒜) n x

-- in a table within its capacity (round, statement) stands exactly if that is the statement's first round
abbrev pub TableEntries : Type 0
TableEntries = (W : World) (𝒜 : List Assertion) (c : ℕ) → length (table eq_said (step W 𝒜) c) ≤ c
    → (r : ℕ) (x : Said) → Memᴰ (r, x) (table eq_said (step W 𝒜) c) ↔ First (Rule W 𝒜) r x

-- "Rounds reported: the last round that adds a fact, so never more than the facts", whatever the bytes
abbrev pub RoundsAtMostFacts : Type 0
RoundsAtMostFacts = (l : Lent) → (decision l).rounds ≤ (decision l).facts

-- ---- 9. the outcome

-- the decision reports an outcome that is meant, and no other outcome is
abbrev pub Meaning : Type 0
Meaning = (l : Lent) (R : Read) → Inputs l.slices R
    → (o : Outcome) × (decision l ≡ reported o l) × MeantBy R (capacity l.fact_buffer) (room l.answer_buffer) o
    × ((o' : Outcome) → MeantBy R (capacity l.fact_buffer) (room l.answer_buffer) o' → o' ≡ o)

-- 8 exactly if more statements are derivable than the capacity
abbrev pub Eight : Type 0
Eight = (l : Lent) (R : Read) → Inputs l.slices R
    → ((decision l).verdict ≡ refusal 8 0 0) ↔ MoreThan (capacity l.fact_buffer) (DerivableIn R)

-- 9 exactly if not 8 and more bindings satisfy than there is room for
abbrev pub Nine : Type 0
Nine = (l : Lent) (R : Read) → Inputs l.slices R
    → ((decision l).verdict ≡ refusal 9 0 0) ↔ (AtMost (capacity l.fact_buffer) (DerivableIn R) × MoreThan (room l.answer_buffer) (AnswerIn R))

-- otherwise the records are exactly the derivable statements with their first rounds, ascending, once each, and the answers exactly the satisfying bindings,
-- ascending, once each
abbrev pub Decides : Type 0
Decides = (l : Lent) (R : Read) → Inputs l.slices R
    → AtMost (capacity l.fact_buffer) (DerivableIn R) → AtMost (room l.answer_buffer) (AnswerIn R)
    → (F : List Entry) × (A : List (List ℕ)) × Enumerates key_of (EntryIn R) F × Enumerates itself (AnswerIn R) A
    × (decision l ≡ reported (decided F A) l)

-- then allow exactly if some binding satisfies, deny exactly if none does
abbrev pub Allows : Type 0
Allows = (l : Lent) (R : Read) → Inputs l.slices R
    → AtMost (capacity l.fact_buffer) (DerivableIn R) → AtMost (room l.answer_buffer) (AnswerIn R)
    → (((decision l).verdict ≡ allow) ↔ ((θ : List ℕ) × AnswerIn R θ))
    × (((decision l).verdict ≡ deny) ↔ (¬ ((θ : List ℕ) × AnswerIn R θ)))

-- ---- 10. the reach, and added assertions

-- the computed reach is the least set, and the assertions that count are those issued in it
abbrev pub ComputedReach : Type 0
ComputedReach = (W : World) (𝒜 : List Assertion) (asked : List ℕ)
    → ((p : ℕ) → Memᴰ p (reach W 𝒜 asked) ↔ Reach W 𝒜 asked p)
    × ((a : Assertion) → Memᴰ a (counting W 𝒜 asked) ↔ (Memᴰ a 𝒜 × Reach W 𝒜 asked a.issuer))

-- first half: "If every added issuer is outside the reach in the shorter policy, result and both buffers are the same, byte for byte."
abbrev pub Outsiders : Type 0
Outsiders = (l : Lent) (longer : List ℕ) (R : Read) (L : Policy) → Inputs l.slices R → ReadAs longer L
    → Longer (IssuedOutside R) R.policy L → decision (with_policy longer l) ≡ decision l

-- second half: "Whoever issues them, if the request has no 'not' and both get a decision, every answer of the shorter is an answer of the longer."
abbrev pub Growing : Type 0
Growing = (l : Lent) (longer : List ℕ) (R : Read) (L : Policy) → Inputs l.slices R → ReadAs longer L
    → Longer Anyone R.policy L → Positive R.request.node
    → IsDecision (decision l).verdict → IsDecision (decision (with_policy longer l)).verdict
    → (θ : List ℕ) → ListedIn (decision l) θ → ListedIn (decision (with_policy longer l)) θ

-- and version 1 answers what version 2 answers: what a stand-in may not do by version 2 is all that is lost
abbrev pub GrowingByVersion : Type 0
GrowingByVersion = (l : Lent) (other : List ℕ) (R : Read) → Inputs l.slices (read_in_version 2 R) → ReadAs other (policy_in_version 1 R.policy)
    → Positive R.request.node → IsDecision (decision l).verdict → IsDecision (decision (with_policy other l)).verdict
    → (θ : List ℕ) → ListedIn (decision l) θ → ListedIn (decision (with_policy other l)) θ

-- ---- 11. withdrawals

-- with withdrawals the report is that of the same call without entries, on a policy whose list is what is left
abbrev pub WithdrawnIsAbsent : Type 0
WithdrawnIsAbsent = (l : Lent) (other : List ℕ) (R : Read) (L : Policy) → Inputs l.slices R → ReadAs other L
    → L ≡ with_assertions (left_in R) R.policy → decision (with_withdrawals without_entries (with_policy other l)) ≡ decision l

-- without entries nothing is withdrawn
abbrev pub NothingWithdrawn : Type 0
NothingWithdrawn = (s : Slices) (P : Policy) (q : Request) (H : List Link)
    → s.withdrawals ≡ without_entries → ReadAs s.policy P → AskedAs P s.request q → RankedAs P s.hierarchy H
    → Inputs s (read P q [] H) × (left_in (read P q [] H) ≡ P.assertions)

-- without withdrawals "serial (no effect)": policies alike but for serials give the same report
abbrev pub SerialsAside : Type 0
SerialsAside = (l : Lent) (other : List ℕ) (R : Read) (L : Policy) → Inputs l.slices R → ReadAs other L → R.withdrawals ≡ []
    → without_serials L ≡ without_serials R.policy → decision (with_policy other l) ≡ decision l
