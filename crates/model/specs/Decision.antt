-- The decision, from bytes to bytes.
use Rattle.std.specs.Prelude.{ℕ, ◌-◌, ◌/◌, min, List, [], ◌∷◌, ◌++◌, length, replicate}
use Rattle.model.specs.Limits.{record_bytes, max_records, answer_bytes}
use Rattle.model.specs.Syntax.{Policy, Request, Withdrawal, Link, Read}
use Rattle.model.specs.Records.{records_of, last_round, answers_bytes}
use Rattle.model.specs.Meant.{Outcome, too_many_facts, too_many_answers, decided}
use Rattle.model.specs.Deciding.{decide}
use Rattle.model.specs.Bytes.{Reading, got, refused}
use Rattle.model.specs.Layout.{policy_of, read_policy, read_request, read_withdrawals, read_hierarchy}

-- "Bytes of every sort as policy and request", and each slice that a later request adds: the slices that are read
pub record Slices : Type 0 where
  pub policy : List ℕ
  pub request : List ℕ
  pub withdrawals : List ℕ
  pub hierarchy : List ℕ

-- "with buffers of every length": what a call of the decision is lent
pub record Lent : Type 0 where
  pub slices : Slices
  pub fact_buffer : List ℕ
  pub answer_buffer : List ℕ

-- put together from the lists that a function is lent, for contracts of code
abbrev pub slices : List ℕ → List ℕ → List ℕ → List ℕ → Slices
slices policy request withdrawals hierarchy = record { policy = policy; request = request; withdrawals = withdrawals; hierarchy = hierarchy }

abbrev pub lent : List ℕ → List ℕ → List ℕ → List ℕ → List ℕ → List ℕ → Lent
lent policy request withdrawals hierarchy facts answers =
    record { slices = slices policy request withdrawals hierarchy; fact_buffer = facts; answer_buffer = answers }

-- a request is read by the policy's constants and verbs
abbrev pub request_under : Policy → Slices → Reading Request
request_under P s = read_request P.constants P.verbs s.request

-- so are the withdrawals, by its constants
abbrev pub withdrawals_under : Policy → Slices → Reading (List Withdrawal)
withdrawals_under P s = read_withdrawals P.constants s.withdrawals

-- and the hierarchy, by its constants and verbs
abbrev pub hierarchy_under : Policy → Slices → Reading (List Link)
hierarchy_under P s = read_hierarchy P.constants P.verbs s.hierarchy

-- what the slices say, or "a refusal's number, side and place"
pub data Taken : Type 0 where
  accepted : Read → Taken
  refused_on : ℕ → ℕ → ℕ → Taken

-- a slice is read whole before the next; its refusal has its side
unfoldable pub sided : {A : Type 0} → ℕ → Reading A → (A → Taken) → Taken
sided side (got a e) next = next a
sided side (refused n p) next = refused_on n side p

-- "side 1 policy or 2 request"; "Policy before request"; the withdrawals "with side 3, after the request"; the hierarchy "with side 4, after side 3"
unfoldable pub read_slices : Slices → Taken
read_slices s =
    sided 1 (read_policy s.policy) (λ A. let P = policy_of A in
    sided 2 (request_under P s) (λ q.
    sided 3 (withdrawals_under P s) (λ ws.
    sided 4 (hierarchy_under P s) (λ H.
    accepted (record { policy = P; request = q; withdrawals = ws; hierarchy = H })))))

-- "the decision word or a refusal's number, side and place"
pub data Verdict : Type 0 where
  allow deny : Verdict
  refusal : ℕ → ℕ → ℕ → Verdict

-- "with either, the counts of facts, rounds and answers", and both buffers afterwards
pub record Report : Type 0 where
  pub verdict : Verdict
  pub facts : ℕ
  pub rounds : ℕ
  pub answers : ℕ
  pub fact_buffer : List ℕ
  pub answer_buffer : List ℕ

abbrev pub report : Verdict → ℕ → ℕ → ℕ → List ℕ → List ℕ → Report
report v f r a facts answers = record { verdict = v; facts = f; rounds = r; answers = a; fact_buffer = facts; answer_buffer = answers }

-- "Its capacity is its length divided by 16, rounded down, at most 65,535."
abbrev pub capacity : List ℕ → ℕ
capacity buffer = min (length buffer / record_bytes) max_records

abbrev pub room : List ℕ → ℕ
room buffer = length buffer / answer_bytes

-- what is written at the front of a buffer. "Unfilled rest of both buffers: 0."
abbrev pub at_front : List ℕ → List ℕ → List ℕ
at_front buffer bytes = bytes ++ replicate (length buffer - length bytes) 0

abbrev pub cleared : List ℕ → List ℕ
cleared buffer = replicate (length buffer) 0

-- "Allow means one answer or more"
abbrev pub word : List (List ℕ) → Verdict
word [] = deny
word (θ ∷ θs) = allow

-- "Refusals from the input: Both buffers untouched, counts 0"
abbrev pub untouched : ℕ → ℕ → ℕ → Lent → Report
untouched number side place l = report (refusal number side place) 0 0 0 l.fact_buffer l.answer_buffer

-- "8 ..: fact buffer all 0, answer buffer untouched, counts 0. 9 ..: facts and rounds stand, answers 0, answer buffer all 0."
abbrev pub reported : Outcome → Lent → Report
reported too_many_facts l = report (refusal 8 0 0) 0 0 0 (cleared l.fact_buffer) l.answer_buffer
reported (too_many_answers F) l = report (refusal 9 0 0) (length F) (last_round F) 0 (at_front l.fact_buffer (records_of F)) (cleared l.answer_buffer)
reported (decided F A) l =
    report (word A) (length F) (last_round F) (length A) (at_front l.fact_buffer (records_of F)) (at_front l.answer_buffer (answers_bytes A))

unfoldable pub decision_of : Taken → Lent → Report
decision_of (accepted R) l = reported (decide R (capacity l.fact_buffer) (room l.answer_buffer)) l
decision_of (refused_on n side p) l = untouched n side p l

unfoldable pub decision : Lent → Report
decision l = decision_of (read_slices l.slices) l
