-- The slices after the policy, read in their order, and what is handed out of them.
use Rattle.std.specs.Prelude.{ℕ, List, length, Result, Ok, Err}
use Rattle.model.specs.Syntax as syntax
use Rattle.model.specs.Syntax.{Policy, Withdrawal, Link}
use Rattle.model.specs.Nodes.{read_request}
use Rattle.model.specs.Entries.{read_withdrawals, read_hierarchy}
use Rattle.model.specs.Deciding.{read}
use Rattle.model.specs.Decision.{Taken, accepted, refused_on, sided}
use Rattle.request.specs.Requests as requests
use Rattle.slices.specs.Steps.{number_of}
use Rattle.slices.specs.Sides.{side_of}
use Rattle.slices.specs.declared.sides.Refused.{Refused}
use Rattle.inputs.specs.declared.Handed.{Handed}

-- ---- THE PROMISE: what the slices say under an accepted policy, or "a refusal's number, side and place", as the code gives it

unfoldable pub handed_out : Taken → Result Handed (ℕ × ℕ × ℕ)
handed_out (accepted R) = Ok (record {
  request = requests.handed_out R.policy.verbs R.request;
  withdrawals = length R.withdrawals;
  links = length R.hierarchy;
})
handed_out (refused_on n side p) = Err (n, side, p)

-- what the code's result says
abbrev pub said : Result Handed Refused → Result Handed (ℕ × ℕ × ℕ)
said (Ok h) = Ok h
said (Err r) = Err (number_of r.refusal.reason, side_of r.side, r.refusal.place)

-- "the withdrawals with side 3, after the request", the hierarchy "with side 4, after side 3"
module _ (P : Policy) where
  abbrev pub after_withdrawals : syntax.Request → List Withdrawal → List ℕ → Taken
  after_withdrawals q ws hierarchy = sided 4 (read_hierarchy P.constants P.verbs hierarchy) (λ (H : List Link). accepted (read P q ws H))

  abbrev pub after_request : syntax.Request → List ℕ → List ℕ → Taken
  after_request q withdrawals hierarchy = sided 3 (read_withdrawals P.constants withdrawals) (λ (ws : List Withdrawal). after_withdrawals q ws hierarchy)

  abbrev pub after_policy : List ℕ → List ℕ → List ℕ → Taken
  after_policy request withdrawals hierarchy =
      sided 2 (read_request P.constants P.verbs request) (λ (q : syntax.Request). after_request q withdrawals hierarchy)
