-- Slices that are accepted, as their readers hand them out.
use Rattle.std.specs.Prelude.{◌≡◌, List, ℕ, ◌≤◌, length}
use Rattle.model.specs.Syntax as syntax
use Rattle.model.specs.Bytes.{got}
use Rattle.model.specs.Policies.{Accepted, policy_of, read_policy}
use Rattle.model.specs.Nodes.{read_request}
use Rattle.model.specs.Entries.{read_withdrawals}
use Rattle.wire.specs.Budget.{longest}
use Rattle.policy.specs.Index.{HandsOut}
use Rattle.policy.specs.declared.Index.{Index}
use Rattle.request.specs.Requests as requests
use Rattle.request.specs.declared.Request.{Request}
use Rattle.derive.specs.Given.{Links}
use Rattle.inputs.specs.declared.Handed.{Handed}

pub record Accepts (policy request : List ℕ) (x : Index) (A : Accepted) (q : syntax.Request) : Type 0 where
  pub end : ℕ
  pub read : read_policy policy ≡ got A end
  pub index : HandsOut policy x
  pub last : ℕ
  pub asked : read_request (policy_of A).constants (policy_of A).verbs request ≡ got q last

-- and r is what the request's reader handed out
pub record Takes (policy request : List ℕ) (x : Index) (r : Request) (A : Accepted) (q : syntax.Request) : Type 0 where
  pub accepts : Accepts policy request x A q
  pub handed : r ≡ requests.handed_out (policy_of A).verbs q
  pub short : length request ≤ longest

-- the withdrawals, which have so many entries
pub record Withdraws (withdrawals : List ℕ) (count : ℕ) (A : Accepted) (ws : List syntax.Withdrawal) : Type 0 where
  pub end : ℕ
  pub read : read_withdrawals (policy_of A).constants withdrawals ≡ got ws end
  pub counts : count ≡ length ws

-- all four, and h is what the readers of those after the policy handed out
pub record Hands (policy request withdrawals hierarchy : List ℕ) (x : Index) (h : Handed) (A : Accepted) (q : syntax.Request) (ws : List syntax.Withdrawal)
    (H : List syntax.Link) : Type 0 where
  pub takes : Takes policy request x h.request A q
  pub withdraws : Withdraws withdrawals h.withdrawals A ws
  pub links : Links hierarchy h.links A H
