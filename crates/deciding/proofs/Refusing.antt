-- A policy that is refused: what its reader handed out tells the number and the place, and the model refuses on side 1.
use Rattle.std.proofs.Common.{◌≡◌, ℕ, ap}
use Rattle.std.specs.Prelude.{Err}
use Rattle.model.specs.Bytes.{Reading, refused}
use Rattle.model.specs.Policies.{Accepted, policy_of, read_policy}
use Rattle.model.specs.Decision.{Slices, Lent, refused_on, sided, read_slices, untouched}
use Rattle.model.proofs.DecisionFacts.{after_policy}
use Rattle.demands.specs.Demands.{Call}
use Rattle.policy.specs.Index.{handed_out}
use Rattle.policy.proofs.PolicyFacts.{refused_got}
use Rattle.inputs.proofs.Handing.{refused_call}

pub policy_taken : (s : Slices) (n p : ℕ) → read_policy s.policy ≡ refused n p → read_slices s ≡ refused_on n 1 p
unfolding read_slices sided
policy_taken s n p e = ap (λ (r : Reading Accepted). sided 1 r (λ (A : Accepted). after_policy s (policy_of A))) e

pub policy_call : (l : Lent) (n p : ℕ) → Err (n, p) ≡ handed_out (read_policy l.slices.policy) → Call l (untouched n 1 p l)
policy_call l n p h = refused_call l n 1 p (policy_taken l.slices n p (refused_got (read_policy l.slices.policy) n p h))
