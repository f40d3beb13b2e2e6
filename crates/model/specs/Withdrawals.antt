-- Withdrawing a single statement (request 02): when an entry removes an assertion, and what is left of a policy's assertions.
use Rattle.std.specs.Prelude.{List, Bool, false, ◌&&◌, not, ℕ, replicate, eqb}
use Rattle.model.specs.Limits.{unbound}
use Rattle.model.specs.Lists.{keep, any, all}
use Rattle.model.specs.Syntax.{Expr, con, var, today, Assertion, Withdrawal, World, Read, world_in}
use Rattle.model.specs.Values.{passes}

-- the expression is the constant with this number
abbrev pub is_constant : Expr → ℕ → Bool
is_constant (con c) i = eqb c i
is_constant (var v) i = false
is_constant today i = false

-- an entry has no variables (10)
abbrev pub no_binding : List ℕ
no_binding = replicate 8 unbound

module _ (W : World) where
  -- "Each reads 'A says A revokes that serial' .., and removes every assertion of that issuer and serial while its constraints hold."
  abbrev pub removes : ℕ → ℕ → Withdrawal → Bool
  removes issuer serial w = is_constant w.issuer issuer && eqb w.serial serial && all (passes W no_binding) w.tests

  -- no entry removes it
  abbrev pub stays : List Withdrawal → Assertion → Bool
  stays ws a = not (any (removes a.issuer a.serial) ws)

  -- what is left, in its order
  abbrev pub left : List Withdrawal → List Assertion → List Assertion
  left ws 𝒜 = keep (stays ws) 𝒜

-- "Reach and derivation use what is left."
abbrev pub left_in : Read → List Assertion
left_in R = left (world_in R) R.withdrawals R.policy.assertions
