-- What the readers of facts need of the policy, as two tables of bytes.
-- `ks`: the kind of each constant, 0 past the last. `sg`: a row of 4 bytes for each verb from verb 0 on, its arity and one, then the kinds of its
-- parameters; 0 past the last verb.
use Rattle.std.specs.Prelude.{ℕ, suc, ◌+◌, ◌*◌, ◌≤◌, ◌<◌, ◌≡◌, length, get_or}
use mathlib.Core.List.{List, Memᴰ}
use Rattle.model.specs.Limits.{quantity}
use Rattle.model.specs.Syntax.{Constant, Verb}
use Rattle.model.specs.Kinds.{kind_at, param_kinds}
use Rattle.model.specs.Bytes.{byte_at}
use Rattle.model.specs.Readings.{arity_of}

pub record Tables (cs : List Constant) (vs : List Verb) (ks sg : List ℕ) : Type 0 where
  pub kinds : (c : ℕ) → byte_at ks c ≡ kind_at cs c
  pub there : (v : ℕ) → v ≤ length vs → byte_at sg (4 * v) ≡ suc (arity_of vs v)
  pub past : (v : ℕ) → length vs < v → byte_at sg (4 * v) ≡ 0
  pub params : (v i : ℕ) → v ≤ length vs → i < arity_of vs v → byte_at sg (4 * v + 1 + i) ≡ get_or (param_kinds vs v) i 0
  -- form: the kinds of constants and parameters are among the four
  pub constant_kinds : (c : ℕ) → kind_at cs c ≤ quantity
  pub parameter_kinds : (v : ℕ) → v ≤ length vs → (k : ℕ) → Memᴰ k (param_kinds vs v) → (1 ≤ k) × (k ≤ quantity)
