-- Constants by the offsets at which they stand, as the code looks at them.
use Rattle.std.specs.Prelude.{Bool, ◌&&◌, List, ℕ, ◌+◌, ◌-◌, ◌≤◌, ◌<◌, length, get_or, eqb, Option, Some, None}
use Rattle.model.specs.Values.{alike}
use Rattle.model.specs.Bytes.{byte_at, bytes_at}
use Rattle.demands.specs.Lookups.{no_number}

-- the offsets fit 32 bits
pub record Near (ats : List ℕ) : Type 0 where
  pub small : (i : ℕ) → i < length ats → get_or ats i 0 < 4294967296

-- and an item stands at each, whose length is not 0
pub record Standing (s ats : List ℕ) : Type 0 where
  pub near : Near ats
  pub long : (i : ℕ) → i < length ats → 1 ≤ byte_at s (get_or ats i 0)

-- a number that was found, as C has it
abbrev pub number_or : Option ℕ → ℕ
number_or (Some i) = i
number_or None = no_number

-- constant i of the policy s, whose kinds are ks and which stands at `at`, has this kind and this label
abbrev pub named_at : List ℕ → List ℕ → ℕ → List ℕ → ℕ → ℕ → Bool
named_at s ks kind label i at = eqb (byte_at ks i) kind && alike (bytes_at (byte_at s at - 1) s (at + 2)) label
