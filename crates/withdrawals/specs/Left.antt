-- Which assertions are left, by offsets: an assertion is known by where its item and its issuer stand in the policy.
use Rattle.std.specs.Prelude.{List, [], ◌∷◌, ◌++◌, Bool, ◌&&◌, not, ℕ, ◌+◌, ◌<◌, ◌≤◌, length, get_or, eqb}
use Rattle.model.specs.Lists.{only, any}
use Rattle.model.specs.Syntax.{Withdrawal, World}
use Rattle.model.specs.Bytes.{u16_at, u32_at}
use Rattle.model.specs.Withdrawals.{is_constant, removes}
use Rattle.model.specs.Entries.{withdrawal_at, withdrawal_end}
use Rattle.model.specs.Policies.{contents}
use Rattle.wire.specs.Budget.{farthest}
use Rattle.slices.specs.Items.{items_at}

-- n entries from p on
abbrev pub entries_at : List ℕ → ℕ → ℕ → List Withdrawal
entries_at s n p = contents (items_at (withdrawal_at s) (withdrawal_end s) n p)

-- an entry is for this issuer and serial
abbrev pub named : Withdrawal → ℕ → ℕ → Bool
named w issuer serial = is_constant w.issuer issuer && eqb w.serial serial

-- the assertion whose item and issuer stand there stays: its serial follows the item's 2-byte length
abbrev pub stays_at : World → List Withdrawal → List ℕ → ℕ → ℕ → Bool
stays_at W ws policy item issuer = not (any (removes W (u16_at policy issuer) (u32_at policy (item + 2))) ws)

-- of offsets of items and of their issuers, the issuers of those that pass a test
unfoldable pub picked : (ℕ → ℕ → Bool) → List ℕ → List ℕ → List ℕ
picked f [] js = []
picked f (i ∷ is) [] = []
picked f (i ∷ is) (j ∷ js) = only (f i j) j ++ picked f is js

-- what is lent: few entries, and the issuers of assertions
pub record Lent (issuers : List ℕ) (entries : ℕ) : Type 0 where
  pub few : entries ≤ 256
  pub near : (i : ℕ) → i < length issuers → get_or issuers i 0 + 8 ≤ farthest

-- and their items, of which there may be more
pub record Listed (items issuers : List ℕ) : Type 0 where
  pub all : length issuers ≤ length items
  pub near : (i : ℕ) → i < length issuers → get_or items i 0 + 8 ≤ farthest
