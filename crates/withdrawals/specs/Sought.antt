-- How an assertion's entries are found: the entries whose constraints hold, by their offsets, in chains by issuer and serial.
use Rattle.std.specs.Prelude.{List, Bool, not, ℕ, ◌+◌, ◌<◌, ◌≤◌, length, get_or}
use Rattle.std.proofs.Props.{props}
use Rattle.model.specs.Lists.{any, all, keep}
use Rattle.model.specs.Syntax.{World}
use Rattle.model.specs.Values.{passes}
use Rattle.model.specs.Bytes.{u16_at, u32_at}
use Rattle.model.specs.Withdrawals.{no_binding}
use Rattle.model.specs.Entries.{withdrawal_at, withdrawal_end}
use Rattle.wire.specs.Budget.{farthest}
use Rattle.fact.specs.Packed.{spread}
use Rattle.slices.specs.Items.{starts_at}
use Rattle.chains.specs.Offsets.{ChainedBy}
use Rattle.withdrawals.specs.Left.{named}

-- ---- entries by their offsets

-- the constraints of the entry at an offset hold: an entry has no variables, so whichever assertion it is for
abbrev pub holds_at : World → List ℕ → ℕ → Bool
holds_at W s at = all (passes W no_binding) (withdrawal_at s at).tests

-- of n entries from p on, where those stand whose constraints hold
abbrev pub holding_at : World → List ℕ → ℕ → ℕ → List ℕ
holding_at W s n p = keep (holds_at W s) (starts_at (withdrawal_end s) n p)

-- the entry at an offset is for this issuer and serial
abbrev pub named_at : List ℕ → ℕ → ℕ → ℕ → Bool
named_at s issuer serial at = named (withdrawal_at s at) issuer serial

-- none of the entries at these offsets is for the assertion whose item and issuer stand there
abbrev pub unnamed_at : List ℕ → List ℕ → List ℕ → ℕ → ℕ → Bool
unnamed_at s ats policy item issuer = not (any (named_at s (u16_at policy issuer) (u32_at policy (item + 2))) ats)

-- offsets of entries
pub record Within (ats : List ℕ) : Type 0 where
  pub few : length ats ≤ 256
  pub near : (i : ℕ) → i < length ats → get_or ats i 0 + 2048 ≤ farthest

-- ---- their chains: entry i stands at offset i - 1 of `ats`

abbrev pub buckets : ℕ
buckets = 256

-- for an issuer and a serial, and for the entry at an offset
abbrev pub bucket_of : ℕ → ℕ → ℕ
bucket_of issuer serial = spread buckets issuer serial 0 0

abbrev pub bucket_at : List ℕ → ℕ → ℕ
bucket_at s at = bucket_of (u16_at s at) (u32_at s (at + 2))

-- all are in their chains
pub record Linked (s ats links : List ℕ) : Type 0 where
  pub within : Within ats
  pub chained : ChainedBy (bucket_at s) links buckets ats (length ats)

-- there is one proof of it at most, as of any fact that a type promises
pub Linked-prop : (s ats links : List ℕ) → IsProp (Linked s ats links)
Linked-prop s ats links = Prim.hlevel props
