-- What the reader keeps of the items before one, to see whether one of them is alike: their offsets, and chains of those that fall into one bucket.
use Rattle.std.specs.Prelude.{List, ℕ, Bool, true, ◌%◌, ◌≤◌, ◌<◌, ◌≡◌, length, drop, get_or}
use Rattle.model.specs.Syntax.{Constant, Verb}
use Rattle.model.specs.Bytes.{choose}
use Rattle.model.specs.Readings.{has_label}
use Rattle.labels.specs.Hash.{buckets, hash_of}
use Rattle.chains.specs.Offsets.{ChainedBy}

-- into which bucket a constant or a verb falls
abbrev pub constant_bucket : Constant → ℕ
constant_bucket c = choose (has_label c.kind) (hash_of c.label) (c.number % buckets)

abbrev pub verb_bucket : Verb → ℕ
verb_bucket v = hash_of v.label

-- the names that stand at `ats` in s are in chains, and of right form
pub record Listed (form : List ℕ → Bool) (bucket : List ℕ → ℕ) (s ats links : List ℕ) : Type 0 where
  pub chained : ChainedBy (λ at. bucket (drop at s)) links buckets ats (length ats)
  pub there : (j : ℕ) → j < length ats → get_or ats j 0 ≤ length s
  pub right : (j : ℕ) → j < length ats → form (drop (get_or ats j 0) s) ≡ true
