-- What a slice says by number, for those who lay it out: "A fourth slice lists verb, parameter position from 1, parent and child".
use Rattle.std.specs.Prelude.{List, [], ◌∷◌, ◌++◌, ℕ, zero, suc, ◌+◌, ◌*◌, ◌≤◌, ◌<◌}
use Rattle.model.specs.Limits.{max_constants, max_verbs, max_arity, max_links, link_bytes, header_bytes}
use Rattle.model.specs.Syntax.{Link}
use Rattle.model.specs.Entries.{link_at}
use Rattle.hierarchy.specs.declared.Numbers.{Numbers}

-- entry k: entries stand one after another behind their count
abbrev pub entry_at : List ℕ → ℕ → Link
entry_at s k = link_at s (header_bytes + 2 + link_bytes * k)

-- the first n of what has numbers
unfoldable pub firstly : (ℕ → Link) → ℕ → List Link
firstly f zero = []
firstly f (suc n) = firstly f n ++ f n ∷ []

-- the first n entries
unfoldable pub links_of : List ℕ → ℕ → List Link
links_of s n = firstly (entry_at s) n

-- an entry as the code hands it out
abbrev pub told : Link → Numbers
told l = record { verb = l.verb; position = l.position; parent = l.parent; child = l.child }

-- the numbers of an entry that fits an accepted policy
pub record Fitting (l : Link) : Type 0 where
  pub verb : l.verb ≤ max_verbs
  pub first : 1 ≤ l.position
  pub within : l.position ≤ max_arity
  pub parent : l.parent < max_constants
  pub child : l.child < max_constants

-- the slice has n entries, as those of an accepted one are (`proofs/Accepted`)
pub record Right (s : List ℕ) (n : ℕ) : Type 0 where
  pub few : n ≤ max_links
  pub each : (k : ℕ) → k < n → Fitting (entry_at s k)
