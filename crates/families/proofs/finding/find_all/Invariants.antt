-- The invariant: the families of the entries from k on are found.
use mathlib.Core.Path.{◌≡◌}
use Rattle.families.specs.Laid.{links_in}
use Rattle.families.specs.Sets.{FoundFrom}
use Rattle.families.proofs.finding.find_all.Given as goal

abbrev pub invariant-loop-k : goal.invariant-loop-k
invariant-loop-k l =
    FoundFrom l.families l.entries l.k ×
    (links_in l.families l.entries ≡ links_in l.initial.families l.entries)
