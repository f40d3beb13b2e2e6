-- The invariant: the first k entries are laid out.
use Rattle.families.specs.Laid.{LaidTo}
use Rattle.families.proofs.laying.lay_entries.Given as goal

-- how many are laid out
abbrev pub invariant-loop-k : goal.invariant-loop-k
invariant-loop-k l = LaidTo l.families l.entries l.k l.hierarchy
