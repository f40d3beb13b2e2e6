use Rattle.families.proofs.Marking.{bit_from}
use Rattle.families.proofs.sets.bit.Goals as goal

-- a mark is 0, or counts as 1
pub returns : goal.returns
returns c = bit_from _ c.from.result c.from.ensures
