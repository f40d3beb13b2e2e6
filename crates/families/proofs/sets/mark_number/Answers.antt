use Rattle.families.proofs.Uniting.{marking_went, marking_empty, marking_done}
use Rattle.families.proofs.sets.mark_number.Goals as goal

-- one is added
pub loop-member-preserved : goal.loop-member-preserved
loop-member-preserved c =
    marking_went c.loop-member.invariant c.loop-member-test.true _ c.mark_lowest.ensures

pub returns-then-rest-eq0 : goal.returns-then-rest-eq0
returns-then-rest-eq0 c = marking_empty c.loop-member.invariant c.if-rest-eq0.true

pub returns : goal.returns
returns c = marking_done c.loop-member.invariant c.loop-member-test.false
