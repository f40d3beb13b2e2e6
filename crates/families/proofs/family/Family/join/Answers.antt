-- Three ways: it is new, there can be no more, it is marked.
use Rattle.families.proofs.Holding.{join_known, join_full, join_new}
use Rattle.families.proofs.family.Family.join.Goals as goal
use Rattle.families.proofs.family.Family.join.Goals.{else-self-at-eq0-via-then-self-at-eq0+else-self-lt-MOST, else-self-at-eq0-via-else-self-at-eq0}

pub returns-then-self-lt-MOST : goal.returns-then-self-lt-MOST
returns-then-self-lt-MOST c = let new = join_new c.args.self.now.held c.ranges.member.fits c.if-self-at-eq0.true c.if-self-lt-MOST.true in new.is

pub returns-else-self-at-eq0 : goal.returns-else-self-at-eq0
returns-else-self-at-eq0 c =
    elim c.else-self-at-eq0.branch [
      | else-self-at-eq0-via-then-self-at-eq0+else-self-lt-MOST w ↦
          let full = join_full c.args.self.now.held c.ranges.member.fits w.if-self-lt-MOST.false in full.is
      | else-self-at-eq0-via-else-self-at-eq0 w ↦
          let known = join_known c.args.self.now.held c.ranges.member.fits w.if-self-at-eq0.false in known.is
    ]
