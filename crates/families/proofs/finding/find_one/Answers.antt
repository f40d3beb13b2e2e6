-- The family is found where entry k has the set, and else stands with another entry.
use Rattle.families.proofs.Keeping.{found_more, found_links}
use Rattle.families.proofs.finding.find_one.Goals as goal

-- it was found
pub returns-then-eq : goal.returns-then-eq
returns-then-eq c =
    let long = c.find.auto.families in
    (found_more c.requires.0 c.requires.1 c.find.ensures long, found_links c.requires.0 c.requires.1 c.find.ensures long)
