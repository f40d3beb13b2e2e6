-- The child joins, where the entry has the parent; else nothing does.
use Rattle.std.proofs.Common.{ℕ, List, sym, ap, ◌∙◌}
use Rattle.rules.specs.Families.{join_all}
use Rattle.families.specs.Members.{members_of}
use Rattle.families.proofs.Children.{child_yes, child_no}
use Rattle.families.proofs.family.Family.join_child.Goals as goal

-- the entry has the parent
pub returns-then-is_in : goal.returns-then-is_in
unfolding join_all
returns-then-is_in c =
    let a = c.args in
    let x = a.entries.now.families.now in
    rw (child_yes x 0 a.key a.parent a.k (sym c.is_in.ensures ∙ c.if-is_in.true), ← c.child.ensures) c.join.ensures

-- it has another
pub returns-else-is_in : goal.returns-else-is_in
unfolding join_all
returns-else-is_in c =
    let a = c.args in
    sym (ap (λ (l : List ℕ). join_all l (members_of a.self.now))
    (child_no a.entries.now.families.now 0 a.key a.parent a.k (sym c.is_in.ensures ∙ c.if-is_in.false)))
