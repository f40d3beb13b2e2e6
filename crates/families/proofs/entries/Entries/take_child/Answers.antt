-- The family of the child, where the entry has the parent; else nothing.
use Rattle.std.proofs.Common.{List, [], ◌∷◌, ℕ, sym, ap, ◌∙◌}
use mathlib.Core.List.{append-nil}
use Rattle.model.specs.Lists.{each}
use Rattle.families.specs.Kin.{child_in, family_in}
use Rattle.families.proofs.Children.{child_yes, child_no}
use Rattle.families.proofs.Uniting.{adds_none, adds_same}
use Rattle.families.proofs.entries.Entries.take_child.Goals as goal

-- the entry has the parent
pub returns-in_ok-take_in : goal.returns-in_ok-take_in
returns-in_ok-take_in c =
    let a = c.args in
    let x = a.self.now.families.now in
    let child = c.child.result in
    let is = child_yes x a.self.now.count a.key a.parent a.entry (sym c.is_in.ensures ∙ c.if-is_in.true) ∙ ap (λ (d : ℕ). d ∷ []) (sym c.child.ensures) in
    adds_same a.marks.now _ (family_in x a.self.now.count a.key child)
    (each (child_in x a.key a.parent a.entry) (family_in x a.self.now.count a.key))
    (ap (λ (l : List ℕ). each l (family_in x a.self.now.count a.key)) is ∙ append-nil (family_in x a.self.now.count a.key child)) c.in_ok-take_in.ensures

-- it has another
pub returns-else-is_in : goal.returns-else-is_in
returns-else-is_in c =
    let a = c.args in
    let x = a.self.now.families.now in
    adds_none a.marks.now (each (child_in x a.key a.parent a.entry) (family_in x a.self.now.count a.key))
    (ap (λ (l : List ℕ). each l (family_in x a.self.now.count a.key))
    (child_no x a.self.now.count a.key a.parent a.entry (sym c.is_in.ensures ∙ c.if-is_in.false)))
