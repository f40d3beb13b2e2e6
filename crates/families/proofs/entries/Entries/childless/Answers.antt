-- The bucket has no entry.
use Rattle.std.proofs.Common.{◌≡◌, ℕ, Bool, true, false, not, Option, None, Some, refl, sym, ap, ◌∙◌}
use Rattle.std.specs.Option.{is_some}
use Rattle.std.proofs.lemmas.Option.{MatchOption-at_none}
use Rattle.families.proofs.Children.{left, left_all}
use Rattle.families.proofs.entries.Entries.childless.Goals as goal

none_is : (o : Option ℕ) (b : Bool) → is_some o ≡ not b → b ≡ true → o ≡ None
none_is None b e t = refl
none_is (Some i) true e t = absurd cc
none_is (Some i) false e t = absurd cc

pub returns : goal.returns
returns c t =
    let s = c.args.self.now in
    let none = MatchOption-at_none _ _ (none_is c.next.result c.is_none.result c.is_none.ensures t) c.next.ensures.steps in
    sym (left_all s.families.now s.count c.args.key c.args.constant s.entered c.under.ensures)
    ∙ ap (left s.families.now s.count c.args.key c.args.constant) none.0
