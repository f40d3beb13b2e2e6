use Rattle.std.proofs.Common.{◌≡◌, length, rules, of_calls, subst, sym}
use Rattle.std.specs.Array.{IsMapOf}
use Rattle.kinds.specs.declared.Cell.TheVariants.{Leads}
use Rattle.kinds.specs.Cells.{renamed}
use Rattle.kinds.proofs.Maps.{map_is}
use Rattle.kinds.proofs.relabel.Goals as goal

pub returns : goal.returns
returns c =
    let long : length c.args.cells ≡ 8 = search rules in
    map_is _ (renamed c.args.from c.args.to) (Leads 0) (Leads 0) c.args.cells c.map.result _ (λ x y q k. search (rules, of_calls))
    (subst (IsMapOf _ _ _ _) (sym long) c.map.ensures.items)
