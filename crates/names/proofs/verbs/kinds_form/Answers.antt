use Rattle.std.proofs.Common.{◌≡◌, ◌∙◌, ◌+◌, ◌-◌, take, drop, rules, tests}
use Rattle.std.specs.List.{list_all}
use Rattle.std.proofs.lemmas.Iterator.{YieldsList-from_slice}
use Rattle.std.proofs.lemmas.Iterator.Search.{all_from_yields_List}
use Rattle.model.specs.Forms.{is_kind}
use Rattle.wire.proofs.Laws.{all_part}
use Rattle.names.proofs.verbs.kinds_form.Goals as goal

pub returns : goal.returns
returns c =
    let a = c.args in
    let part = take (2 + a.arity - 2) (drop 2 a.item.now) in
    let tested : c.all.result ≡ list_all is_kind part =
    all_from_yields_List is_kind _ _ _ c.all.ensures.ran (YieldsList-from_slice part c.iter.ensures.rest) (λ x b q k. search (rules, tests)) in
    tested ∙ all_part is_kind a.arity a.item.now 2 c.requires
