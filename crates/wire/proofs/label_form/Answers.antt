use Rattle.std.proofs.Common.{◌≡◌, ◌∙◌, ◌+◌, ◌-◌, take, drop, rules, tests}
use Rattle.std.specs.List.{list_all}
use Rattle.std.proofs.lemmas.Iterator.{YieldsList-from_slice}
use Rattle.std.proofs.lemmas.Iterator.Search.{all_from_yields_List}
use Rattle.model.specs.Forms.{label_byte, label_form}
use Rattle.wire.proofs.Reading.{reading}
use Rattle.wire.proofs.Laws.{all_part}
use Rattle.wire.proofs.label_form.Goals as goal

pub returns-then-n-le-LABEL : goal.returns-then-n-le-LABEL
unfolding label_form
returns-then-n-le-LABEL c =
    let a = c.args in
    let part = take (a.at + a.n - a.at) (drop a.at a.bytes.now) in
    let tested : c.all.result ≡ list_all label_byte part =
    all_from_yields_List label_byte _ _ _ c.all.ensures.ran (YieldsList-from_slice part c.iter.ensures.rest) (λ x b q k. search (rules, tests)) in
    let e = tested ∙ all_part label_byte a.n a.bytes.now a.at c.requires in
    search (reading, rules)
