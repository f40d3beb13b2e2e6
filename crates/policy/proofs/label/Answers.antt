-- The part that is found lies in the policy, and is the label.
use mathlib.Core.Path.{ap, ◌∙◌}
use Rattle.policy.proofs.LabelFacts.{slice, Within, label_is, label_inside}
use Rattle.policy.proofs.label.Goals as goal

pub slice_bounds-result-count : goal.slice_bounds-result-count
slice_bounds-result-count c =
    let found : Within c.args.policy.now c.label_part-part.result = rw c.label_part-part.ensures (label_inside c.args.policy.now c.args.constant) in
    found.ordered

pub slice_bounds-result-start : goal.slice_bounds-result-start
slice_bounds-result-start c =
    let found : Within c.args.policy.now c.label_part-part.result = rw c.label_part-part.ensures (label_inside c.args.policy.now c.args.constant) in
    found.ordered

pub slice_bounds-result-end : goal.slice_bounds-result-end
slice_bounds-result-end c =
    let found : Within c.args.policy.now c.label_part-part.result = rw c.label_part-part.ensures (label_inside c.args.policy.now c.args.constant) in
    found.inside

pub returns : goal.returns
returns c = ap (slice c.args.policy.now) c.label_part-part.ensures ∙ label_is c.args.policy.now c.args.constant
