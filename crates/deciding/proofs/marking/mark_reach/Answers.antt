-- The marks that `reached` gives over what is left are those of the model's reach.
use mathlib.Core.Path.{refl, ◌∙◌}
use mathlib.Core.List.{[]}
use lib.ListN.{length}
use Rattle.model.specs.Withdrawals.{left_in}
use Rattle.model.specs.Policies.{policy_of}
use Rattle.model.specs.Deciding.{read}
use Rattle.demands.specs.Lookups.{reach_of}
use Rattle.deciding.proofs.MarkLaws.{bytes_marks}
use Rattle.deciding.proofs.marking.mark_reach.Goals as goal

pub left-n-requires : goal.left-n-requires
left-n-requires c = let p = c.requires in (refl, (c.args.request.now, p.0, p.1, p.2, p.3, p.4))

pub reached-reach-requires : goal.reached-reach-requires
reached-reach-requires c =
    let p = c.requires in
    let leaves = c.left-n.ensures.leaves c.args.request.now p.0 p.1 p.2 [] p.3 p.4 in
    ((p.0, p.1, left_in (read (policy_of p.0) p.1 p.2 []), p.3.accepts, leaves), p.3.short)

pub returns : goal.returns
returns c =
    λ A q ws H k d.
    let R = read (policy_of A) q ws H in
    let leaves = c.left-n.ensures.leaves c.args.request.now A q ws H k d in
    let marks = c.reached-reach.ensures A q H (left_in R) k.accepts leaves in
    c.mark.ensures ∙ bytes_marks (reach_of R) c.reached-reach.result marks (length c.args.marks.now) 0
