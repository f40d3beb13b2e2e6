use Rattle.std.proofs.Common.{ℕ, ap₂, ◌∙◌, arith}
use Rattle.model.specs.Forms.{verb_form}
use Rattle.model.specs.Policies.{alike_verbs, verb_item}
use Rattle.model.specs.Readings.{verb_at}
use Rattle.model.proofs.Shifts.{rest_verb, rest_verb_form}
use Rattle.names.specs.Names.{verb_right, verbs_same}
use Rattle.names.proofs.NameFacts.{list_names}
use Rattle.names.proofs.verbs.verbs.Goals as goal

pub returns : goal.returns
unfolding verb_item
returns c =
    let s = c.args.bytes.now in
    let at = λ (p : ℕ). rest_verb s p 0 p (omega arith) in
    c.list.ensures ∙ list_names verb_right verbs_same s (verb_at s) alike_verbs (verb_form s)
    (λ p. rest_verb_form s p 0 p (omega arith)) (λ q p. ap₂ alike_verbs (at q) (at p)) 0 64 c.args.at
