use Rattle.std.proofs.Common.{ℕ, ap₂, ◌∙◌, arith}
use Rattle.model.specs.Forms.{constant_form}
use Rattle.model.specs.Policies.{alike_constants, constant_item}
use Rattle.model.specs.Readings.{constant_read_at}
use Rattle.model.proofs.Shifts.{rest_constant, rest_constant_form}
use Rattle.names.specs.Names.{constant_right, constants_same}
use Rattle.names.proofs.NameFacts.{list_names}
use Rattle.names.proofs.constants.constants.Goals as goal

pub returns : goal.returns
unfolding constant_item
returns c =
    let s = c.args.bytes.now in
    let at = λ (p : ℕ). rest_constant s p 0 p (omega arith) in
    c.list.ensures ∙ list_names constant_right constants_same s (constant_read_at s) alike_constants (constant_form s)
    (λ p. rest_constant_form s p 0 p (omega arith)) (λ q p. ap₂ alike_constants (at q) (at p)) 1 255 c.args.at
