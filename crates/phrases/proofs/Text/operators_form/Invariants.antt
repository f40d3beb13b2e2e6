use Rattle.std.proofs.Common.{◌≡◌, ◌+◌, ◌-◌, ◌*◌}
use Rattle.model.specs.Forms.{operators_form}
use Rattle.phrases.proofs.Text.operators_form.Given as goal

abbrev pub invariant-loop-i : goal.invariant-loop-i
invariant-loop-i l = operators_form (l.n - l.i) l.self.bytes.now (l.at + 5 * l.i) ≡ operators_form l.n l.self.bytes.now l.at
