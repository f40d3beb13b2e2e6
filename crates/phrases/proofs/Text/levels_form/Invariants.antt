use Rattle.std.proofs.Common.{◌≡◌, ◌+◌, ◌-◌, ◌*◌, ◌≤◌, length}
use Rattle.phrases.specs.Phrases.{levels_form_by}
use Rattle.phrases.proofs.Text.levels_form.Given as goal

abbrev pub invariant-loop-i : goal.invariant-loop-i
invariant-loop-i l =
    let sg = l.self.signatures.now in
    let s = l.self.bytes.now in
    (l.at + 3 * l.i ≤ length s) × (levels_form_by sg s (l.levels - l.i) (l.at + 3 * l.i) ≡ levels_form_by sg s l.levels l.at)
