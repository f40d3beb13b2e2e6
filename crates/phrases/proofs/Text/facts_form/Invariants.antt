use Rattle.std.proofs.Common.{◌≡◌, ◌-◌}
use Rattle.phrases.specs.Phrases.{facts_form_by}
use Rattle.phrases.proofs.Text.facts_form.Given as goal

abbrev pub invariant-loop : goal.invariant-loop
invariant-loop l =
    let sg = l.self.signatures.now in
    let s = l.self.bytes.now in
    facts_form_by sg s (l.n - l.counter) l.end ≡ facts_form_by sg s l.n l.at
