use Rattle.std.proofs.Common.{◌≡◌, ◌+◌, ◌-◌, ◌*◌, ◌≤◌}
use Rattle.phrases.specs.Phrases.{facts_next}
use Rattle.phrases.proofs.Text.facts_next.Given as goal

abbrev pub invariant-loop : goal.invariant-loop
invariant-loop l =
    let sg = l.self.signatures.now in
    let s = l.self.bytes.now in
    (l.end ≤ l.at + 2048 * l.counter) × (facts_next sg (l.n - l.counter) s l.end ≡ facts_next sg l.n s l.at)
