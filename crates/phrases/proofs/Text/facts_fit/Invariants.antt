use Rattle.std.proofs.Common.{◌≡◌, ◌+◌, ◌-◌, ◌*◌, ◌≤◌}
use Rattle.kinds.specs.Cells.{feed}
use Rattle.phrases.specs.Phrases.{facts_asks}
use Rattle.phrases.proofs.Text.facts_fit.Given as goal

abbrev pub invariant-loop : goal.invariant-loop
invariant-loop l =
    let sg = l.self.signatures.now in
    let s = l.self.bytes.now in
    (l.here ≤ l.at + 2048 * l.counter)
    × (feed (facts_asks l.kinds sg s (l.n - l.counter) l.here) l.fitted ≡ feed (facts_asks l.kinds sg s l.n l.at) l.fn.cells)
