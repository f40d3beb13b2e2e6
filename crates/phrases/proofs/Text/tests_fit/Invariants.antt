use Rattle.std.proofs.Common.{◌≡◌, ◌+◌, ◌-◌, ◌*◌}
use Rattle.kinds.specs.Cells.{feed}
use Rattle.phrases.specs.Phrases.{tests_asks}
use Rattle.phrases.proofs.Text.tests_fit.Given as goal

abbrev pub invariant-loop-i : goal.invariant-loop-i
invariant-loop-i l =
    let A = tests_asks l.kinds l.self.bytes.now in
    feed (A (l.n - l.i) (l.at + 5 * l.i)) l.fitted ≡ feed (A l.n l.at) l.fn.cells
