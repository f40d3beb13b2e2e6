use Rattle.std.proofs.Common.{◌≡◌, drop, map}
use Rattle.kinds.specs.Cells.{feed}
use Rattle.phrases.specs.Phrases.{fact_asks}
use Rattle.phrases.specs.Outlines.{expressions_by}
use Rattle.phrases.proofs.Outlines.{ask_of}
use Rattle.phrases.proofs.Text.fact_fit.Given as goal

abbrev pub invariant-loop-k : goal.invariant-loop-k
invariant-loop-k l =
    let sg = l.self.signatures.now in
    let s = l.self.bytes.now in
    feed (map (ask_of l.kinds s) (drop l.k (expressions_by sg s l.at))) l.fitted ≡ feed (fact_asks l.kinds sg s l.at) l.fn.cells
