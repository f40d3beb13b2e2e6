use Rattle.outcome.proofs.Lines.{counts_are}
use Rattle.outcome.proofs.counted.Goals as goal

-- the three numbers, each after its word, and the end of the line
pub returns : goal.returns
returns c =
    let a = c.args in
    counts_are a.at a.facts a.rounds a.answers c.labelled-end.ensures c.labelled-end-2.ensures c.labelled-end-3.ensures c.word.ensures
