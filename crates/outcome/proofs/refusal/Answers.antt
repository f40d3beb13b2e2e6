use native.Mathlib.Omega.{arith}
use Rattle.outcome.proofs.Lines.{refused_is}
use Rattle.outcome.proofs.refusal.Goals as goal

-- the four parts, one after another
pub returns : goal.returns
returns c =
    let a = c.args in
    refused_is _ _ a.place _ c.side_word.ensures.is c.side_word.ensures.short (omega arith) c.labelled-end.ensures c.word-end.ensures c.digits-end.ensures
    c.word.ensures
