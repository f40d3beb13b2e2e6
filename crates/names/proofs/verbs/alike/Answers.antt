use Rattle.std.proofs.Common.{◌∙◌, arith}
use borrow.Author.Tests.{ne_eqb}
use Rattle.labels.proofs.Laws.{parts_same, parts_differ}
use Rattle.names.proofs.FormFacts.{verb_long, verbs_alike}
use Rattle.names.proofs.verbs.alike.Goals as goal

pub returns-then-n-b : goal.returns-then-n-b
returns-then-n-b c =
    let h = verb_long _ c.requires.0 in
    verbs_alike _ _ _ (rw (← c.byte-arity.ensures.0, ← c.byte.ensures.0, ← c.byte-b.ensures.0, ← c.byte-2.ensures.0)
    (parts_same _ _ _ _ _ _ _ (omega arith) c.alike.ensures))

pub returns-else-n-b : goal.returns-else-n-b
returns-else-n-b c =
    let h = verb_long _ c.requires.0 in
    verbs_alike _ _ _ (rw (← c.byte-arity.ensures.0, ← c.byte.ensures.0, ← c.byte-b.ensures.0, ← c.byte-2.ensures.0)
    (ne_eqb _ _ c.if-n-b.false ∙ parts_differ _ _ _ _ _ _ (λ e. c.if-n-b.false (omega arith))))
