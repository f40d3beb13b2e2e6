use Rattle.std.proofs.Common.{sym, ap, ◌∙◌, arith}
use Rattle.model.specs.Readings.{has_label}
use Rattle.names.proofs.FormFacts.{constant_two, alike_labels_law}
use borrow.Author.Tests.{ne_eqb}
use Rattle.labels.proofs.Laws.{parts_differ}
use Rattle.names.proofs.constants.alike.Goals as goal

pub returns-else-n-byte : goal.returns-else-n-byte
returns-else-n-byte c =
    alike_labels_law _ _ _ (sym c.byte-kind.ensures.0 ∙ c.if-kind-byte.false ∙ c.byte.ensures.0)
    (ap has_label (sym c.byte-kind.ensures.0) ∙ sym c.has_label.ensures ∙ c.if-has_label.true)
    (rw (← c.byte-n.ensures.0, ← c.byte-then-has_label.ensures.0)
    (ne_eqb _ _ c.if-n-byte.false ∙ parts_differ _ _ _ _ _ _ (λ e. c.if-n-byte.false (omega (arith, e, constant_two _ 0 c.requires.0)))))
