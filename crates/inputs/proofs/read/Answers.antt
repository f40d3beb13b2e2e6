-- By what the three readers say.
use Rattle.std.proofs.Common.{◌≡◌, sym, ap, ◌∙◌, rules}
use Rattle.std.specs.Prelude.{Err}
use Rattle.inputs.specs.Handed.{said}
use Rattle.inputs.proofs.Laws.{says_ok, says_err, refused_first, refused_second, refused_third, all_taken}
use Rattle.inputs.proofs.read.Goals as goal

pub returns-in_err-asked-clause-meant : goal.returns-in_err-asked-clause-meant
returns-in_err-asked-clause-meant c = λ P X.
    let no = says_err _ _ _ (sym c.says.ensures ∙ c.in_err-asked.was) in
    let out : c.from_residual.result ≡ Err c.in_err-asked.field-0.0 = search rules in
    ap said (out ∙ ap Err no.2) ∙ refused_first P _ _ _ _ _ (rw no.1 at (c.read.ensures.meant P.constants P.verbs X))

pub returns-in_err-entries-clause-meant : goal.returns-in_err-entries-clause-meant
returns-in_err-entries-clause-meant c = λ P X.
    let yes = says_ok _ _ _ (sym c.says.ensures ∙ c.in_ok-asked.was) in
    let no = says_err _ _ _ (sym c.says-2.ensures ∙ c.in_err-entries.was) in
    let out : c.from_residual-in_err-entries.result ≡ Err c.in_err-entries.field-0.0 = search rules in
    ap said (out ∙ ap Err no.2)
    ∙ refused_second P _ _ _ _ (rw yes at (c.read.ensures.meant P.constants P.verbs X)) _ _ (rw no.1 at (c.read-2.ensures.meant P.constants P.verbs _ X))

pub returns-in_err-links-clause-meant : goal.returns-in_err-links-clause-meant
returns-in_err-links-clause-meant c = λ P X.
    let yes = says_ok _ _ _ (sym c.says.ensures ∙ c.in_ok-asked.was) in
    let yes_too = says_ok _ _ _ (sym c.says-2.ensures ∙ c.in_ok-entries.was) in
    let no = says_err _ _ _ (sym c.says-3.ensures ∙ c.in_err-links.was) in
    let out : c.from_residual-in_err-links.result ≡ Err c.in_err-links.field-0.0 = search rules in
    ap said (out ∙ ap Err no.2)
    ∙ refused_third P _ _ _ _ (rw yes at (c.read.ensures.meant P.constants P.verbs X)) _ (rw yes_too at (c.read-2.ensures.meant P.constants P.verbs _ X)) _ _
    (rw no.1 at (c.read-3.ensures.meant P.constants P.verbs X))

pub returns-clause-meant : goal.returns-clause-meant
returns-clause-meant c = λ P X.
    let yes = says_ok _ _ _ (sym c.says.ensures ∙ c.in_ok-asked.was) in
    let yes_too = says_ok _ _ _ (sym c.says-2.ensures ∙ c.in_ok-entries.was) in
    let yes_all = says_ok _ _ _ (sym c.says-3.ensures ∙ c.in_ok-links.was) in
    all_taken P _ _ _ _ (rw yes at (c.read.ensures.meant P.constants P.verbs X)) _ (rw yes_too at (c.read-2.ensures.meant P.constants P.verbs _ X)) _
    (rw yes_all at (c.read-3.ensures.meant P.constants P.verbs X))
