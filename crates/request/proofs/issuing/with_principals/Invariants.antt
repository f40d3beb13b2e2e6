-- What is marked, with the principals from constant c on, is what was marked with all principals.
use Rattle.std.proofs.Common.{◌≡◌}
use Rattle.model.specs.Limits.{principal}
use Rattle.model.specs.Values.{of_kind}
use Rattle.phrases.specs.Marks.{marked}
use Rattle.request.specs.Issuing.{constants_by}
use Rattle.request.proofs.IssuerSteps.{rest}
use Rattle.request.proofs.issuing.with_principals.Given as goal

abbrev pub invariant-loop-c : goal.invariant-loop-c
invariant-loop-c l = rest l.kinds l.c l.joined ≡ marked (of_kind principal 0 (constants_by l.kinds)) l.fn.marks
