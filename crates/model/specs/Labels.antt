-- "For a principal or thing, the label handed out is that part of the caller's policy bytes; for other kinds, numbers not present and policies not accepted
-- it is an empty part." Here: which bytes the part holds.
use Rattle.std.specs.Prelude.{ℕ, List, [], get_or}
use Rattle.model.specs.Kinds.{no_constant}
use Rattle.model.specs.Bytes.{Reading, got, refused}
use Rattle.model.specs.Reader.{contents}
use Rattle.model.specs.Layout.{Accepted, read_policy}

-- a day and a quantity have no label
unfoldable pub label_in : Reading Accepted → ℕ → List ℕ
label_in (got A e) c = (get_or (contents A.constants) c no_constant).label
label_in (refused n p) c = []

unfoldable pub label_of : List ℕ → ℕ → List ℕ
label_of policy c = label_in (read_policy policy) c
