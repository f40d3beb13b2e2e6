-- Of the bytes that are left, the same is to be found as of all.
use Rattle.std.proofs.Common.{◌≡◌, ◌+◌, ◌-◌}
use Rattle.model.specs.Bytes.{bytes_at}
use Rattle.model.specs.Values as values
use Rattle.labels.proofs.alike.Given as goal

abbrev pub invariant-loop-i : goal.invariant-loop-i
invariant-loop-i l =
    values.alike (bytes_at (l.n - l.i) l.left (l.left_at + l.i)) (bytes_at (l.n - l.i) l.right (l.right_at + l.i))
    ≡ values.alike (bytes_at l.n l.left l.left_at) (bytes_at l.n l.right l.right_at)
