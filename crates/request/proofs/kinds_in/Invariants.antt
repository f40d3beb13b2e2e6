-- The kinds so far.
use Rattle.std.proofs.Common.{◌≡◌, ℕ, ◌<◌, length, get_or}
use Rattle.request.specs.Requests.{cell_kind}
use Rattle.request.proofs.kinds_in.Given as goal

abbrev pub invariant-loop-v : goal.invariant-loop-v
invariant-loop-v l = (length l.kinds ≡ 8) × ((k : ℕ) → k < l.v → get_or l.kinds k 0 ≡ cell_kind l.cells l.used k)
