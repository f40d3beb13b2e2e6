use Rattle.std.proofs.Common.{◌≡◌, ◌+◌, ◌-◌, ◌*◌}
use Rattle.nodes.specs.Tree.{nodes_in}
use Rattle.safety.specs.Safety.{known_all_in}
use Rattle.safety.proofs.+known_all_known_any_known_node.Given as goal

abbrev pub decreases-known_node : goal.decreases-known_node
decreases-known_node l = 512 * l.place.depth

abbrev pub decreases-known_all : goal.decreases-known_all
decreases-known_all l = 512 * l.place.depth + 1

abbrev pub decreases-known_any : goal.decreases-known_any
decreases-known_any l = 512 * l.place.depth + l.n + 1

-- what is left gives the same as the whole
abbrev pub invariant-known_all-loop : goal.invariant-known_all-loop
invariant-known_all-loop l =
    let N = nodes_in l.tree.text.signatures.now l.tree.text.bytes.now l.place.depth in
    known_all_in (N (l.n - l.counter) l.at) l.after ≡ known_all_in (N l.n l.place.at) l.fn.known
