use Rattle.std.proofs.Common.{◌≡◌, ◌+◌, ◌-◌, ◌*◌}
use Rattle.nodes.specs.Tree.{nodes_in}
use Rattle.nodes.specs.Walk.{all_walked}
use Rattle.nodes.proofs.tree.Tree.+walk_walk_parts.Given as goal

abbrev pub decreases-walk : goal.decreases-walk
decreases-walk g l = 2 * l.place.depth

abbrev pub decreases-walk_parts : goal.decreases-walk_parts
decreases-walk_parts g l = 2 * l.place.depth + 1

-- with what is left, the state is that of the whole
abbrev pub invariant-walk_parts-loop : goal.invariant-walk_parts-loop
invariant-walk_parts-loop g l =
    let N = nodes_in l.self.text.signatures.now l.self.text.bytes.now l.place.depth in
    all_walked (g.V.Visit.steps l.visit) (N (l.n - l.counter) l.at) l.walked ≡ all_walked (g.V.Visit.steps l.visit) (N l.n l.place.at) l.fn.state
