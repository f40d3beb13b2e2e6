use Rattle.std.proofs.Common.{◌≡◌, ◌+◌, ◌-◌, ◌*◌}
use Rattle.model.specs.Readings.{ends_by}
use Rattle.nodes.specs.Tree.{end_in}
use Rattle.nodes.proofs.tree.Tree.+node_end_nodes_end.Given as goal

abbrev pub decreases-node_end : goal.decreases-node_end
decreases-node_end l = 2 * l.place.depth

abbrev pub decreases-nodes_end : goal.decreases-nodes_end
decreases-nodes_end l = 2 * l.place.depth + 1

-- what is left ends where the whole does
abbrev pub invariant-nodes_end-loop : goal.invariant-nodes_end-loop
invariant-nodes_end-loop l =
    let E = ends_by (end_in l.self.text.signatures.now l.self.text.bytes.now l.place.depth) in E (l.n - l.counter) l.end ≡ E l.n l.place.at
