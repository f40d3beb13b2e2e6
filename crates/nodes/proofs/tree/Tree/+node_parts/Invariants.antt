use Rattle.std.proofs.Common.{◌≡◌, ◌+◌, ◌-◌, ◌*◌}
use Rattle.nodes.specs.Nodes.{reads_by, read_in}
use Rattle.nodes.proofs.tree.Tree.+node_parts.Given as goal

abbrev pub decreases-node : goal.decreases-node
decreases-node l = 2 * l.depth

abbrev pub decreases-parts : goal.decreases-parts
decreases-parts l = 2 * l.depth + 1

-- what is left gives the same as the whole
abbrev pub invariant-parts-loop : goal.invariant-parts-loop
invariant-parts-loop l =
    let R = reads_by (read_in l.kinds l.self.text.signatures.now l.self.text.bytes.now l.depth) in
    R (l.n - l.counter) l.reached.at l.reached.cells ≡ R l.n l.fn.from.at l.fn.from.cells
