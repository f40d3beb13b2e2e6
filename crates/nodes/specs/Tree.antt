-- The tree of nodes in a request's bytes, and where it ends, as the code finds them: by the table of verbs.
use Rattle.std.specs.Prelude.{ℕ, zero, suc, ◌+◌, List, ◌==◌, if◌then◌else◌, Option, Some, None}
use Rattle.model.specs.Syntax.{Node, Nodes, says, test, all_of, any_of, non, exists, end}
use Rattle.model.specs.Bytes.{byte_at}
use Rattle.model.specs.Readings.{expr_at, constraint_at, ends_by, nodes_by}
use Rattle.phrases.specs.Phrases.{fact_by, fact_next}
use Rattle.nodes.specs.declared.shape.Shape.{Shape}
use Rattle.nodes.specs.declared.shape.Shape.TheVariants.{Says, Test, All, Any, Not, Exists}

-- what a node is by its first byte; by other bytes, and past the end, there is none
unfoldable pub shape_of : ℕ → Option Shape
shape_of b =
    if b == 1 then Some Says
    else (if b == 2 then Some Test
    else (if b == 3 then Some All else (if b == 4 then Some Any else (if b == 5 then Some Not else (if b == 6 then Some Exists else None)))))

abbrev pub shape_at : List ℕ → ℕ → Option Shape
shape_at s at = shape_of (byte_at s at)

-- the same where d levels are left; where none is, there is no node
abbrev pub shape_in : List ℕ → ℕ → ℕ → Option Shape
shape_in s d at = if d == 0 then None else shape_at s at

module _ (sg s : List ℕ) where
  -- ---- where the node at `at` ends, which may hold others d - 1 deep

  unfoldable pub end_of : Option Shape → (ℕ → ℕ) → ℕ → ℕ
  end_of (Some Says) g at = fact_next sg s (at + 3)
  end_of (Some Test) g at = at + 6
  end_of (Some All) g at = ends_by g (byte_at s (at + 1)) (at + 2)
  end_of (Some Any) g at = ends_by g (byte_at s (at + 1)) (at + 2)
  end_of (Some Not) g at = g (at + 1)
  end_of (Some Exists) g at = g (at + 2)
  end_of None g at = at

  unfoldable pub end_in : ℕ → ℕ → ℕ
  end_in zero at = at
  end_in (suc d) at = end_of (shape_at s at) (end_in d) at

  -- ---- and what it is

  unfoldable pub tree_of : Option Shape → (ℕ → Node) → (ℕ → ℕ) → ℕ → Node
  tree_of (Some Says) f g at = says (expr_at s (at + 1)) (fact_by sg s (at + 3))
  tree_of (Some Test) f g at = test (constraint_at s (at + 1))
  tree_of (Some All) f g at = all_of (nodes_by f g (byte_at s (at + 1)) (at + 2))
  tree_of (Some Any) f g at = any_of (nodes_by f g (byte_at s (at + 1)) (at + 2))
  tree_of (Some Not) f g at = non (f (at + 1))
  tree_of (Some Exists) f g at = exists (byte_at s (at + 1)) (f (at + 2))
  tree_of None f g at = all_of end

  unfoldable pub tree_in : ℕ → ℕ → Node
  tree_in zero at = all_of end
  tree_in (suc d) at = tree_of (shape_at s at) (tree_in d) (end_in d) at

  -- n nodes, the first at `at`
  abbrev pub nodes_in : ℕ → ℕ → ℕ → Nodes
  nodes_in d n at = nodes_by (tree_in d) (end_in d) n at
