-- The walk over a tree, one step on.
use Rattle.std.proofs.Common.{◌≡◌, refl, List, ℕ, ◌+◌, ◌-◌, ◌≤◌, ◌<◌, ◌⊎◌, inl, inr, Some, None}
use Rattle.model.specs.Syntax.{Nodes, end, more}
use Rattle.model.specs.Bytes.{byte_at}
use Rattle.model.specs.Readings.{expr_at, constraint_at}
use Rattle.phrases.specs.Phrases.{fact_by}
use Rattle.nodes.specs.Tree.{shape_at, shape_in, end_in, tree_in, nodes_in}
use Rattle.nodes.specs.Walk.{Steps, walked, all_walked, Settled}
use Rattle.nodes.specs.declared.shape.Shape.TheVariants.{Says, Test, All, Any, Not, Exists}
use Rattle.nodes.proofs.TreeSteps.{nodes_done, nodes_next, tree_none, tree_says, tree_test, tree_all, tree_any, tree_not, tree_exists}

-- a state that no node changes is the state after any nodes
settled_all : {S : Type 0} (w : Steps S) (m : S) → Settled w m → (ns : Nodes) → all_walked w ns m ≡ m
unfolding all_walked
settled_all w m h end = refl
settled_all w m h (more n ns) = rw (h n) (settled_all w m h ns)

module _ {S : Type 0} (w : Steps S) (sg s : List ℕ) where
  module _ (d at : ℕ) (m : S) where
    pub walk_none : shape_in s d at ≡ None → walked w (tree_in sg s d at) m ≡ m
    unfolding walked all_walked
    walk_none g = rw (tree_none sg s d at g)

    module _ (n : d ≡ 0 → ⊥) where
      pub walk_says : shape_at s at ≡ Some Says → walked w (tree_in sg s d at) m ≡ w.at_says (expr_at s (at + 1)) (fact_by sg s (at + 3)) m
      unfolding walked
      walk_says g = rw (tree_says sg s d at n g)

      pub walk_test : shape_at s at ≡ Some Test → walked w (tree_in sg s d at) m ≡ w.at_test (constraint_at s (at + 1)) m
      unfolding walked
      walk_test g = rw (tree_test sg s d at n g)

      pub walk_inside : (shape_at s at ≡ Some All) ⊎ (shape_at s at ≡ Some Any)
          → walked w (tree_in sg s d at) m ≡ all_walked w (nodes_in sg s (d - 1) (byte_at s (at + 1)) (at + 2)) m
      unfolding walked
      walk_inside (inl g) = rw (tree_all sg s d at n g)
      walk_inside (inr g) = rw (tree_any sg s d at n g)

      pub walk_not : shape_at s at ≡ Some Not → walked w (tree_in sg s d at) m ≡ walked w (tree_in sg s (d - 1) (at + 1)) m
      unfolding walked
      walk_not g = rw (tree_not sg s d at n g)

      pub walk_exists : shape_at s at ≡ Some Exists
          → walked w (tree_in sg s d at) m
          ≡ w.leave (byte_at s (at + 1)) m (walked w (tree_in sg s (d - 1) (at + 2)) (w.enter (byte_at s (at + 1)) m))
      unfolding walked
      walk_exists g = rw (tree_exists sg s d at n g)

  module _ (d n i at : ℕ) (m : S) where
    pub walk_done : n ≤ i → all_walked w (nodes_in sg s d (n - i) at) m ≡ m
    unfolding all_walked
    walk_done h = rw (nodes_done (tree_in sg s d) (end_in sg s d) n i at h)

    pub walk_next : i < n
        → all_walked w (nodes_in sg s d (n - i) at) m ≡ all_walked w (nodes_in sg s d (n - (i + 1)) (end_in sg s d at)) (walked w (tree_in sg s d at) m)
    unfolding all_walked
    walk_next h = rw (nodes_next (tree_in sg s d) (end_in sg s d) n i at h)

    -- and after a node with such a state
    pub walk_settled : i < n → Settled w (walked w (tree_in sg s d at) m) → all_walked w (nodes_in sg s d (n - i) at) m ≡ walked w (tree_in sg s d at) m
    walk_settled h f = rw (walk_next h) (settled_all w (walked w (tree_in sg s d at) m) f (nodes_in sg s d (n - (i + 1)) (end_in sg s d at)))

pub ruleset walk_steps = (walk_none, walk_says, walk_test, walk_inside, walk_not, walk_exists, walk_done, walk_next, walk_settled)
