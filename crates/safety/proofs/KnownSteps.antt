-- Known variables, one step on.
use Rattle.std.specs.Prelude.{◌≡◌, ℕ, zero, suc, ◌+◌, ◌-◌, ◌≤◌, ◌<◌, List, get_or, Some, None, option_and_then}
use Rattle.std.proofs.Common.{refl}
use borrow.Author.Tests.{eq-eqb, ne_eqb}
use Rattle.model.specs.Syntax.{Expr, vars_of, vars_in, vars_test}
use Rattle.model.specs.Requests.{free}
use Rattle.model.specs.Bytes.{byte_at}
use Rattle.model.specs.Readings.{expr_at, constraint_at}
use Rattle.phrases.specs.Phrases.{levels_by, fact_by}
use Rattle.phrases.specs.Marks.{none, marked, meet}
use Rattle.nodes.specs.Tree.{shape_at, shape_in, end_in, tree_in, nodes_in}
use Rattle.safety.specs.Safety.{full, needed, dropped, known_says, known_in, known_all_in, known_any_in}
use Rattle.nodes.specs.declared.shape.Shape.TheVariants.{Says, Test, All, Any, Not, Exists}
use Rattle.nodes.proofs.TreeSteps.{nodes_done, nodes_next, nodes_none, nodes_more}
use Rattle.nodes.proofs.TreeSteps.{tree_none, tree_says, tree_test, tree_all, tree_any, tree_not, tree_exists}

module _ (sg s : List ℕ) where
  -- a says node, flat and nested
  flat : (e : Expr) (k p : ℕ) (m : List ℕ) → k ≡ 0 → known_says e (levels_by sg k s p) m ≡ Some (marked (vars_in (levels_by sg k s p)) (marked (vars_of e) m))
  unfolding levels_by known_says
  flat e k p m h = rw h

  nested : (e : Expr) (k p : ℕ) (m : List ℕ) → (k ≡ 0 → ⊥)
      → known_says e (levels_by sg k s p) m ≡ needed (marked (vars_in (levels_by sg k s p)) none) m (marked (vars_of e) m)
  unfolding levels_by known_says
  nested e zero p m h = absurd (h refl)
  nested e (suc k) p m h = refl

  pub says_flat : (e : Expr) (p : ℕ) (m : List ℕ) → byte_at s p ≡ 0
      → known_says e (fact_by sg s p) m ≡ Some (marked (vars_in (fact_by sg s p)) (marked (vars_of e) m))
  unfolding fact_by
  says_flat e p m = flat e (byte_at s p) (p + 1) m

  pub says_nested : (e : Expr) (p : ℕ) (m : List ℕ) → (byte_at s p ≡ 0 → ⊥)
      → known_says e (fact_by sg s p) m ≡ needed (marked (vars_in (fact_by sg s p)) none) m (marked (vars_of e) m)
  unfolding fact_by
  says_nested e p m = nested e (byte_at s p) (p + 1) m

  module _ (d at : ℕ) (m : List ℕ) where
    pub known_none : shape_in s d at ≡ None → known_in (tree_in sg s d at) m ≡ Some m
    unfolding known_in known_all_in
    known_none g = rw (tree_none sg s d at g)

    module _ (n : d ≡ 0 → ⊥) where
      pub known_at_says : shape_at s at ≡ Some Says → known_in (tree_in sg s d at) m ≡ known_says (expr_at s (at + 1)) (fact_by sg s (at + 3)) m
      unfolding known_in
      known_at_says g = rw (tree_says sg s d at n g)

      pub known_at_test : shape_at s at ≡ Some Test → known_in (tree_in sg s d at) m ≡ needed (marked (vars_test (constraint_at s (at + 1))) none) m m
      unfolding known_in
      known_at_test g = rw (tree_test sg s d at n g)

      pub known_at_all : shape_at s at ≡ Some All → known_in (tree_in sg s d at) m ≡ known_all_in (nodes_in sg s (d - 1) (byte_at s (at + 1)) (at + 2)) m
      unfolding known_in
      known_at_all g = rw (tree_all sg s d at n g)

      pub known_at_any : shape_at s at ≡ Some Any → known_in (tree_in sg s d at) m ≡ known_any_in (nodes_in sg s (d - 1) (byte_at s (at + 1)) (at + 2)) m
      unfolding known_in
      known_at_any g = rw (tree_any sg s d at n g)

      pub known_at_not : shape_at s at ≡ Some Not
          → known_in (tree_in sg s d at) m
          ≡ option_and_then (λ _. option_and_then (λ _. Some m) (known_in (tree_in sg s (d - 1) (at + 1)) m))
          (needed (marked (free (tree_in sg s (d - 1) (at + 1))) none) m m)
      unfolding known_in
      known_at_not g = rw (tree_not sg s d at n g)

      pub known_new : shape_at s at ≡ Some Exists → get_or m (byte_at s (at + 1)) 0 ≡ 0
          → known_in (tree_in sg s d at) m ≡ option_and_then (dropped (byte_at s (at + 1))) (known_in (tree_in sg s (d - 1) (at + 2)) m)
      unfolding known_in
      known_new g o = rw (tree_exists sg s d at n g, eq-eqb (get_or m (byte_at s (at + 1)) 0) 0 o)

      pub known_again : shape_at s at ≡ Some Exists → (get_or m (byte_at s (at + 1)) 0 ≡ 0 → ⊥) → known_in (tree_in sg s d at) m ≡ None
      unfolding known_in
      known_again g o = rw (tree_exists sg s d at n g, ne_eqb (get_or m (byte_at s (at + 1)) 0) 0 o)

  module _ (d n i at : ℕ) (m : List ℕ) where
    pub all_done : n ≤ i → known_all_in (nodes_in sg s d (n - i) at) m ≡ Some m
    unfolding known_all_in
    all_done h = rw (nodes_done (tree_in sg s d) (end_in sg s d) n i at h)

    pub all_next : i < n
        → known_all_in (nodes_in sg s d (n - i) at) m
        ≡ option_and_then (known_all_in (nodes_in sg s d (n - (i + 1)) (end_in sg s d at))) (known_in (tree_in sg s d at) m)
    unfolding known_all_in
    all_next h = rw (nodes_next (tree_in sg s d) (end_in sg s d) n i at h)

  module _ (d n at : ℕ) (m : List ℕ) where
    pub any_none : n ≡ 0 → known_any_in (nodes_in sg s d n at) m ≡ Some full
    unfolding known_any_in
    any_none e = rw (nodes_none (tree_in sg s d) (end_in sg s d) n at e)

    pub any_more : (n ≡ 0 → ⊥)
        → known_any_in (nodes_in sg s d n at) m
        ≡ option_and_then (λ u. option_and_then (λ w. Some (meet 8 u w)) (known_any_in (nodes_in sg s d (n - 1) (end_in sg s d at)) m))
        (known_in (tree_in sg s d at) m)
    unfolding known_any_in
    any_more x = rw (nodes_more (tree_in sg s d) (end_in sg s d) n at (end_in sg s d at) x refl)

pub ruleset says_steps = (says_flat, says_nested)

pub ruleset known_steps = (
  known_none,
  known_at_says,
  known_at_test,
  known_at_all,
  known_at_any,
  known_at_not,
  known_new,
  known_again,
  all_done,
  all_next,
  any_none,
  any_more,
)
