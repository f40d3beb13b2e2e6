-- The tree and where it ends, one step on.
use Rattle.std.proofs.Common.{◌≡◌, refl, List, ℕ, zero, suc, ◌+◌, ◌-◌, ◌≤◌, ◌<◌, ◌⊎◌, inl, inr, arith, Option, Some, None}
use native.Mathlib.Numerals.{sub-one}
use lib.Dec.{eqb-suc-zero}
use lib.ListN.{length}
use Rattle.model.specs.Syntax.{Node, says, test, all_of, any_of, non, exists, end, more}
use Rattle.model.specs.Bytes.{byte_at}
use Rattle.model.proofs.Tests.{by_lt}
use Rattle.wire.proofs.Reading.{past_end}
use Rattle.model.specs.Readings.{expr_at, constraint_at, ends_by, nodes_by}
use Rattle.phrases.specs.Phrases.{fact_by, fact_next}
use Rattle.nodes.specs.Tree.{shape_at, shape_in, end_of, end_in, tree_of, tree_in}
use Rattle.nodes.specs.declared.shape.Shape.{Shape}
use Rattle.nodes.specs.declared.shape.Shape.TheVariants.{Says, Test, All, Any, Not, Exists}

-- n nodes, one on
pub ends_none : (g : ℕ → ℕ) (n i at : ℕ) → n ≤ i → ends_by g (n - i) at ≡ at
unfolding ends_by
ends_none g n i at h = let e : n - i ≡ 0 = omega arith in rw e

pub ends_more : (g : ℕ → ℕ) (n i at : ℕ) → i < n → ends_by g (n - i) at ≡ ends_by g (n - (i + 1)) (g at)
unfolding ends_by
ends_more g n i at h = let e : n - i ≡ suc (n - (i + 1)) = omega arith in rw e

pub nodes_none : (f : ℕ → Node) (g : ℕ → ℕ) (n at : ℕ) → n ≡ 0 → nodes_by f g n at ≡ end
unfolding nodes_by
nodes_none f g n at e = rw e

pub nodes_more : (f : ℕ → Node) (g : ℕ → ℕ) (n at p : ℕ) → (n ≡ 0 → ⊥) → p ≡ g at → nodes_by f g n at ≡ more (f at) (nodes_by f g (n - 1) p)
unfolding nodes_by
nodes_more f g zero at p x e = absurd (x refl)
nodes_more f g (suc n) at p x e = rw (e, sub-one)

-- the same in a loop, i nodes on
pub nodes_done : (f : ℕ → Node) (g : ℕ → ℕ) (n i at : ℕ) → n ≤ i → nodes_by f g (n - i) at ≡ end
unfolding nodes_by
nodes_done f g n i at h = let e : n - i ≡ 0 = omega arith in rw e

pub nodes_next : (f : ℕ → Node) (g : ℕ → ℕ) (n i at : ℕ) → i < n → nodes_by f g (n - i) at ≡ more (f at) (nodes_by f g (n - (i + 1)) (g at))
unfolding nodes_by
nodes_next f g n i at h = let e : n - i ≡ suc (n - (i + 1)) = omega arith in rw e

-- past the end there is no byte that says what a node is
pub byte_within : (s : List ℕ) (at : ℕ) → (byte_at s at ≡ 0 → ⊥) → at < length s
byte_within s at h = by_lt at (length s) (λ l. l) (λ l. absurd (h (past_end s at l)))

module _ (sg s : List ℕ) where
  end_as : (d at : ℕ) (k : Option Shape) → (d ≡ 0 → ⊥) → shape_at s at ≡ k → end_in sg s d at ≡ end_of sg s k (end_in sg s (d - 1)) at
  unfolding end_in
  end_as zero at k n g = absurd (n refl)
  end_as (suc d) at k n g = rw (g, sub-one)

  -- where there is no node, it ends where it stands, and the tree is an all-of with no parts
  pub end_none : (d at : ℕ) → shape_in s d at ≡ None → end_in sg s d at ≡ at
  unfolding end_in end_of
  end_none zero at g = refl
  end_none (suc d) at g = let e : shape_at s at ≡ None = rw (eqb-suc-zero d) at g in rw e

  pub tree_none : (d at : ℕ) → shape_in s d at ≡ None → tree_in sg s d at ≡ all_of end
  unfolding tree_in tree_of
  tree_none zero at g = refl
  tree_none (suc d) at g = let e : shape_at s at ≡ None = rw (eqb-suc-zero d) at g in rw e

  tree_as : (d at : ℕ) (k : Option Shape) → (d ≡ 0 → ⊥) → shape_at s at ≡ k
      → tree_in sg s d at ≡ tree_of sg s k (tree_in sg s (d - 1)) (end_in sg s (d - 1)) at
  unfolding tree_in
  tree_as zero at k n g = absurd (n refl)
  tree_as (suc d) at k n g = rw (g, sub-one)

  module _ (d at : ℕ) (n : d ≡ 0 → ⊥) where
    pub end_says : shape_at s at ≡ Some Says → end_in sg s d at ≡ fact_next sg s (at + 3)
    unfolding end_of
    end_says g = end_as d at (Some Says) n g

    pub end_test : shape_at s at ≡ Some Test → end_in sg s d at ≡ at + 6
    unfolding end_of
    end_test g = end_as d at (Some Test) n g

    pub end_inside : (shape_at s at ≡ Some All) ⊎ (shape_at s at ≡ Some Any)
        → end_in sg s d at ≡ ends_by (end_in sg s (d - 1)) (byte_at s (at + 1)) (at + 2)
    unfolding end_of
    end_inside (inl g) = end_as d at (Some All) n g
    end_inside (inr g) = end_as d at (Some Any) n g

    pub end_not : shape_at s at ≡ Some Not → end_in sg s d at ≡ end_in sg s (d - 1) (at + 1)
    unfolding end_of
    end_not g = end_as d at (Some Not) n g

    pub end_exists : shape_at s at ≡ Some Exists → end_in sg s d at ≡ end_in sg s (d - 1) (at + 2)
    unfolding end_of
    end_exists g = end_as d at (Some Exists) n g

    pub tree_says : shape_at s at ≡ Some Says → tree_in sg s d at ≡ says (expr_at s (at + 1)) (fact_by sg s (at + 3))
    unfolding tree_of
    tree_says g = tree_as d at (Some Says) n g

    pub tree_test : shape_at s at ≡ Some Test → tree_in sg s d at ≡ test (constraint_at s (at + 1))
    unfolding tree_of
    tree_test g = tree_as d at (Some Test) n g

    pub tree_all : shape_at s at ≡ Some All
        → tree_in sg s d at ≡ all_of (nodes_by (tree_in sg s (d - 1)) (end_in sg s (d - 1)) (byte_at s (at + 1)) (at + 2))
    unfolding tree_of
    tree_all g = tree_as d at (Some All) n g

    pub tree_any : shape_at s at ≡ Some Any
        → tree_in sg s d at ≡ any_of (nodes_by (tree_in sg s (d - 1)) (end_in sg s (d - 1)) (byte_at s (at + 1)) (at + 2))
    unfolding tree_of
    tree_any g = tree_as d at (Some Any) n g

    pub tree_not : shape_at s at ≡ Some Not → tree_in sg s d at ≡ non (tree_in sg s (d - 1) (at + 1))
    unfolding tree_of
    tree_not g = tree_as d at (Some Not) n g

    pub tree_exists : shape_at s at ≡ Some Exists → tree_in sg s d at ≡ exists (byte_at s (at + 1)) (tree_in sg s (d - 1) (at + 2))
    unfolding tree_of
    tree_exists g = tree_as d at (Some Exists) n g

pub ruleset end_steps = (ends_none, ends_more, end_none, end_says, end_test, end_inside, end_not, end_exists)
