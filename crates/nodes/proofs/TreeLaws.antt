-- The tree that the code finds is the model's, given what an accepted policy hands out.
use mathlib.Core.Path.{◌≡◌, refl, ◌∙◌, ap}
use mathlib.Core.Bool.{Bool, true, false}
use mathlib.Core.List.{List}
use Prim.Native.Nat.{ℕ, zero, suc, ◌+◌}
use Rattle.std.specs.Prelude.{◌==◌, if◌then◌else◌, Option, Some, None}
use Rattle.model.specs.Syntax.{Constant, Verb, Node, says, all_of, any_of, non, exists, more}
use Rattle.model.specs.Bytes.{byte_at, choose}
use Rattle.model.specs.Readings.{expr_at, Sort, says_sort, test_sort, all_sort, any_sort, not_sort, exists_sort, no_sort, sort_of, ends_by, nodes_by, end_by}
use Rattle.model.specs.Readings.{node_end}
use Rattle.model.specs.Readings.{node_by, node_at}
use Rattle.phrases.specs.Tables.{Tables}
use Rattle.phrases.proofs.Model.{fact_is, next_is}
use Rattle.nodes.specs.Tree.{shape_of, shape_at, end_of, end_in, tree_of, tree_in}
use Rattle.nodes.specs.declared.shape.Shape.{Shape}
use Rattle.nodes.specs.declared.shape.Shape.TheVariants.{Says, Test, All, Any, Not, Exists}

pub by_bool : {P : Type 0} (b : Bool) → (b ≡ true → P) → (b ≡ false → P) → P
by_bool true f g = f refl
by_bool false f g = g refl

-- ---- sorts

abbrev pub named : Option Shape → Sort
named (Some Says) = says_sort
named (Some Test) = test_sort
named (Some All) = all_sort
named (Some Any) = any_sort
named (Some Not) = not_sort
named (Some Exists) = exists_sort
named None = no_sort

six : (a b c d e f : Bool)
    → choose a says_sort (choose b test_sort (choose c all_sort (choose d any_sort (choose e not_sort (choose f exists_sort no_sort)))))
    ≡ named (if a then Some Says
    else (if b then Some Test else (if c then Some All else (if d then Some Any else (if e then Some Not else (if f then Some Exists else None))))))
unfolding choose
six true b c d e f = refl
six false true c d e f = refl
six false false true d e f = refl
six false false false true e f = refl
six false false false false true f = refl
six false false false false false true = refl
six false false false false false false = refl

pub sort_is : (b : ℕ) → sort_of b ≡ named (shape_of b)
unfolding sort_of shape_of
sort_is b = six (b == 1) (b == 2) (b == 3) (b == 4) (b == 5) (b == 6)

-- ---- ends and trees

ends_same : (g h : ℕ → ℕ) → ((at : ℕ) → g at ≡ h at) → (n at : ℕ) → ends_by g n at ≡ ends_by h n at
unfolding ends_by
ends_same g h e zero at = refl
ends_same g h e (suc n) at = ends_same g h e n (g at) ∙ ap (ends_by h n) (e at)

nodes_same : (f k : ℕ → Node) (g h : ℕ → ℕ) → ((at : ℕ) → f at ≡ k at) → ((at : ℕ) → g at ≡ h at) → (n at : ℕ) → nodes_by f g n at ≡ nodes_by k h n at
unfolding nodes_by
nodes_same f k g h p e zero at = refl
nodes_same f k g h p e (suc n) at =
    ap (λ (x : Node). more x (nodes_by f g n (g at))) (p at) ∙ ap (more (k at)) (nodes_same f k g h p e n (g at) ∙ ap (nodes_by k h n) (e at))

module _ {cs : List Constant} {vs : List Verb} {ks sg : List ℕ} (X : Tables cs vs ks sg) (s : List ℕ) where
  end_of_law : (k : Option Shape) (g h : ℕ → ℕ) → ((at : ℕ) → g at ≡ h at) → (at : ℕ) → end_of sg s k g at ≡ end_by vs s (named k) h at
  unfolding end_of end_by
  end_of_law (Some Says) g h e at = next_is X s (at + 3)
  end_of_law (Some Test) g h e at = refl
  end_of_law (Some All) g h e at = ends_same g h e (byte_at s (at + 1)) (at + 2)
  end_of_law (Some Any) g h e at = ends_same g h e (byte_at s (at + 1)) (at + 2)
  end_of_law (Some Not) g h e at = e (at + 1)
  end_of_law (Some Exists) g h e at = e (at + 2)
  end_of_law None g h e at = refl

  pub end_is : (d at : ℕ) → end_in sg s d at ≡ node_end vs s d at
  unfolding end_in node_end
  end_is zero at = refl
  end_is (suc d) at = rw (sort_is (byte_at s at)) (end_of_law (shape_at s at) (end_in sg s d) (node_end vs s d) (λ p. end_is d p) at)

  tree_of_law : (k : Option Shape) (f q : ℕ → Node) (g h : ℕ → ℕ) → ((at : ℕ) → f at ≡ q at) → ((at : ℕ) → g at ≡ h at) → (at : ℕ)
      → tree_of sg s k f g at ≡ node_by vs s (named k) q h at
  unfolding tree_of node_by
  tree_of_law (Some Says) f q g h p e at = ap (says (expr_at s (at + 1))) (fact_is X s (at + 3))
  tree_of_law (Some Test) f q g h p e at = refl
  tree_of_law (Some All) f q g h p e at = ap all_of (nodes_same f q g h p e (byte_at s (at + 1)) (at + 2))
  tree_of_law (Some Any) f q g h p e at = ap any_of (nodes_same f q g h p e (byte_at s (at + 1)) (at + 2))
  tree_of_law (Some Not) f q g h p e at = ap non (p (at + 1))
  tree_of_law (Some Exists) f q g h p e at = ap (exists (byte_at s (at + 1))) (p (at + 2))
  tree_of_law None f q g h p e at = refl

  pub tree_is : (d at : ℕ) → tree_in sg s d at ≡ node_at vs s d at
  unfolding tree_in node_at
  tree_is zero at = refl
  tree_is (suc d) at =
      rw (sort_is (byte_at s at))
      (tree_of_law (shape_at s at) (tree_in sg s d) (node_at vs s d) (end_in sg s d) (node_end vs s d) (λ p. tree_is d p) (λ p. end_is d p) at)
