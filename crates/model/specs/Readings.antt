-- Computed: total readings by offsets, proved to be those of `Layout` where these accept. The constant, verb, expression, fact, constraint, assertion or node
-- that stands at an offset, and where it ends.
-- Of bytes that have no such form they say something too; the forms (`Forms`, `Nodes`) say when that counts.
use Rattle.std.specs.Prelude.{ℕ, zero, suc, ◌+◌, ◌-◌, ◌*◌, List, [], ◌∷◌, Bool, ◌||◌, length, eqb, ltb}
use Rattle.model.specs.Limits.{principal, thing, first_variable, today_code}
use Rattle.model.specs.Syntax.{Expr, con, var, today, Fact, flat, can_say, Constraint, Assertion, Constant, Verb, Node, Nodes, says, test, all_of}
use Rattle.model.specs.Syntax.{any_of, non, exists, end, more}
use Rattle.model.specs.Kinds.{param_kinds}
use Rattle.model.specs.Bytes.{byte_at, u16_at, u32_at, bytes_at, choose}

-- ---- constants and verbs: "a length byte (bytes after it in the item)"

unfoldable pub item_end : List ℕ → ℕ → ℕ
item_end s at = at + 1 + byte_at s at

-- "Kind 1 principal and 2 thing: label"
abbrev pub has_label : ℕ → Bool
has_label k = eqb k principal || eqb k thing

-- "a length byte .., a kind byte, a value"
unfoldable pub constant_read_at : List ℕ → ℕ → Constant
constant_read_at s at = record {
  kind = byte_at s (at + 1);
  label = choose (has_label (byte_at s (at + 1))) (bytes_at (byte_at s at - 1) s (at + 2)) [];
  number = choose (has_label (byte_at s (at + 1))) 0 (u32_at s (at + 2));
}

-- "length byte counted alike, arity byte 0 to 3, one kind byte per parameter, label"
unfoldable pub verb_at : List ℕ → ℕ → Verb
verb_at s at = record {
  kinds = bytes_at (byte_at s (at + 1)) s (at + 2);
  label = bytes_at (byte_at s at - 1 - byte_at s (at + 1)) s (at + 2 + byte_at s (at + 1));
}

-- ---- expressions: "2 bytes: 0 to 254 a constant, 0x8000 to 0x8007 a variable, 0x4000 today". A number without a meaning is read as a constant or a variable
-- that is not there.

unfoldable pub expr_of : ℕ → Expr
expr_of x = choose (eqb x today_code) today (choose (ltb x first_variable) (con x) (var (x - first_variable)))

abbrev pub expr_at : List ℕ → ℕ → Expr
expr_at s p = expr_of (u16_at s p)

unfoldable pub exprs_at : ℕ → List ℕ → ℕ → List Expr
exprs_at zero s p = []
exprs_at (suc n) s p = expr_at s p ∷ exprs_at n s (p + 2)

-- ---- constraints: "operator byte, left, right"

abbrev pub constraint_at : List ℕ → ℕ → Constraint
constraint_at s p = record { op = byte_at s p; left = expr_at s (p + 1); right = expr_at s (p + 3) }

unfoldable pub constraints_at : ℕ → List ℕ → ℕ → List Constraint
constraints_at zero s p = []
constraints_at (suc n) s p = constraint_at s p ∷ constraints_at n s (p + 5)

module _ (vs : List Verb) where
  -- how many parameters a verb has, none past the verbs
  unfoldable pub arity_of : ℕ → ℕ
  arity_of v = length (param_kinds vs v)

  -- ---- facts: "a nest byte 0 to 3; for each level a principal speaker and a depth byte ..; a principal subject; a verb byte; its parameters"

  unfoldable pub levels_at : ℕ → List ℕ → ℕ → Fact Expr
  levels_at zero s p = flat (expr_at s p) (byte_at s (p + 2)) (exprs_at (arity_of (byte_at s (p + 2))) s (p + 3))
  levels_at (suc m) s p = can_say (expr_at s p) (byte_at s (p + 2)) (levels_at m s (p + 3))

  unfoldable pub levels_end : ℕ → List ℕ → ℕ → ℕ
  levels_end zero s p = p + 3 + 2 * arity_of (byte_at s (p + 2))
  levels_end (suc m) s p = levels_end m s (p + 3)

  unfoldable pub fact_at : List ℕ → ℕ → Fact Expr
  fact_at s p = levels_at (byte_at s p) s (p + 1)

  unfoldable pub fact_end : List ℕ → ℕ → ℕ
  fact_end s p = levels_end (byte_at s p) s (p + 1)

  -- n facts from p on
  unfoldable pub facts_at : ℕ → List ℕ → ℕ → List (Fact Expr)
  facts_at zero s p = []
  facts_at (suc n) s p = fact_at s p ∷ facts_at n s (fact_end s p)

  unfoldable pub facts_end : ℕ → List ℕ → ℕ → ℕ
  facts_end zero s p = p
  facts_end (suc n) s p = facts_end n s (fact_end s p)

  -- ---- assertions: "2-byte length counted alike, 4-byte serial .., issuer, head fact, a count byte .. body facts, a count byte .. constraints"

  -- where the count of body facts stands, and that of constraints
  unfoldable pub body_at : List ℕ → ℕ → ℕ
  body_at s at = fact_end s (at + 8)

  unfoldable pub tests_at : List ℕ → ℕ → ℕ
  tests_at s at = facts_end (byte_at s (body_at s at)) s (body_at s at + 1)

  unfoldable pub assertion_read_at : List ℕ → ℕ → Assertion
  assertion_read_at s at = record {
    serial = u32_at s (at + 2);
    issuer = u16_at s (at + 6);
    head = fact_at s (at + 8);
    body = facts_at (byte_at s (body_at s at)) s (body_at s at + 1);
    tests = constraints_at (byte_at s (tests_at s at)) s (tests_at s at + 1);
  }

unfoldable pub assertion_end : List ℕ → ℕ → ℕ
assertion_end s at = at + 2 + u16_at s at

-- ---- nodes: "1 says (issuer, fact); 2 constraint; 3 all-of and 4 any-of (count byte 1 to 8, nodes); 5 not; 6 exists (variable byte 0 to 7, node)"

pub data Sort : Type 0 where
  says_sort test_sort all_sort any_sort not_sort exists_sort no_sort : Sort

unfoldable pub sort_of : ℕ → Sort
sort_of b =
    choose (eqb b 1) says_sort
    (choose (eqb b 2) test_sort
    (choose (eqb b 3) all_sort
    (choose (eqb b 4) any_sort
    (choose (eqb b 5) not_sort
    (choose (eqb b 6) exists_sort no_sort)))))

-- where `n` nodes end, and what they are, given the same of one node
unfoldable pub ends_by : (ℕ → ℕ) → ℕ → ℕ → ℕ
ends_by g zero at = at
ends_by g (suc n) at = ends_by g n (g at)

unfoldable pub nodes_by : (ℕ → Node) → (ℕ → ℕ) → ℕ → ℕ → Nodes
nodes_by f g zero at = end
nodes_by f g (suc n) at = more (f at) (nodes_by f g n (g at))

module _ (vs : List Verb) (s : List ℕ) where
  -- by its sort, given where nodes inside it end
  unfoldable pub end_by : Sort → (ℕ → ℕ) → ℕ → ℕ
  end_by says_sort g at = fact_end vs s (at + 3)
  end_by test_sort g at = at + 6
  end_by all_sort g at = ends_by g (byte_at s (at + 1)) (at + 2)
  end_by any_sort g at = ends_by g (byte_at s (at + 1)) (at + 2)
  end_by not_sort g at = g (at + 1)
  end_by exists_sort g at = g (at + 2)
  end_by no_sort g at = at

  -- a node may hold others `d - 1` deep
  unfoldable pub node_end : ℕ → ℕ → ℕ
  node_end zero at = at
  node_end (suc d) at = end_by (sort_of (byte_at s at)) (node_end d) at

  unfoldable pub node_by : Sort → (ℕ → Node) → (ℕ → ℕ) → ℕ → Node
  node_by says_sort f g at = says (expr_at s (at + 1)) (fact_at vs s (at + 3))
  node_by test_sort f g at = test (constraint_at s (at + 1))
  node_by all_sort f g at = all_of (nodes_by f g (byte_at s (at + 1)) (at + 2))
  node_by any_sort f g at = any_of (nodes_by f g (byte_at s (at + 1)) (at + 2))
  node_by not_sort f g at = non (f (at + 1))
  node_by exists_sort f g at = exists (byte_at s (at + 1)) (f (at + 2))
  node_by no_sort f g at = all_of end

  unfoldable pub node_at : ℕ → ℕ → Node
  node_at zero at = all_of end
  node_at (suc d) at = node_by (sort_of (byte_at s at)) (node_at d) (node_end d) at
