-- Computed: the request reader by offsets, node by node, as the code goes (`proofs/RequestReader`: it is `Layout.read_request` for every byte list).
use Rattle.std.specs.Prelude.{ℕ, zero, suc, ◌+◌, List, Bool, length, ltb, leb}
use Rattle.model.specs.Limits.{max_day, max_parts, max_depth, max_variable, version, header_bytes, first_node_at}
use Rattle.model.specs.Syntax.{Constant, Verb, Request}
use Rattle.model.specs.Kinds.{Demands, no_demands, joined, says_demands, test_demands, fitting}
use Rattle.model.specs.Safety.{safe_request}
use Rattle.model.specs.Bytes.{byte_at, u32_at, choose, both, Reading, got, refused, and_then}
use Rattle.model.specs.Readings.{expr_at, fact_at, constraint_at, Sort, says_sort, test_sort, all_sort, any_sort, not_sort, exists_sort, no_sort, sort_of}
use Rattle.model.specs.Readings.{node_at}
use Rattle.model.specs.Forms.{Form, ends, broken, no_verb, fact_form, operator_form}
use Rattle.model.specs.Policies.{headed, ended}
unfoldable pub use Rattle.model.specs.Layout.{read_request}

-- "count byte 1 to 8"
unfoldable pub parts_form : List ℕ → ℕ → Bool
parts_form s p = both (leb 1 (byte_at s p)) (leb (byte_at s p) max_parts)

-- "variable byte 0 to 7"
unfoldable pub variable_form : List ℕ → ℕ → Bool
variable_form s p = both (ltb p (length s)) (leb (byte_at s p) max_variable)

-- n nodes one after another, each checked by `f`
unfoldable pub check_parts : (Demands → ℕ → Reading Demands) → ℕ → Demands → ℕ → Reading Demands
check_parts f zero D p = got D p
check_parts f (suc n) D p = and_then (f D p) (check_parts f n)

module _ (cs : List Constant) (vs : List Verb) (s : List ℕ) where
  -- "Kinds give 5 at the first item for which no choice of kinds for the variables fits it together with the earlier items": D is what all of them ask
  unfoldable pub fitted : Demands → ℕ → ℕ → Reading Demands
  fitted D at e = choose (fitting cs D) (got D e) (refused 5 at)

  unfoldable pub check_says : Form → Demands → ℕ → Reading Demands
  check_says (ends e) D at = fitted (joined D (says_demands vs (expr_at s (at + 1)) (fact_at vs s (at + 3)))) at e
  check_says broken D at = refused 3 at
  check_says no_verb D at = refused 5 at

  unfoldable pub check_test : Demands → ℕ → Reading Demands
  check_test D at =
      choose (ltb (length s) (at + 6)) (refused 3 at)
      (choose (operator_form s (at + 1)) (fitted (joined D (test_demands (constraint_at s (at + 1)))) at (at + 6)) (refused 3 at))

  -- "a node's item being its own bytes without the nodes inside it": those are checked by `f`
  unfoldable pub check_by : Sort → (Demands → ℕ → Reading Demands) → Demands → ℕ → Reading Demands
  check_by says_sort f D at = check_says (fact_form vs s (length s) (at + 3)) D at
  check_by test_sort f D at = check_test D at
  check_by all_sort f D at = choose (parts_form s (at + 1)) (check_parts f (byte_at s (at + 1)) D (at + 2)) (refused 3 at)
  check_by any_sort f D at = choose (parts_form s (at + 1)) (check_parts f (byte_at s (at + 1)) D (at + 2)) (refused 3 at)
  check_by not_sort f D at = f D (at + 1)
  check_by exists_sort f D at = choose (variable_form s (at + 1)) (f D (at + 2)) (refused 3 at)
  check_by no_sort f D at = refused 3 at

  -- the node at `at`, after items that ask D; "node (one deeper than 8 too)"
  unfoldable pub check_node : ℕ → Demands → ℕ → Reading Demands
  check_node zero D at = refused 3 at
  check_node (suc d) D at = choose (leb (length s) at) (refused 3 at) (check_by (sort_of (byte_at s at)) (check_node d) D at)

  abbrev pub request_of : Request
  request_of = record { today = u32_at s header_bytes; node = node_at vs s max_depth first_node_at }

  -- "7 unsafe request (place 9)", "7 comes last"
  unfoldable pub safely : Request → ℕ → Reading Request
  safely q e = choose (safe_request q.node) (got q e) (refused 7 first_node_at)

  -- today, one node, nothing left over
  unfoldable pub request_from : Reading Request
  request_from =
      choose (ltb (length s) first_node_at) (refused 3 header_bytes)
      (choose (ltb max_day (u32_at s header_bytes)) (refused 3 header_bytes)
      (and_then (check_node max_depth no_demands first_node_at) (λ D p. and_then (ended s request_of p) safely)))

  unfoldable pub computed_request : Reading Request
  computed_request = headed version s request_from
