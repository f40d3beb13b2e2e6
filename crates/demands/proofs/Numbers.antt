-- The numbers of the refusals from the input: the policy's are 1 to 6, the request's 1, 2, 3, 5 and 7, the withdrawals' 1, 2, 3, 5 and 10, the
-- hierarchy's 1, 2, 3, 5 and 11.
use mathlib.Core.List.{List, [], ◌∷◌, ◌++◌}
use mathlib.Core.Bool.{Bool, true, false}
use Prim.Native.Nat.{ℕ, zero, suc, ◌+◌}
use lib.Dec.{T}
use Rattle.model.specs.Limits.{max_depth, version, policy_versions}
use Rattle.model.specs.Lists.{member}
use Rattle.model.specs.Syntax.{Assertion, Withdrawal, Link, Constant, Verb, Request}
use Rattle.model.specs.Kinds.{Demands}
use Rattle.model.specs.Bytes.{byte_at, choose, Reading, got, refused, and_then}
use Rattle.model.specs.Readings.{Sort, says_sort, test_sort, all_sort, any_sort, not_sort, exists_sort, no_sort, sort_of, assertion_read_at}
use Rattle.model.specs.Forms.{Form, ends, broken, no_verb, assertion_form}
use Rattle.model.specs.Policies.{Item, contents, headed, ended, items_from, list_at, constant_item, verb_item, judged, assertion_by, assertion_item}
use Rattle.model.specs.Policies.{assertions_from, verbs_from, constants_from, read_policy}
use Rattle.model.specs.Nodes.{check_parts, fitted, check_says, check_test, check_by, check_node, safely, request_from, read_request}
use Rattle.model.proofs.PolicyReader.{policy_is}
use Rattle.model.specs.Policies.{computed_policy}
use Rattle.model.proofs.RequestReader.{request_is}
use Rattle.model.specs.Nodes.{computed_request}
use Rattle.model.proofs.EntryReader.{withdrawals_is, hierarchy_is}
use Rattle.model.specs.Entries.{withdrawal_item, computed_withdrawals, read_withdrawals, link_judged, link_item, computed_hierarchy, read_hierarchy}

-- a reading that refuses with a number of the list, if it refuses
abbrev pub RefusesBy : List ℕ → {A : Type 0} → Reading A → Type 0
RefusesBy ns (got x e) = Unit {0}
RefusesBy ns (refused n p) = T (member n ns)

module _ (ns : List ℕ) where
  by_choice : {A : Type 0} (b : Bool) (r t : Reading A) → RefusesBy ns r → RefusesBy ns t → RefusesBy ns (choose b r t)
  unfolding choose
  by_choice true r t h k = h
  by_choice false r t h k = k

  by_turns : {A B : Type 0} (r : Reading A) (f : A → ℕ → Reading B) → RefusesBy ns r → ((x : A) (e : ℕ) → RefusesBy ns (f x e)) → RefusesBy ns (and_then r f)
  unfolding and_then
  by_turns (got x e) f h k = k x e
  by_turns (refused n p) f h k = h

  by_items : {A : Type 0} (f : List A → ℕ → Reading A) → ((is : List A) (p : ℕ) → RefusesBy ns (f is p)) → (n : ℕ) (is : List (Item A)) (p : ℕ)
      → RefusesBy ns (items_from f n is p)
  unfolding items_from
  by_items f h zero is p = tt
  by_items f h (suc n) is p =
      by_turns (f (contents is) p) (λ x e. items_from f n (is ++ record { at = p; of = x } ∷ []) e) (h (contents is) p)
      (λ x e. by_items f h n (is ++ record { at = p; of = x } ∷ []) e)

  by_list : {A : Type 0} (s : List ℕ) (lowest highest : ℕ) (f : List A → ℕ → Reading A) → T (member 3 ns) → ((is : List A) (p : ℕ) → RefusesBy ns (f is p))
      → (p : ℕ)
      → RefusesBy ns (list_at s lowest highest f p)
  unfolding list_at
  by_list s lowest highest f t h p = by_choice _ _ _ t (by_choice _ _ _ t (by_choice _ _ _ t (by_items f h _ [] _)))

  by_end : {A : Type 0} (s : List ℕ) (x : A) (p : ℕ) → T (member 3 ns) → RefusesBy ns (ended s x p)
  unfolding ended
  by_end s x p t = by_choice _ _ _ tt t

  by_head : {A : Type 0} (latest : ℕ) (s : List ℕ) (r : Reading A) → T (member 1 ns) → T (member 2 ns) → RefusesBy ns r → RefusesBy ns (headed latest s r)
  unfolding headed
  by_head latest s r t u h = by_choice _ _ _ (by_choice _ _ _ h u) t

-- ---- the policy

abbrev pub of_policy : List ℕ
of_policy = 1 ∷ 2 ∷ 3 ∷ 4 ∷ 5 ∷ 6 ∷ []

constant_numbers : (s : List ℕ) (cs : List Constant) (at : ℕ) → RefusesBy of_policy (constant_item s cs at)
unfolding constant_item
constant_numbers s cs at = by_choice of_policy _ _ _ (by_choice of_policy _ _ _ tt tt) tt

verb_numbers : (s : List ℕ) (vs : List Verb) (at : ℕ) → RefusesBy of_policy (verb_item s vs at)
unfolding verb_item
verb_numbers s vs at = by_choice of_policy _ _ _ (by_choice of_policy _ _ _ tt tt) tt

assertion_numbers : (φ : Form) (cs : List Constant) (vs : List Verb) (a : Assertion) (at : ℕ) → RefusesBy of_policy (assertion_by φ cs vs a at)
unfolding assertion_by judged
assertion_numbers (ends e) cs vs a at = by_choice of_policy _ _ _ (by_choice of_policy _ _ _ tt tt) tt
assertion_numbers broken cs vs a at = tt
assertion_numbers no_verb cs vs a at = tt

item_numbers : (cs : List Constant) (vs : List Verb) (s : List ℕ) (before : List Assertion) (at : ℕ) → RefusesBy of_policy (assertion_item cs vs s before at)
unfolding assertion_item
item_numbers cs vs s before at = assertion_numbers (assertion_form vs s at) cs vs (assertion_read_at vs s at) at

pub policy_numbers : (s : List ℕ) → RefusesBy of_policy (read_policy s)
unfolding computed_policy constants_from verbs_from assertions_from
policy_numbers s = rw (policy_is s) (
    by_head of_policy policy_versions s _ tt tt
    (by_turns of_policy _ _ (by_list of_policy s _ _ _ tt (constant_numbers s) _)
    (λ cs e. by_turns of_policy _ _ (by_list of_policy s _ _ _ tt (verb_numbers s) e)
    (λ vs e. by_turns of_policy _ _ (by_list of_policy s _ _ _ tt (item_numbers (contents cs) (contents vs) s) e)
    (λ 𝒜 e. by_end of_policy s _ e tt))))
    )

-- ---- the request

abbrev pub of_request : List ℕ
of_request = 1 ∷ 2 ∷ 3 ∷ 5 ∷ 7 ∷ []

parts_numbers : (f : Demands → ℕ → Reading Demands) → ((D : Demands) (p : ℕ) → RefusesBy of_request (f D p)) → (n : ℕ) (D : Demands) (p : ℕ)
    → RefusesBy of_request (check_parts f n D p)
unfolding check_parts
parts_numbers f h zero D p = tt
parts_numbers f h (suc n) D p = by_turns of_request (f D p) (check_parts f n) (h D p) (parts_numbers f h n)

module _ (cs : List Constant) (vs : List Verb) (s : List ℕ) where
  fitted_numbers : (D : Demands) (at e : ℕ) → RefusesBy of_request (fitted cs vs s D at e)
  unfolding fitted
  fitted_numbers D at e = by_choice of_request _ _ _ tt tt

  says_numbers : (φ : Form) (D : Demands) (at : ℕ) → RefusesBy of_request (check_says cs vs s φ D at)
  unfolding check_says
  says_numbers (ends e) D at = fitted_numbers _ at e
  says_numbers broken D at = tt
  says_numbers no_verb D at = tt

  test_numbers_law : (D : Demands) (at : ℕ) → RefusesBy of_request (check_test cs vs s D at)
  unfolding check_test
  test_numbers_law D at = by_choice of_request _ _ _ tt (by_choice of_request _ _ _ (fitted_numbers _ at (at + 6)) tt)

  node_numbers : (σ : Sort) (f : Demands → ℕ → Reading Demands) → ((D : Demands) (p : ℕ) → RefusesBy of_request (f D p)) → (D : Demands) (at : ℕ)
      → RefusesBy of_request (check_by cs vs s σ f D at)
  unfolding check_by
  node_numbers says_sort f h D at = says_numbers _ D at
  node_numbers test_sort f h D at = test_numbers_law D at
  node_numbers all_sort f h D at = by_choice of_request _ _ _ (parts_numbers f h _ D (at + 2)) tt
  node_numbers any_sort f h D at = by_choice of_request _ _ _ (parts_numbers f h _ D (at + 2)) tt
  node_numbers not_sort f h D at = h D (at + 1)
  node_numbers exists_sort f h D at = by_choice of_request _ _ _ (h D (at + 2)) tt
  node_numbers no_sort f h D at = tt

  nodes_numbers : (d : ℕ) (D : Demands) (at : ℕ) → RefusesBy of_request (check_node cs vs s d D at)
  unfolding check_node
  nodes_numbers zero D at = tt
  nodes_numbers (suc d) D at = by_choice of_request _ _ _ tt (node_numbers (sort_of (byte_at s at)) (check_node cs vs s d) (nodes_numbers d) D at)

  safe_numbers : (q : Request) (e : ℕ) → RefusesBy of_request (safely cs vs s q e)
  unfolding safely
  safe_numbers q e = by_choice of_request _ _ _ tt tt

  pub request_numbers : RefusesBy of_request (read_request cs vs s)
  unfolding computed_request request_from
  request_numbers = rw (request_is cs vs s) (
      by_head of_request version s _ tt tt
      (by_choice of_request _ _ _ tt (by_choice of_request _ _ _ tt
      (by_turns of_request _ _ (nodes_numbers max_depth _ _) (λ D p. by_turns of_request _ _ (by_end of_request s _ p tt) safe_numbers))))
      )

-- ---- the withdrawals

abbrev pub of_withdrawals : List ℕ
of_withdrawals = 1 ∷ 2 ∷ 3 ∷ 5 ∷ 10 ∷ []

withdrawal_numbers : (cs : List Constant) (s : List ℕ) (earlier : List Withdrawal) (at : ℕ) → RefusesBy of_withdrawals (withdrawal_item cs s earlier at)
unfolding withdrawal_item
withdrawal_numbers cs s earlier at =
    by_choice of_withdrawals _ _ _ (by_choice of_withdrawals _ _ _ (by_choice of_withdrawals _ _ _ tt tt) tt) tt

pub withdrawals_numbers : (cs : List Constant) (s : List ℕ) → RefusesBy of_withdrawals (read_withdrawals cs s)
unfolding computed_withdrawals
withdrawals_numbers cs s = rw (withdrawals_is cs s) (
    by_head of_withdrawals version s _ tt tt
    (by_turns of_withdrawals _ _ (by_list of_withdrawals s _ _ _ tt (withdrawal_numbers cs s) _) (λ ws e. by_end of_withdrawals s _ e tt))
    )

-- ---- the hierarchy

abbrev pub of_hierarchy : List ℕ
of_hierarchy = 1 ∷ 2 ∷ 3 ∷ 5 ∷ 11 ∷ []

link_numbers : (cs : List Constant) (vs : List Verb) (s : List ℕ) (earlier : List Link) (at : ℕ) → RefusesBy of_hierarchy (link_item cs vs s earlier at)
unfolding link_item link_judged
link_numbers cs vs s earlier at =
    by_choice of_hierarchy _ _ _ tt (by_choice of_hierarchy _ _ _ tt (by_choice of_hierarchy _ _ _ tt
    (by_choice of_hierarchy _ _ _ (by_choice of_hierarchy _ _ _ tt tt) tt)))

pub hierarchy_numbers : (cs : List Constant) (vs : List Verb) (s : List ℕ) → RefusesBy of_hierarchy (read_hierarchy cs vs s)
unfolding computed_hierarchy
hierarchy_numbers cs vs s = rw (hierarchy_is cs vs s) (
    by_head of_hierarchy version s _ tt tt
    (by_turns of_hierarchy _ _ (by_list of_hierarchy s _ _ _ tt (link_numbers cs vs s) _) (λ ls e. by_end of_hierarchy s _ e tt))
    )
