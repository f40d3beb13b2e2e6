-- The whole request: `Layout.read_request` is the computed reader for every byte list.
use mathlib.Core.Path.{◌≡◌, refl, sym, ap, ◌∙◌}
use mathlib.Core.List.{List}
use mathlib.Core.Bool.{Bool, true, false, ◌&&◌}
use Prim.Native.Nat.{ℕ, zero, suc, ◌+◌, ◌<◌, ◌≤◌}
use native.Mathlib.Decide.{dec_lt}
use native.Mathlib.Omega.{arith}
use lib.ListN.{length, get_or-eq_default}
use lib.Dec.{eqb, leb, leb-zero}
use borrow.Author.Tests.{lt-ltb, le-ltb, le-leb, lt-leb}
use Rattle.model.specs.Limits.{max_day, max_parts, max_depth, max_variable, version, header_bytes, first_node_at}
use Rattle.model.specs.Syntax.{Expr, Fact, Constraint, Constant, Verb, Node, Nodes, says, test, all_of, any_of, non, exists, more, Request}
use Rattle.model.specs.Kinds.{Demands, no_demands, joined, test_demands, demands_in, fitting}
use Rattle.model.specs.Safety.{safe_request}
use Rattle.model.specs.Bytes.{byte_at, u32_at, choose, both, Reading, got, refused, and_then}
use Rattle.model.specs.Readings.{expr_at, fact_at, constraint_at, Sort, says_sort, test_sort, all_sort, any_sort, not_sort, exists_sort, no_sort, sort_of}
use Rattle.model.specs.Readings.{nodes_by, node_end, node_by, node_at}
use Rattle.model.specs.Forms.{Form, ends, broken, no_verb, fact_form, operator_form}
use Rattle.model.specs.Policies.{ended}
use Rattle.model.specs.Nodes.{parts_form, variable_form, check_parts, fitted, check_says, check_test, check_by, check_node, request_of, safely}
use Rattle.model.specs.Nodes.{request_from, computed_request, read_request}
use Rattle.model.specs.Reader.{◌>>=◌, Reader, pure, refuse, u32, byte_in}
use Rattle.model.specs.Layout.{expr, fact, constraint, asking, parts, node}
use Rattle.model.proofs.ReaderLaws.{then_in, then_out, then_choose, choose_true, byte_in_law, byte_out, u32_in, u32_out, byte_in_is, byte_in_out}
use Rattle.model.proofs.FactReader.{as_reading, expr_in_law, expr_out, fact_is}
use Rattle.model.proofs.AssertionReader.{both_and, constraint_in, constraint_out}
use Rattle.model.proofs.PolicyReader.{slice_is}
use Rattle.model.proofs.CheckedNodes.{node_checked}

-- a node's own byte picks its sort
module _ {X : Type 0} where
  abbrev pick : Sort → X → X → X → X → X → X → X → X
  pick says_sort a b c d e f g = a
  pick test_sort a b c d e f g = b
  pick all_sort a b c d e f g = c
  pick any_sort a b c d e f g = d
  pick not_sort a b c d e f g = e
  pick exists_sort a b c d e f g = f
  pick no_sort a b c d e f g = g

  pick_is : (n : ℕ) (a b c d e f g : X)
      → choose (eqb n 1) a (choose (eqb n 2) b (choose (eqb n 3) c (choose (eqb n 4) d (choose (eqb n 5) e (choose (eqb n 6) f g)))))
      ≡ pick (sort_of n) a b c d e f g
  unfolding sort_of choose
  pick_is n a b c d e f g = go (eqb n 1) (eqb n 2) (eqb n 3) (eqb n 4) (eqb n 5) (eqb n 6)
    where
      go : (i j k l m o : Bool) → choose i a (choose j b (choose k c (choose l d (choose m e (choose o f g)))))
          ≡ pick (choose i says_sort (choose j test_sort (choose k all_sort (choose l any_sort (choose m not_sort (choose o exists_sort no_sort)))))) a b c d
          e f g
      go true j k l m o = refl
      go false true k l m o = refl
      go false false true l m o = refl
      go false false false true m o = refl
      go false false false false true o = refl
      go false false false false false true = refl
      go false false false false false false = refl

module _ (cs : List Constant) (vs : List Verb) (s : List ℕ) where
  -- what the computed check says, with the node that it reads elsewhere
  abbrev pub with : {A : Type 0} → Reading Demands → A → Reading A
  with r x = and_then r (λ E q. got x q)

  with_choose : {A : Type 0} (b : Bool) (r t : Reading Demands) (x : A) → with (choose b r t) x ≡ choose b (with r x) (with t x)
  with_choose b r t x = then_choose b r t (λ E q. got x q)

  asking_is : (D : Demands) (n : Node) (at e q : ℕ) → asking s cs vs D n at e q ≡ with (fitted cs vs s (joined D (demands_in n vs)) at q) n
  unfolding asking fitted and_then choose
  asking_is D n at e q = go (fitting cs (joined D (demands_in n vs)))
    where
      go : (b : Bool) → and_then (choose b (got tt q) (refused 5 at)) (λ (x : Unit {0}) z. got n z)
          ≡ with (choose b (got (joined D (demands_in n vs)) q) (refused 5 at)) n
      go true = refl
      go false = refl

  -- 1 says
  says_is : (D : Demands) (p : ℕ)
      → and_then (expr s p (length s) (p + 1)) (λ i q. and_then (fact s vs p (length s) q) (λ f z. asking s cs vs D (says i f) p (length s) z))
      ≡ with (check_says cs vs s (fact_form vs s (length s) (p + 3)) D p) (says (expr_at s (p + 1)) (fact_at vs s (p + 3)))
  unfolding and_then check_says fact_form choose
  says_is D p = go (dec_lt (length s) (p + 3))
    where
      i : Expr
      i = expr_at s (p + 1)

      f : Fact Expr
      f = fact_at vs s (p + 3)

      by : (φ : Form) → and_then (as_reading p φ f) (λ f z. asking s cs vs D (says i f) p (length s) z) ≡ with (check_says cs vs s φ D p) (says i f)
      by (ends q) = asking_is D (says i f) p (length s) q
      by broken = refl
      by no_verb = refl

      go : Dec (length s < p + 3) → and_then (expr s p (length s) (p + 1))
          (λ i q. and_then (fact s vs p (length s) q) (λ f z. asking s cs vs D (says i f) p (length s) z))
          ≡ with (check_says cs vs s (fact_form vs s (length s) (p + 3)) D p) (says i f)
      go (yes h) = let l : length s ≤ p + 3 = omega arith in then_out _ (expr_out s p (length s) (p + 1) (omega arith)) ∙ rw (le-leb (length s) (p + 3) l)
      go (no h) =
          then_in _ (expr_in_law s p (length s) (p + 1) (p + 3) (omega arith) (omega arith))
          ∙ ap (λ (t : Reading (Fact Expr)). and_then t (λ f z. asking s cs vs D (says i f) p (length s) z)) (fact_is s vs p (length s) (p + 3))
          ∙ by (fact_form vs s (length s) (p + 3))

  -- 2 constraint
  test_is : (D : Demands) (p : ℕ) → and_then (constraint s p (length s) (p + 1)) (λ c z. asking s cs vs D (test c) p (length s) z)
      ≡ with (check_test cs vs s D p) (test (constraint_at s (p + 1)))
  unfolding and_then check_test choose
  test_is D p = go (dec_lt (length s) (p + 6))
    where
      K : Constraint → ℕ → Reading Node
      K c z = asking s cs vs D (test c) p (length s) z

      c : Constraint
      c = constraint_at s (p + 1)

      by : (b : Bool) → and_then (choose b (got c (p + 6)) (refused 3 p)) K
          ≡ with (choose b (fitted cs vs s (joined D (test_demands c)) p (p + 6)) (refused 3 p)) (test c)
      by true = asking_is D (test c) p (length s) (p + 6)
      by false = refl

      go : Dec (length s < p + 6) → and_then (constraint s p (length s) (p + 1)) K ≡ with (check_test cs vs s D p) (test c)
      go (yes h) = then_out _ (constraint_out s p (length s) (p + 1) (omega arith)) ∙ rw (lt-ltb (length s) (p + 6) h)
      go (no h) = let l : p + 6 ≤ length s = omega arith in let m : p + 1 + 5 ≡ p + 6 = omega arith in
          ap (λ (t : Reading Constraint). and_then t K) (constraint_in s p (length s) (p + 1) (omega arith)
          ∙ ap (λ (z : ℕ). choose (operator_form s (p + 1)) (got c z) (refused 3 p)) m)
          ∙ by (operator_form s (p + 1)) ∙ rw (le-ltb (length s) (p + 6) l)

  with_map : {A B : Type 0} (r : Reading Demands) (x : A) (g : A → B) → and_then (with r x) (λ y q. got (g y) q) ≡ with r (g x)
  unfolding and_then
  with_map (got E q) x g = refl
  with_map (refused n a) x g = refl

  module _ {B : Type 0} (X : ℕ → ℕ → Reading B) (p : ℕ) where
    -- "count byte 1 to 8"
    counted_is : and_then (byte_in s 1 max_parts p (length s) (p + 1)) X ≡ choose (parts_form s (p + 1)) (X (byte_at s (p + 1)) (p + 2)) (refused 3 p)
    unfolding parts_form both choose and_then
    counted_is = go (dec_lt (p + 1) (length s))
      where
        n : ℕ
        n = byte_at s (p + 1)

        go : Dec (p + 1 < length s) → and_then (byte_in s 1 max_parts p (length s) (p + 1)) X ≡ choose (parts_form s (p + 1)) (X n (p + 2)) (refused 3 p)
        go (yes h) = let m : p + 1 + 1 ≡ p + 2 = omega arith in
            ap (λ (t : Reading ℕ). and_then t X) (byte_in_is s p (length s) 1 max_parts (p + 1) h)
            ∙ then_choose (leb 1 n && leb n max_parts) (got n (p + 1 + 1)) (refused 3 p) X
            ∙ ap (λ (z : ℕ). choose (leb 1 n && leb n max_parts) (X n z) (refused 3 p)) m
            ∙ ap (λ (b : Bool). choose b (X n (p + 2)) (refused 3 p)) (sym (both_and (leb 1 n) (leb n max_parts)))
        go (no h) = let z : n ≡ 0 = get_or-eq_default s 0 (omega arith) in then_out _ (byte_in_out s p (length s) 1 max_parts (p + 1) (omega arith)) ∙ rw z

    -- "variable byte 0 to 7"
    variable_is : and_then (byte_in s 0 max_variable p (length s) (p + 1)) X ≡ choose (variable_form s (p + 1)) (X (byte_at s (p + 1)) (p + 2)) (refused 3 p)
    unfolding variable_form both choose and_then
    variable_is = go (dec_lt (p + 1) (length s))
      where
        n : ℕ
        n = byte_at s (p + 1)

        go : Dec (p + 1 < length s) → and_then (byte_in s 0 max_variable p (length s) (p + 1)) X ≡ choose (variable_form s (p + 1)) (X n (p + 2)) (refused 3 p)
        go (yes h) = let m : p + 1 + 1 ≡ p + 2 = omega arith in
            ap (λ (t : Reading ℕ). and_then t X) (byte_in_is s p (length s) 0 max_variable (p + 1) h)
            ∙ then_choose (leb 0 n && leb n max_variable) (got n (p + 1 + 1)) (refused 3 p) X
            ∙ rw (leb-zero n, m, lt-ltb (p + 1) (length s) h)
        go (no h) = let l : length s ≤ p + 1 = omega arith in then_out _ (byte_in_out s p (length s) 0 max_variable (p + 1) l) ∙ rw
            (le-ltb (p + 1) (length s) l)

  -- n parts, given that one is read alike
  abbrev pub NodeIs : ℕ → Type 0
  NodeIs d = (D : Demands) (at p : ℕ) → node s cs vs d D at (length s) p ≡ with (check_node cs vs s d D p) (node_at vs s d p)

  parts_is : (d : ℕ) → NodeIs d → (n : ℕ) (D : Demands) (at p : ℕ)
      → parts s cs vs (node s cs vs d) n D at (length s) p ≡ with (check_parts (check_node cs vs s d) n D p) (nodes_by (node_at vs s d) (node_end vs s d) n p)
  unfolding parts check_parts nodes_by and_then
  parts_is d one zero D at p = refl
  parts_is d one (suc n) D at p = ap (λ (t : Reading Node). and_then t K) (one D at p) ∙ go (check_node cs vs s d D p) refl (parts_is d one n)
    where
      K : Node → ℕ → Reading Nodes
      K x q = and_then (parts s cs vs (node s cs vs d) n (joined D (demands_in x vs)) at (length s) q) (λ xs z. got (more x xs) z)

      x : Node
      x = node_at vs s d p

      go : (r : Reading Demands) → check_node cs vs s d D p ≡ r
          → ((D : Demands) (at p : ℕ) → parts s cs vs (node s cs vs d) n D at (length s) p
          ≡ with (check_parts (check_node cs vs s d) n D p) (nodes_by (node_at vs s d) (node_end vs s d) n p))
          → and_then (with r x) K ≡ with (and_then r (check_parts (check_node cs vs s d) n))
          (more x (nodes_by (node_at vs s d) (node_end vs s d) n (node_end vs s d p)))
      go (refused m a) w ih = refl
      go (got E q) w ih =
          let c = node_checked vs cs s d D p E q w in
          ap (λ (F : Demands). and_then (parts s cs vs (node s cs vs d) n F at (length s) q) (λ xs z. got (more x xs) z)) (sym c.asked)
          ∙ ap (λ (t : Reading Nodes). and_then t (λ xs z. got (more x xs) z)) (ih E at q)
          ∙ with_map (check_parts (check_node cs vs s d) n E q) (nodes_by (node_at vs s d) (node_end vs s d) n q) (more x)
          ∙ ap (λ (z : ℕ). with (check_parts (check_node cs vs s d) n E q) (more x (nodes_by (node_at vs s d) (node_end vs s d) n z))) c.to

  -- a node after its first byte, by its sort
  module _ (d : ℕ) (one : NodeIs d) (D : Demands) (p : ℕ) where
    abbrev r1 : Reader Node
    r1 = do i ← expr s; f ← fact s vs; asking s cs vs D (says i f)

    abbrev r2 : Reader Node
    r2 = do c ← constraint s; asking s cs vs D (test c)

    abbrev r3 : Reader Node
    r3 = do n ← byte_in s 1 max_parts; ns ← parts s cs vs (node s cs vs d) n D; pure (all_of ns)

    abbrev r4 : Reader Node
    r4 = do n ← byte_in s 1 max_parts; ns ← parts s cs vs (node s cs vs d) n D; pure (any_of ns)

    abbrev r5 : Reader Node
    r5 = do n ← node s cs vs d D; pure (non n)

    abbrev r6 : Reader Node
    r6 = do v ← byte_in s 0 max_variable; n ← node s cs vs d D; pure (exists v n)

    many_is : (g : Nodes → Node) → (do n ← byte_in s 1 max_parts; ns ← parts s cs vs (node s cs vs d) n D; pure (g ns)) p (length s) (p + 1)
        ≡ with (choose (parts_form s (p + 1)) (check_parts (check_node cs vs s d) (byte_at s (p + 1)) D (p + 2)) (refused 3 p))
        (g (nodes_by (node_at vs s d) (node_end vs s d) (byte_at s (p + 1)) (p + 2)))
    unfolding and_then
    many_is g =
        counted_is (λ n q. and_then (parts s cs vs (node s cs vs d) n D p (length s) q) (λ ns z. got (g ns) z)) p
        ∙ ap (λ (t : Reading Node). choose (parts_form s (p + 1)) t (refused 3 p))
        (ap (λ (t : Reading Nodes). and_then t (λ ns z. got (g ns) z)) (parts_is d one (byte_at s (p + 1)) D p (p + 2))
        ∙ with_map (check_parts (check_node cs vs s d) (byte_at s (p + 1)) D (p + 2))
        (nodes_by (node_at vs s d) (node_end vs s d) (byte_at s (p + 1)) (p + 2)) g)
        ∙ sym (with_choose (parts_form s (p + 1)) (check_parts (check_node cs vs s d) (byte_at s (p + 1)) D (p + 2)) (refused 3 p)
        (g (nodes_by (node_at vs s d) (node_end vs s d) (byte_at s (p + 1)) (p + 2))))

    -- one node inside, read from q on
    inner_is : (g : Node → Node) (q : ℕ) → and_then (node s cs vs d D p (length s) q) (λ n z. got (g n) z) ≡ with (check_node cs vs s d D q)
        (g (node_at vs s d q))
    inner_is g q = ap (λ (t : Reading Node). and_then t (λ n z. got (g n) z)) (one D p q) ∙ with_map (check_node cs vs s d D q) (node_at vs s d q) g

    sort_is : (k : Sort) → pick k r1 r2 r3 r4 r5 r6 (refuse 3) p (length s) (p + 1)
        ≡ with (check_by cs vs s k (check_node cs vs s d) D p) (node_by vs s k (node_at vs s d) (node_end vs s d) p)
    unfolding check_by node_by and_then
    sort_is says_sort = says_is D p
    sort_is test_sort = test_is D p
    sort_is all_sort = many_is all_of
    sort_is any_sort = many_is any_of
    sort_is not_sort = inner_is non (p + 1)
    sort_is exists_sort =
        variable_is (λ v q. and_then (node s cs vs d D p (length s) q) (λ n z. got (exists v n) z)) p
        ∙ ap (λ (t : Reading Node). choose (variable_form s (p + 1)) t (refused 3 p)) (inner_is (exists (byte_at s (p + 1))) (p + 2))
        ∙ sym (with_choose (variable_form s (p + 1)) (check_node cs vs s d D (p + 2)) (refused 3 p) (exists (byte_at s (p + 1)) (node_at vs s d (p + 2))))
    sort_is no_sort = refl

  pub node_is : (d : ℕ) → NodeIs d
  unfolding node check_node node_at and_then choose
  node_is zero D at p = refl
  node_is (suc d) D at p = go (dec_lt p (length s)) (node_is d)
    where
      go : Dec (p < length s) → NodeIs d → node s cs vs (suc d) D at (length s) p ≡ with (check_node cs vs s (suc d) D p) (node_at vs s (suc d) p)
      go (yes h) one =
          then_in _ (byte_in_law s p (length s) p (p + 1) refl (omega arith))
          ∙ ap (λ (r : Reader Node). r p (length s) (p + 1)) (pick_is (byte_at s p) (r1 d one D p) (r2 d one D p) (r3 d one D p) (r4 d one D p) (r5 d one D p)
          (r6 d one D p) (refuse 3))
          ∙ sort_is d one D p (sort_of (byte_at s p))
          ∙ rw (lt-leb (length s) p h)
      go (no h) one = let l : length s ≤ p = omega arith in then_out _ (byte_out s p (length s) p l) ∙ rw (le-leb (length s) p l)

  -- ---- the whole

  -- after the node: nothing left over, and 7
  abbrev after : ℕ → Node → ℕ → Reading Request
  after t n p = and_then (choose (eqb p (length s)) (got tt p) (refused 3 p))
      (λ (x : Unit {0}) q. and_then (choose (safe_request n) (got tt q) (refused 7 first_node_at)) (λ (y : Unit {0}) z. got (record { today = t; node = n }) z))

  after_is : (p : ℕ) → after (u32_at s header_bytes) (node_at vs s max_depth first_node_at) p ≡ and_then (ended s (request_of cs vs s) p) (safely cs vs s)
  unfolding ended safely and_then choose
  after_is p = go (eqb p (length s))
    where
      safe : (c : Bool) → and_then (choose c (got tt p) (refused 7 first_node_at)) (λ (y : Unit {0}) z. got (request_of cs vs s) z)
          ≡ choose c (got (request_of cs vs s) p) (refused 7 first_node_at)
      safe true = refl
      safe false = refl

      go : (b : Bool) → and_then (choose b (got tt p) (refused 3 p)) (λ (x : Unit {0}) q. and_then
          (choose (safe_request (node_at vs s max_depth first_node_at)) (got tt q) (refused 7 first_node_at)) (λ (y : Unit {0}) z. got (request_of cs vs s) z))
          ≡ and_then (choose b (got (request_of cs vs s) p) (refused 3 p)) (safely cs vs s)
      go true = safe (safe_request (node_at vs s max_depth first_node_at))
      go false = refl

  nodes_is : and_then (node s cs vs max_depth no_demands 0 (length s) first_node_at) (after (u32_at s header_bytes))
      ≡ and_then (check_node cs vs s max_depth no_demands first_node_at) (λ D p. and_then (ended s (request_of cs vs s) p) (safely cs vs s))
  unfolding and_then
  nodes_is = ap (λ (t : Reading Node). and_then t (after (u32_at s header_bytes))) (node_is max_depth no_demands 0 first_node_at)
      ∙ go (check_node cs vs s max_depth no_demands first_node_at)
    where
      go : (r : Reading Demands) → and_then (with r (node_at vs s max_depth first_node_at)) (after (u32_at s header_bytes))
          ≡ and_then r (λ D p. and_then (ended s (request_of cs vs s) p) (safely cs vs s))
      go (got D p) = after_is p
      go (refused n a) = refl

  abbrev day_test : ℕ → ℕ → Reading ℕ
  day_test t q = and_then (choose (leb t max_day) (got tt q) (refused 3 header_bytes)) (λ (x : Unit {0}) z. got t z)

  abbrev from_node : ℕ → ℕ → Reading Request
  from_node t q = and_then (node s cs vs max_depth no_demands 0 (length s) q) (after t)

  today_is : and_then (and_then (u32 s header_bytes (length s) header_bytes) day_test) from_node ≡ request_from cs vs s
  unfolding request_from and_then choose
  today_is = go (dec_lt (length s) first_node_at) (dec_lt max_day (u32_at s header_bytes))
    where
      t : ℕ
      t = u32_at s header_bytes

      tested : (b : Bool) → and_then (and_then (choose b (got tt first_node_at) (refused 3 header_bytes)) (λ (x : Unit {0}) z. got t z)) from_node
          ≡ choose b (from_node t first_node_at) (refused 3 header_bytes)
      tested true = refl
      tested false = refl

      go : Dec (length s < first_node_at) → Dec (max_day < t) → and_then
          (and_then (u32 s header_bytes (length s) header_bytes) day_test) from_node ≡ request_from cs vs s
      go (yes h) d = ap (λ (r : Reading ℕ). and_then (and_then r day_test) from_node) (u32_out s header_bytes (length s) header_bytes h)
          ∙ rw (lt-ltb (length s) first_node_at h)
      go (no h) (yes k) = let l : first_node_at ≤ length s = omega arith in
          ap (λ (r : Reading ℕ). and_then (and_then r day_test) from_node) (u32_in s header_bytes (length s) header_bytes first_node_at refl l) ∙ tested
          (leb t max_day)
          ∙ rw (lt-leb t max_day k, le-ltb (length s) first_node_at l, lt-ltb max_day t k)
      go (no h) (no k) = let l : first_node_at ≤ length s = omega arith in let m : t ≤ max_day = omega arith in
          ap (λ (r : Reading ℕ). and_then (and_then r day_test) from_node) (u32_in s header_bytes (length s) header_bytes first_node_at refl l) ∙ tested
          (leb t max_day)
          ∙ choose_true (from_node t first_node_at) (refused 3 header_bytes) (le-leb t max_day m)
          ∙ nodes_is
          ∙ rw (le-ltb (length s) first_node_at l, le-ltb max_day t m)

  -- the reader in one walk is the computed one
  pub request_is : read_request cs vs s ≡ computed_request cs vs s
  unfolding read_request computed_request
  request_is = slice_is version s _ (request_from cs vs s) today_is
