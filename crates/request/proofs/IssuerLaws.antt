-- The marks of the issuers say who is among the request's issuers.
use mathlib.Core.Path.{◌≡◌, refl, sym, ◌∙◌, ap, ap₂}
use mathlib.Core.Bool.{Bool, true, false, cond, ◌||◌, or-false}
use mathlib.Core.List.{List, [], ◌∷◌}
use Prim.Native.Nat.{ℕ, zero, suc, ◌+◌, ◌≤◌, ◌<◌}
use native.Mathlib.Omega.{arith}
use lib.ListN.{get_or, replicate, length-replicate}
use lib.Dec.{eqb}
use Rattle.std.proofs.lemmas.List.{get_or-replicate}
use borrow.Author.Tests.{eq-eqb, ne_eqb}
use Rattle.model.specs.Limits.{principal, max_depth, first_node_at}
use Rattle.model.specs.Lists.{only, member}
use Rattle.model.specs.Syntax.{Expr, con, var, today, Constant, World, Node, Nodes, says, test, all_of, any_of, non, exists, end, more}
use Rattle.model.specs.Kinds.{kind_at}
use Rattle.model.specs.Values.{of_kind}
use Rattle.model.specs.Reach.{joining}
use Rattle.model.specs.Requests.{issuers, issuers_all}
use Rattle.model.specs.Readings.{node_at}
use Rattle.phrases.specs.Tables.{Tables}
use Rattle.phrases.specs.Marks.{marked}
use Rattle.nodes.specs.Tree.{tree_in}
use Rattle.request.specs.Issuing.{constants_by, world_by}
use Rattle.nodes.proofs.TreeLaws.{tree_is}
use Rattle.model.proofs.ListFacts.{member_append}
use Rattle.phrases.proofs.Sets.{marked_at}

-- constant p is of a kind other than 0
later : (k p n : ℕ) (cs : List Constant) → p < n → member p (of_kind k n cs) ≡ false
later k p n [] h = refl
later k p n (c ∷ cs) h =
    member_append p (only (eqb k c.kind) n) (of_kind k (suc n) cs) ∙ ap₂ ◌||◌ (single (eqb k c.kind)) (later k p (suc n) cs (omega arith))
  where
    single : (b : Bool) → member p (only b n) ≡ false
    single true = ap (λ (x : Bool). x || false) (ne_eqb p n (λ e. omega arith))
    single false = refl

kind_member : (k : ℕ) (cs : List Constant) (n i : ℕ) → 1 ≤ k → member (n + i) (of_kind k n cs) ≡ eqb k (kind_at cs i)
kind_member k [] n i h = sym (ne_eqb k 0 (λ e. omega arith))
kind_member k (c ∷ cs) n zero h =
    member_append (n + 0) (only (eqb k c.kind) n) (of_kind k (suc n) cs)
    ∙ ap₂ ◌||◌ (single (eqb k c.kind)) (later k (n + 0) (suc n) cs (omega arith)) ∙ or-false (eqb k c.kind)
  where
    single : (b : Bool) → member (n + 0) (only b n) ≡ b
    single true = ap (λ (x : Bool). x || false) (eq-eqb (n + 0) n (omega arith))
    single false = refl
kind_member k (c ∷ cs) n (suc i) h =
    member_append (n + suc i) (only (eqb k c.kind) n) (of_kind k (suc n) cs)
    ∙ ap₂ ◌||◌ (single (eqb k c.kind))
    (ap (λ (p : ℕ). member p (of_kind k (suc n) cs)) (let q : n + suc i ≡ suc n + i = omega arith in q) ∙ kind_member k cs (suc n) i h)
  where
    single : (b : Bool) → member (n + suc i) (only b n) ≡ false
    single true = ap (λ (x : Bool). x || false) (ne_eqb (n + suc i) n (λ e. omega arith))
    single false = refl

kind_by : (ks : List ℕ) (i : ℕ) → kind_at (constants_by ks) i ≡ get_or ks i 0
kind_by [] i = refl
kind_by (k ∷ ks) zero = refl
kind_by (k ∷ ks) (suc i) = kind_by ks i

-- the same constants are principals
same_principals : (cs : List Constant) (ks : List ℕ) → ((c : ℕ) → get_or ks c 0 ≡ kind_at cs c) → (p : ℕ)
    → member p (of_kind principal 0 (constants_by ks)) ≡ member p (of_kind principal 0 cs)
same_principals cs ks h p =
    from_first (constants_by ks) p ∙ ap (eqb principal) (kind_by ks p ∙ h p) ∙ sym (from_first cs p)
  where
    from_first : (ds : List Constant) (p : ℕ) → member p (of_kind principal 0 ds) ≡ eqb principal (kind_at ds p)
    from_first ds p = let q : p ≡ 0 + p = omega arith in ap (λ (i : ℕ). member i (of_kind principal 0 ds)) q ∙ kind_member principal ds 0 p (omega arith)

module _ (U W : World) (h : (p : ℕ) → member p (of_kind principal 0 U.constants) ≡ member p (of_kind principal 0 W.constants)) (p : ℕ) where
  joining_same : (e : Expr) → member p (joining U e) ≡ member p (joining W e)
  joining_same (con c) = refl
  joining_same (var v) = h p
  joining_same today = refl

  mutual
    issuers_same : (n : Node) → member p (issuers n U) ≡ member p (issuers n W)
    issuers_same (says e f) = joining_same e
    issuers_same (test c) = refl
    issuers_same (all_of ns) = issuers_all_same ns
    issuers_same (any_of ns) = issuers_all_same ns
    issuers_same (non n) = issuers_same n
    issuers_same (exists v n) = issuers_same n

    issuers_all_same : (ns : Nodes) → member p (issuers_all ns U) ≡ member p (issuers_all ns W)
    issuers_all_same end = refl
    issuers_all_same (more n ns) =
        member_append p (issuers n U) (issuers_all ns U)
        ∙ ap₂ ◌||◌ (issuers_same n) (issuers_all_same ns)
        ∙ sym (member_append p (issuers n W) (issuers_all ns W))

abbrev zeros : ℕ → List ℕ
zeros n = replicate n 0

-- THE LAW
pub issuers_are : (ks sg s z : List ℕ) → z ≡ marked (issuers (tree_in sg s max_depth first_node_at) (world_by ks)) (zeros 255) → (W : World)
    → Tables W.constants W.verbs ks sg
    → (p : ℕ) → p < 255 → get_or z p 0 ≡ cond (member p (issuers (node_at W.verbs s max_depth first_node_at) W)) 1 0
issuers_are ks sg s z e W X p h =
    ap (λ (l : List ℕ). get_or l p 0) e ∙ marked_at (issuers (tree_in sg s max_depth first_node_at) (world_by ks)) (zeros 255) p
    (rw (length-replicate {A = ℕ} 255 0) h)
    ∙ ap₂ (λ (b : Bool) (x : ℕ). cond b 1 x)
    (ap (λ (n : Node). member p (issuers n (world_by ks))) (tree_is X s max_depth first_node_at)
    ∙ issuers_same (world_by ks) W (same_principals W.constants ks X.kinds) p (node_at W.verbs s max_depth first_node_at))
    (get_or-replicate 255 p 0 0 h)
