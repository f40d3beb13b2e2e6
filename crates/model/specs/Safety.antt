-- Safe assertions (document 01, "Safe assertions"), and the test for safe requests, whose rules are in `Safe`.
use Rattle.std.specs.Prelude.{List, [], ◌∷◌, ◌++◌, Bool, true, false, ◌&&◌, not, ℕ}
use Rattle.std.proofs.Math.Option.{Option, none, some}
use Rattle.model.specs.Lists.{keep, all, each, member, among, without, apart}
use Rattle.model.specs.Syntax.{Expr, Fact, flat, can_say, Assertion, vars_of, vars_in, vars_test}
use Rattle.model.specs.Syntax.{Node, Nodes, says, test, all_of, any_of, non, exists, end, more}
use Rattle.model.specs.Kinds.{variables}
use Rattle.model.specs.Requests.{free}

-- ---- assertions

abbrev pub is_flat : Fact Expr → Bool
is_flat (flat s v ps) = true
is_flat (can_say s d f) = false

-- "In a flat head every variable occurs in the body. In a nested head the outermost speaker is a constant or occurs in the body."
abbrev pub safe_head : Fact Expr → List ℕ → Bool
safe_head (flat s v ps) in_body = among (vars_in (flat s v ps)) in_body
safe_head (can_say s d f) in_body = among (vars_of s) in_body

-- "Body facts are flat. .. Constraint variables occur in head or body."
abbrev pub safe_assertion : Assertion → Bool
safe_assertion a =
    let in_body = each a.body vars_in in
    all is_flat a.body && safe_head a.head in_body && among (each a.tests vars_test) (vars_in a.head ++ in_body)

-- ---- the variables that a request binds, once for each exists (`Safe`)

abbrev mutual
  pub binders : Node → List ℕ
  binders (says e f) = []
  binders (test c) = []
  binders (all_of ns) = binders_all ns
  binders (any_of ns) = binders_all ns
  binders (non n) = binders n
  binders (exists v n) = v ∷ binders n

  pub binders_all : Nodes → List ℕ
  binders_all end = []
  binders_all (more n ns) = binders n ++ binders_all ns

-- ==== Computed from here on: whether a request is safe, and `Theorems.SafelyAsked` says that the rules of `Safe` find the same.

-- ---- requests: "from left to right with a set of known variables, empty at first"

abbrev pub provided : Bool → Option (List ℕ) → Option (List ℕ)
provided true o = o
provided false o = none

abbrev pub onward : Option (List ℕ) → (List ℕ → Option (List ℕ)) → Option (List ℕ)
onward none f = none
onward (some vs) f = f vs

-- the variables known after a node, if it is safe where `vs` are known before
abbrev mutual
  pub known : Node → List ℕ → Option (List ℕ)
  -- "a flat says adds its variables"
  known (says e (flat s v ps)) vs = some (vars_of e ++ vars_in (flat s v ps) ++ vs)
  -- "a nested says needs its fact's known and adds its issuer's"
  known (says e (can_say s d f)) vs = provided (among (vars_in (can_say s d f)) vs) (some (vars_of e ++ vs))
  -- "a constraint needs its variables known"
  known (test c) vs = provided (among (vars_test c) vs) (some vs)
  -- "all-of hands the set on"
  known (all_of ns) vs = known_all ns vs
  -- "any-of starts each part alike and keeps the intersection"
  known (any_of ns) vs = known_any ns vs
  -- "and a not its free ones"; stricter: "what a not holds is itself safe from the same set"
  known (non n) vs = provided (among (free n) vs) (onward (known n vs) (λ ws. some vs))
  -- "exists needs its variable unknown before and known after, then drops it"
  known (exists v n) vs = provided (not (member v vs)) (onward (known n vs) (λ ws. provided (member v ws) (some (without v ws))))

  pub known_all : Nodes → List ℕ → Option (List ℕ)
  known_all end vs = some vs
  known_all (more n ns) vs = onward (known n vs) (λ ws. known_all ns ws)

  -- an any-of has at least one part; past the last nothing is taken away
  pub known_any : Nodes → List ℕ → Option (List ℕ)
  known_any end vs = some variables
  known_any (more n ns) vs = onward (known n vs) (λ ws. onward (known_any ns vs) (λ us. some (keep (λ w. member w us) ws)))

abbrev pub is_safe : Option (List ℕ) → List ℕ → Bool
is_safe none vs = false
is_safe (some ws) vs = among vs ws

-- stricter: "all free variables are known at the end, a bound number is used nowhere outside its one binder"
abbrev pub safe_request : Node → Bool
safe_request n = is_safe (known n []) (free n) && apart (binders n) && all (λ v. not (member v (free n))) (binders n)
