-- What of a world is looked at: by a constraint its constants and its day, by who joins, by a request's issuers and by what is left no more than that.
use mathlib.Core.Path.{◌≡◌, refl, ap, ap₂}
use mathlib.Core.List.{List, [], ◌++◌}
use mathlib.Core.Bool.{◌&&◌, not}
use Prim.Native.Nat.{ℕ}
use lib.ListN.{get_or}
use lib.Dec.{eqb}
use Rattle.model.specs.Limits.{principal, day, unbound}
use Rattle.model.specs.Lists.{keep, any, all}
use Rattle.model.specs.Syntax.{Expr, con, var, today, Constraint, Constant, Assertion, Withdrawal, World, Node, Nodes, says, test, all_of, any_of, non}
use Rattle.model.specs.Syntax.{exists, end, more}
use Rattle.model.specs.Kinds.{no_constant}
use Rattle.model.specs.Values.{choices, value, operator, passes}
use Rattle.model.specs.Reach.{joining}
use Rattle.model.specs.Requests.{issuers, issuers_all}
use Rattle.model.specs.Withdrawals.{is_constant, no_binding, removes, left}

pub passes_world : (X W : World) (θ : List ℕ) (c : Constraint) → X.constants ≡ W.constants → X.today ≡ W.today → passes X θ c ≡ passes W θ c
passes_world X W θ c e f = ap₂ (λ (l r : Constant). operator c.op l r) (same c.left) (same c.right)
  where
    same : (x : Expr) → value X θ x ≡ value W θ x
    same (con n) = ap (λ (l : List Constant). get_or l n no_constant) e
    same (var v) = ap (λ (l : List Constant). get_or l (get_or θ v unbound) no_constant) e
    same today = ap (λ (n : ℕ). record { kind = day; label = []; number = n }) f

module _ (X W : World) (cs : X.constants ≡ W.constants) where
  pub joining_world : (e : Expr) → joining X e ≡ joining W e
  joining_world (con c) = refl
  joining_world (var v) = ap (λ (l : List Constant). choices l principal) cs
  joining_world today = refl

  mutual
    pub issuers_world : (n : Node) → issuers n X ≡ issuers n W
    issuers_world (says e f) = joining_world e
    issuers_world (test c) = refl
    issuers_world (all_of ns) = all_world ns
    issuers_world (any_of ns) = all_world ns
    issuers_world (non n) = issuers_world n
    issuers_world (exists v n) = issuers_world n

    all_world : (ns : Nodes) → issuers_all ns X ≡ issuers_all ns W
    all_world end = refl
    all_world (more n ns) = ap₂ ◌++◌ (issuers_world n) (all_world ns)

  module _ (day : X.today ≡ W.today) where
    pub removes_world : (issuer serial : ℕ) (ws : List Withdrawal) → any (removes X issuer serial) ws ≡ any (removes W issuer serial) ws
    removes_world issuer serial ws =
        let same : passes X no_binding ≡ passes W no_binding = λ i d. passes_world X W no_binding d cs day i in
        λ i. any (λ w. is_constant w.issuer issuer && eqb w.serial serial && all (same i) w.tests) ws

    pub left_world : (ws : List Withdrawal) (𝒜 : List Assertion) → left X ws 𝒜 ≡ left W ws 𝒜
    left_world ws 𝒜 = λ i. keep (λ a. not (removes_world a.issuer a.serial ws i)) 𝒜
