-- Safety as the code finds it: a set of variables is eight marks, and None is known after a node that is not safe.
use Rattle.std.specs.Prelude.{ℕ, ◌-◌, List, [], ◌∷◌, get_or, set, ◌==◌, if◌then◌else◌, Option, Some, None, option_and_then}
use Rattle.model.specs.Syntax.{Expr, Fact, flat, can_say, Node, Nodes, says, test, all_of, any_of, non, exists, end, more, vars_of, vars_in, vars_test}
use Rattle.model.specs.Requests.{free}
use Rattle.model.specs.Safety.{binders}
use Rattle.phrases.specs.Marks.{none, marked, within, meet}
use Rattle.safety.specs.declared.Judged.{Judged}

abbrev pub full : List ℕ
full = 1 ∷ 1 ∷ 1 ∷ 1 ∷ 1 ∷ 1 ∷ 1 ∷ 1 ∷ []

-- ---- "a bound number is used nowhere outside its one binder": each of the numbers is new, not in m and not twice in the list

unfoldable pub taken : List ℕ → List ℕ → Option (List ℕ)
taken [] m = Some m
taken (v ∷ vs) m = if get_or m v 0 == 0 then taken vs (set m v 1) else None

-- ---- the variables known after a node, if it is safe where m are known before

-- what a holds must be known in m
abbrev pub needed : List ℕ → List ℕ → List ℕ → Option (List ℕ)
needed a m u = if within 8 a m then Some u else None

-- the mark of v must be x, and becomes the other
abbrev pub turned : ℕ → ℕ → List ℕ → Option (List ℕ)
turned x v u = if get_or u v 0 == x then Some (set u v (1 - x)) else None

-- variable v must be known, and is dropped
abbrev pub dropped : ℕ → List ℕ → Option (List ℕ)
dropped = turned 1

unfoldable pub known_says : Expr → Fact Expr → List ℕ → Option (List ℕ)
known_says e (flat s v ps) m = Some (marked (vars_in (flat s v ps)) (marked (vars_of e) m))
known_says e (can_say s d f) m = needed (marked (vars_in (can_say s d f)) none) m (marked (vars_of e) m)

unfoldable mutual
  pub known_in : Node → List ℕ → Option (List ℕ)
  known_in (says e f) m = known_says e f m
  known_in (test c) m = needed (marked (vars_test c) none) m m
  known_in (all_of ns) m = known_all_in ns m
  known_in (any_of ns) m = known_any_in ns m
  known_in (non n) m = option_and_then (λ _. option_and_then (λ _. Some m) (known_in n m)) (needed (marked (free n) none) m m)
  known_in (exists v n) m = if get_or m v 0 == 0 then option_and_then (dropped v) (known_in n m) else None

  pub known_all_in : Nodes → List ℕ → Option (List ℕ)
  known_all_in end m = Some m
  known_all_in (more n ns) m = option_and_then (known_all_in ns) (known_in n m)

  pub known_any_in : Nodes → List ℕ → Option (List ℕ)
  known_any_in end m = Some full
  known_any_in (more n ns) m = option_and_then (λ u. option_and_then (λ w. Some (meet 8 u w)) (known_any_in ns m)) (known_in n m)

-- ---- the whole request: its free variables and all that it uses, if it is safe

-- "all free variables are known at the end"
abbrev pub judged_known : List ℕ → List ℕ → List ℕ → Option Judged
judged_known f u w = if within 8 f w then Some (record { free = f; used = u }) else None

unfoldable pub judged_in : Node → Option Judged
judged_in n =
    let f = marked (free n) none in
    option_and_then (λ u. option_and_then (judged_known f u) (known_in n none)) (taken (binders n) f)
