-- The kinds of expressions. "A variable has one kind throughout its assertion or request."
use Rattle.std.specs.Prelude.{List, [], ◌∷◌, ◌++◌, map, Bool, false, cond, ◌&&◌, ◌||◌, not, ℕ, zero, suc, ◌-◌, length, get_or, eqb, ltb, leb}
use Rattle.model.specs.Limits.{principal, thing, day, quantity, can_act_as}
use Rattle.model.specs.Lists.{any, all, each, member, product}
use Rattle.model.specs.Syntax.{Expr, con, var, today, Fact, flat, can_say, Constraint, Assertion, Withdrawal, Link, Constant, Verb, vars_of, vars_test}
use Rattle.model.specs.Syntax.{Node, Nodes, says, test, all_of, any_of, non, exists, end, more}

-- where a number has no constant
abbrev pub no_constant : Constant
no_constant = record { kind = 0; label = []; number = 0 }

-- the kind of the constant with a number, 0 where there is none
abbrev pub kind_at : List Constant → ℕ → ℕ
kind_at cs c = (get_or cs c no_constant).kind

-- "Verb 0, 'can act as', is built in with one principal parameter."
abbrev pub param_kinds : List Verb → ℕ → List ℕ
param_kinds vs zero = principal ∷ []
param_kinds vs (suc v) = get_or (map (λ (x : Verb). x.kinds) vs) v []

-- ---- what an item asks of the kinds: an expression in a place of a kind, and the two sides of a constraint

pub record Demands : Type 0 where
  pub places : List (ℕ × Expr)
  pub tests : List Constraint

abbrev pub no_demands : Demands
no_demands = record { places = []; tests = [] }

abbrev pub joined : Demands → Demands → Demands
joined D E = record { places = D.places ++ E.places; tests = D.tests ++ E.tests }

abbrev pub pair : List ℕ → List Expr → List (ℕ × Expr)
pair [] es = []
pair (k ∷ ks) [] = []
pair (k ∷ ks) (e ∷ es) = (k, e) ∷ pair ks es

-- the places of a fact: speakers and subject are principals, parameters have their verb's kinds
abbrev pub places : List Verb → Fact Expr → List (ℕ × Expr)
places vs (flat s v ps) = (principal, s) ∷ pair (param_kinds vs v) ps
places vs (can_say s d f) = (principal, s) ∷ places vs f

abbrev pub demands_of : List Verb → Assertion → Demands
demands_of vs a = record { places = each (a.head ∷ a.body) (places vs); tests = a.tests }

-- the issuer of a withdrawal is a principal
abbrev pub withdrawal_demands : Withdrawal → Demands
withdrawal_demands w = record { places = (principal, w.issuer) ∷ []; tests = w.tests }

abbrev pub says_demands : List Verb → Expr → Fact Expr → Demands
says_demands vs e f = record { places = (principal, e) ∷ places vs f; tests = [] }

abbrev pub test_demands : Constraint → Demands
test_demands c = record { places = []; tests = c ∷ [] }

abbrev mutual
  pub demands_in : Node → List Verb → Demands
  demands_in (says e f) vs = says_demands vs e f
  demands_in (test c) vs = test_demands c
  demands_in (all_of ns) vs = demands_all ns vs
  demands_in (any_of ns) vs = demands_all ns vs
  demands_in (non n) vs = demands_in n vs
  demands_in (exists v n) vs = demands_in n vs

  pub demands_all : Nodes → List Verb → Demands
  demands_all end vs = no_demands
  demands_all (more n ns) vs = joined (demands_in n vs) (demands_all ns vs)

-- ---- "no choice of kinds for the variables fits": a choice is a list of kinds, one for each variable number

abbrev pub variables : List ℕ
variables = 0 ∷ 1 ∷ 2 ∷ 3 ∷ 4 ∷ 5 ∷ 6 ∷ 7 ∷ []

abbrev pub kinds : List ℕ
kinds = principal ∷ thing ∷ day ∷ quantity ∷ []

-- the kind of an expression under a choice, 0 where it has none
abbrev pub kind_under : List Constant → List ℕ → Expr → ℕ
kind_under cs κ (con c) = kind_at cs c
kind_under cs κ (var v) = get_or κ v 0
kind_under cs κ today = day

-- "today (kind day, in constraints only)"
abbrev pub in_place : List Constant → List ℕ → ℕ × Expr → Bool
in_place cs κ (k, con c) = eqb (kind_under cs κ (con c)) k
in_place cs κ (k, var v) = eqb (kind_under cs κ (var v)) k
in_place cs κ (k, today) = false

-- the column "Operands": 1 and 2 same kind; 3 both days or both quantities; 4 both things; 5 both days
abbrev pub operands : ℕ → ℕ → ℕ → Bool
operands zero k l = false
operands (suc zero) k l = eqb k l && ltb 0 k
operands (suc (suc zero)) k l = eqb k l && ltb 0 k
operands (suc (suc (suc zero))) k l = (eqb k day && eqb l day) || (eqb k quantity && eqb l quantity)
operands (suc (suc (suc (suc zero)))) k l = eqb k thing && eqb l thing
operands (suc (suc (suc (suc (suc zero))))) k l = eqb k day && eqb l day
operands (suc (suc (suc (suc (suc (suc n)))))) k l = false

abbrev pub comparable : List Constant → List ℕ → Constraint → Bool
comparable cs κ c = operands c.op (kind_under cs κ c.left) (kind_under cs κ c.right)

abbrev pub meets : List Constant → Demands → List ℕ → Bool
meets cs D κ = all (in_place cs κ) D.places && all (comparable cs κ) D.tests

-- ---- request 05: "an entry for verb 0, for a position 0 or past the verb's arity or for a parent or child other than a constant of that parameter's kind gets
-- 5"

abbrev pub kind_of_link : List Verb → Link → ℕ
kind_of_link vs l = get_or (param_kinds vs l.verb) (l.position - 1) 0

abbrev pub fits_link : List Constant → List Verb → Link → Bool
fits_link cs vs l =
    not (eqb l.verb can_act_as) && leb 1 l.position && leb l.position (length (param_kinds vs l.verb))
    && eqb (kind_at cs l.parent) (kind_of_link vs l) && eqb (kind_at cs l.child) (kind_of_link vs l)

-- ==== Computed from here on: the kind of a variable (`Theorems.OneKind`), and the search for a choice that fits (`Theorems.KindsFit`).

-- ---- the kind of a variable: that of its first place in a fact, and 0 where it has none. A choice that fits gives it no other (`Theorems.OneKind`).

abbrev pub is_var : ℕ → Expr → Bool
is_var v (con c) = false
is_var v (var w) = eqb v w
is_var v today = false

abbrev pub kind_of : List (ℕ × Expr) → ℕ → ℕ
kind_of [] v = 0
kind_of (p ∷ ps) v = cond (is_var v p.1) p.0 (kind_of ps v)

-- the variables that occur
abbrev pub occurring : Demands → List ℕ
occurring D = each D.places (λ (p : ℕ × Expr). vars_of p.1) ++ each D.tests vars_test

-- any of the four for a variable that occurs; the others need none, and have principal
abbrev pub kinds_for : Demands → ℕ → List ℕ
kinds_for D v = cond (member v (occurring D)) kinds (principal ∷ [])

abbrev pub choices_of : Demands → List (List ℕ)
choices_of D = product (map (kinds_for D) variables)

-- there is a choice of kinds that fits: 5 where there is none
abbrev pub fitting : List Constant → Demands → Bool
fitting cs D = any (meets cs D) (choices_of D)

-- of an assertion the issuer must also be a principal constant
abbrev pub fits_assertion : List Constant → List Verb → Assertion → Bool
fits_assertion cs vs a = eqb (kind_at cs a.issuer) principal && fitting cs (demands_of vs a)
