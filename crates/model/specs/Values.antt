-- Bindings, values and constraints.
use Rattle.std.specs.Prelude.{List, [], ◌∷◌, ◌++◌, map, Bool, false, cond, ◌&&◌, not, ℕ, zero, suc, ◌+◌, get_or, eqb, leb}
use Rattle.model.specs.Limits.{day, max_day, unbound}
use Rattle.model.specs.Lists.{only, same_list, front, product}
use Rattle.model.specs.Syntax.{Expr, con, var, today, Constraint, Assertion, Constant, World}
use Rattle.model.specs.Calendar.{year_after}
use Rattle.model.specs.Kinds.{no_constant, demands_of, kind_of, variables}

-- ---- "variables range over the policy's constants of their kind"

-- the numbers of the constants of a kind, from `n` on
abbrev pub of_kind : ℕ → ℕ → List Constant → List ℕ
of_kind k n [] = []
of_kind k n (c ∷ cs) = only (eqb k c.kind) n ++ of_kind k (suc n) cs

-- what a variable of a kind may be bound to; kind 0 is that of a variable that is not there
abbrev pub choices : List Constant → ℕ → List ℕ
choices cs zero = unbound ∷ []
choices cs (suc k) = of_kind (suc k) 0 cs

-- the constant that stands for an expression under a binding
abbrev pub bound : List ℕ → Expr → ℕ
bound θ (con c) = c
bound θ (var v) = get_or θ v unbound
bound θ today = unbound

-- ---- labels: the one place that says which are alike, and which begins with which

-- "0x41 to 0x5A are read as 0x61 to 0x7A"
unfoldable pub lower : ℕ → ℕ
lower b = cond (leb 0x41 b && leb b 0x5A) (b + 0x20) b

-- a label in small letters; nothing hands it out
abbrev pub lowered : List ℕ → List ℕ
lowered l = map lower l

-- "Two labels are now alike if they agree after" that
abbrev pub alike : List ℕ → List ℕ → Bool
alike l r = same_list (lowered l) (lowered r)

-- the first begins with the second
abbrev pub begins : List ℕ → List ℕ → Bool
begins l r = front (lowered r) (lowered l)

-- ---- constraints

abbrev pub value : World → List ℕ → Expr → Constant
value W θ (con c) = get_or W.constants c no_constant
value W θ (var v) = get_or W.constants (get_or θ v unbound) no_constant
value W θ today = record { kind = day; label = []; number = W.today }

abbrev pub same_value : Constant → Constant → Bool
same_value l r = alike l.label r.label && eqb l.number r.number

-- operator 5: "left is no later than right's calendar date one year after"; a number above 36,524 is no day
abbrev pub within_year : ℕ → ℕ → Bool
within_year l r = leb r max_day && leb l (year_after r)

-- the column "Holds if": 1, 2 values equal, values differ; 3 left at most right; 4 left's label begins with right's; 5
abbrev pub operator : ℕ → Constant → Constant → Bool
operator zero l r = false
operator (suc zero) l r = same_value l r
operator (suc (suc zero)) l r = not (same_value l r)
operator (suc (suc (suc zero))) l r = leb l.number r.number
operator (suc (suc (suc (suc zero)))) l r = begins l.label r.label
operator (suc (suc (suc (suc (suc zero))))) l r = within_year l.number r.number
operator (suc (suc (suc (suc (suc (suc n)))))) l r = false

abbrev pub passes : World → List ℕ → Constraint → Bool
passes W θ c = operator c.op (value W θ c.left) (value W θ c.right)

-- ==== Computed from here on: all bindings as a list. `Theorems.InstanceBindings` and `AnswerBindings` say which they are.

-- all bindings of variables of these kinds, ascending. A binding has a constant for each variable number, `unbound` where the variable is not there.
abbrev pub bindings : List Constant → List ℕ → List (List ℕ)
bindings cs ks = product (map (choices cs) ks)

-- of an assertion
abbrev pub kinds_of : World → Assertion → ℕ → ℕ
kinds_of W a = kind_of (demands_of W.verbs a).places

abbrev pub bindings_of : World → Assertion → List (List ℕ)
bindings_of W a = bindings W.constants (map (kinds_of W a) variables)
