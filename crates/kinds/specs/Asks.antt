-- What the demands of an item ask of the kinds, ask by ask.
use Rattle.std.specs.Prelude.{ℕ, ◌≤◌, ◌==◌, nat_lt, if◌then◌else◌, Option, Some, None, option_map}
use mathlib.Core.List.{List, [], ◌∷◌, ◌++◌, map, Memᴰ}
use Rattle.model.specs.Limits.{max_operator, quantity}
use Rattle.model.specs.Lists.{each}
use Rattle.model.specs.Syntax.{Expr, con, var, today, Constraint, Constant}
use Rattle.model.specs.Kinds.{Demands, kind_at}
use Rattle.limits.specs.declared.Kind.TheVariants.{Thing, Day}
use Rattle.limits.specs.Kinds.{kind_of}
use Rattle.kinds.specs.declared.Term.{Term}
use Rattle.kinds.specs.declared.Term.TheVariants.{Variable, Any}
use Rattle.kinds.specs.Cells.{Ask, same, number}

-- ---- terms

-- anything of kind k; kind 0 is that of a number with no constant
abbrev pub kind_term : ℕ → Option Term
kind_term k = option_map Any (kind_of k)

-- an expression in a constraint
unfoldable pub term_of : List Constant → Expr → Option Term
term_of cs (con c) = kind_term (kind_at cs c)
term_of cs (var v) = Some (Variable v)
term_of cs today = Some (Any Day)

-- and in a place of a fact: "today (kind day, in constraints only)"
unfoldable pub place_term : List Constant → Expr → Option Term
place_term cs (con c) = kind_term (kind_at cs c)
place_term cs (var v) = Some (Variable v)
place_term cs today = None

-- ---- asks

-- an expression in a place of a kind
abbrev pub ask_place : List Constant → ℕ × Expr → Ask
ask_place cs p = same (place_term cs p.1) (kind_term p.0)

-- what operator op asks beyond operands of one kind, l being the left: 3 days or quantities; 4 things; 5 days
unfoldable pub operator_asks : ℕ → Option Term → List Ask
operator_asks op l =
    if nat_lt op 3 then []
    else if op == 3 then number l ∷ []
    else if op == 4 then same l (Some (Any Thing)) ∷ []
    else same l (Some (Any Day)) ∷ []

unfoldable pub ask_test : List Constant → Constraint → List Ask
ask_test cs c = same (term_of cs c.left) (term_of cs c.right) ∷ operator_asks c.op (term_of cs c.left)

abbrev pub asks_for : List Constant → Demands → List Ask
asks_for cs D = map (ask_place cs) D.places ++ each D.tests (ask_test cs)

-- what form has made sure of: no constant has a kind past the four, a place has one of the four, an operator is one of the five
pub record Regular (cs : List Constant) (D : Demands) : Type 0 where
  pub constants : (c : ℕ) → kind_at cs c ≤ quantity
  pub places : (p : ℕ × Expr) → Memᴰ p D.places → (1 ≤ p.0) × (p.0 ≤ quantity)
  pub tests : (c : Constraint) → Memᴰ c D.tests → (1 ≤ c.op) × (c.op ≤ max_operator)
