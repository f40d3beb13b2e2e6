-- The kinds of the eight variables, as far as they are settled: a cell for each.
use Rattle.std.specs.Prelude.{List, [], ◌∷◌, map, slice_get, Bool, true, false, ◌==◌, if◌then◌else◌, Option, Some, None, option_and_then}
use Rattle.limits.specs.declared.Kind.TheVariants.{Principal, Thing, Day, Quantity}
use Rattle.limits.specs.Kinds.{number_of}
use Rattle.kinds.specs.declared.Term.{Term}
use Rattle.kinds.specs.declared.Term.TheVariants.{Variable, Any}
use Rattle.kinds.specs.declared.Cell.{Cell}
use Rattle.kinds.specs.declared.Cell.TheVariants.{Leads, Settled, Counted}

abbrev pub Cells : Type 0
Cells = List Cell

-- what a place asks of the kinds; an expression with no fit has no term
pub data Ask : Type 0 where
  -- two terms of one kind
  same : Option Term → Option Term → Ask
  -- a day or a quantity
  number : Option Term → Ask

abbrev pub same_cell : Cell → Cell → Bool
same_cell (Leads v) (Leads w) = v == w
same_cell (Settled k) (Settled l) = number_of k == number_of l
same_cell (Counted v) (Counted w) = v == w
same_cell _ _ = false

-- a cell c, after a has become b
abbrev pub renamed : Cell → Cell → Cell → Cell
renamed a b c = if same_cell c a then b else c

-- every cell a becomes b
abbrev pub relabel : Cells → Cell → Cell → Cells
relabel t a b = map (renamed a b) t

-- the cell of a term: there are eight variables
abbrev pub cell_of : Cells → Term → Option Cell
cell_of t (Variable v) = slice_get t v
cell_of t (Any k) = Some (Settled k)

-- a cell of days or quantities
abbrev pub is_counted : Cell → Bool
is_counted (Leads v) = false
is_counted (Settled Principal) = false
is_counted (Settled Thing) = false
is_counted (Settled Day) = true
is_counted (Settled Quantity) = true
is_counted (Counted v) = true

-- cells a and b, two that differ, become one
abbrev pub joined : Cells → Cell → Cell → Option Cells
joined t (Leads v) b = Some (relabel t (Leads v) b)
joined t (Settled k) (Leads v) = Some (relabel t (Leads v) (Settled k))
joined t (Settled k) (Settled l) = None
joined t (Settled k) (Counted v) = if is_counted (Settled k) then Some (relabel t (Counted v) (Settled k)) else None
joined t (Counted v) (Leads w) = Some (relabel t (Leads w) (Counted v))
joined t (Counted v) (Settled k) = if is_counted (Settled k) then Some (relabel t (Counted v) (Settled k)) else None
joined t (Counted v) (Counted w) = Some (relabel t (Counted v) (Counted w))

-- cells a and b become one
abbrev pub merged : Cells → Cell → Cell → Option Cells
merged t a b = if same_cell a b then Some t else joined t a b

-- a cell becomes one of days or quantities
abbrev pub counted : Cells → Cell → Option Cells
counted t (Leads v) = Some (relabel t (Leads v) (Counted v))
counted t (Settled k) = if is_counted (Settled k) then Some t else None
counted t (Counted v) = Some t

abbrev pub alike : Cells → Term → Term → Option Cells
alike t l r = option_and_then (λ a. option_and_then (merged t a) (cell_of t r)) (cell_of t l)

abbrev pub numbered : Cells → Term → Option Cells
numbered t l = option_and_then (counted t) (cell_of t l)

unfoldable pub asked : Ask → Cells → Option Cells
asked (same (Some l) (Some r)) t = alike t l r
asked (same (Some l) None) t = None
asked (same None r) t = None
asked (number (Some l)) t = numbered t l
asked (number None) t = None

-- the cells after all that is asked, if it fits
unfoldable pub feed : List Ask → Cells → Option Cells
feed [] t = Some t
feed (a ∷ qs) t = option_and_then (feed qs) (asked a t)

-- nothing is settled yet
abbrev pub nothing : Cells
nothing = map Leads (0 ∷ 1 ∷ 2 ∷ 3 ∷ 4 ∷ 5 ∷ 6 ∷ 7 ∷ [])
