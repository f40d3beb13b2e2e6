-- What the two walks do at a node: the one marks the free variables, the other the numbers that are bound, if each is new.
use Rattle.std.specs.Prelude.{ℕ, List, get_or, set, Option, option_and_then}
use Rattle.model.specs.Syntax.{vars_of, vars_in, vars_test}
use Rattle.phrases.specs.Marks.{marked}
use Rattle.nodes.specs.Walk.{Steps}
use Rattle.safety.specs.Safety.{turned}

abbrev pub free_steps : Steps (List ℕ)
free_steps = record {
  at_says = λ e f m. marked (vars_in f) (marked (vars_of e) m);
  at_test = λ c m. marked (vars_test c) m;
  enter = λ v m. m;
  leave = λ v before m. set m v (get_or before v 0);
}

-- v must be new, and is marked
abbrev pub newly : ℕ → List ℕ → Option (List ℕ)
newly = turned 0

abbrev pub binders_steps : Steps (Option (List ℕ))
binders_steps = record { at_says = λ e f m. m; at_test = λ c m. m; enter = λ v m. option_and_then (newly v) m; leave = λ v before m. m }
