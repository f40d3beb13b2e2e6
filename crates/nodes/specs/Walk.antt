-- A walk over a request's tree, which does something to a state at each node, in the order of the bytes.
use Rattle.std.specs.Prelude.{ℕ, ◌≡◌}
use Rattle.model.specs.Syntax.{Expr, Fact, Constraint, Node, Nodes, says, test, all_of, any_of, non, exists, end, more}

-- what is done at a says node, at a constraint, and before and after the node of an exists; after it, with the state of before
pub record Steps (S : Type 0) : Type 0 where
  pub at_says : Expr → Fact Expr → S → S
  pub at_test : Constraint → S → S
  pub enter : ℕ → S → S
  pub leave : ℕ → S → S → S

module _ {S : Type 0} (w : Steps S) where
  unfoldable mutual
    pub walked : Node → S → S
    walked (says e f) m = w.at_says e f m
    walked (test c) m = w.at_test c m
    walked (all_of ns) m = all_walked ns m
    walked (any_of ns) m = all_walked ns m
    walked (non n) m = walked n m
    walked (exists v n) m = w.leave v m (walked n (w.enter v m))

    pub all_walked : Nodes → S → S
    all_walked end m = m
    all_walked (more n ns) m = all_walked ns (walked n m)

  -- no node changes this state
  abbrev pub Settled : S → Type 0
  Settled m = (n : Node) → walked n m ≡ m
