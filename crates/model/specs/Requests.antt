-- What a request asks: its issuers, its free variables, and which bindings satisfy it (document 01, "Request bytes and decision").
use Rattle.std.specs.Prelude.{◌⊎◌, cond, ℕ, set, T}
use mathlib.Core.List.{List, [], ◌++◌, map, Memᴰ}
use Rattle.model.specs.Limits.{unlimited}
use Rattle.model.specs.Lists.{member, without}
use Rattle.model.specs.Syntax.{map_fact, World, Said, said, Node, Nodes, says, test, all_of, any_of, non, exists, end, more, vars_of, vars_in}
use Rattle.model.specs.Syntax.{vars_test}
use Rattle.model.specs.Kinds.{demands_in, kind_of, variables}
use Rattle.model.specs.Values.{bound, passes, of_kind, bindings}
use Rattle.model.specs.Reach.{joining}

-- the issuers of its says nodes, for the reach
abbrev mutual
  pub issuers : Node → World → List ℕ
  issuers (says e f) W = joining W e
  issuers (test c) W = []
  issuers (all_of ns) W = issuers_all ns W
  issuers (any_of ns) W = issuers_all ns W
  issuers (non n) W = issuers n W
  issuers (exists v n) W = issuers n W

  pub issuers_all : Nodes → World → List ℕ
  issuers_all end W = []
  issuers_all (more n ns) W = issuers n W ++ issuers_all ns W

abbrev mutual
  pub free : Node → List ℕ
  free (says e f) = vars_of e ++ vars_in f
  free (test c) = vars_test c
  free (all_of ns) = free_all ns
  free (any_of ns) = free_all ns
  free (non n) = free n
  free (exists v n) = without v (free n)

  pub free_all : Nodes → List ℕ
  free_all end = []
  free_all (more n ns) = free n ++ free_all ns

-- ---- "A says node holds if its fact is said at unlimited depth; the others read as first-order logic."

-- over what is derivable; an exists ranges over the policy's constants of its variable's kind
module _ (W : World) (kind : ℕ → ℕ) (Derivable : Said → Type 0) where
  abbrev mutual
    pub Holds : Node → List ℕ → Type 0
    Holds (says e f) θ = Derivable (said (bound θ e) unlimited (map_fact (bound θ) f))
    Holds (test c) θ = T (passes W θ c)
    Holds (all_of ns) θ = HoldAll ns θ
    Holds (any_of ns) θ = HoldAny ns θ
    Holds (non n) θ = ¬ Holds n θ
    Holds (exists v n) θ = (c : ℕ) × Memᴰ c (of_kind (kind v) 0 W.constants) × Holds n (set θ v c)

    pub HoldAll : Nodes → List ℕ → Type 0
    HoldAll end θ = Unit {0}
    HoldAll (more n ns) θ = Holds n θ × HoldAll ns θ

    pub HoldAny : Nodes → List ℕ → Type 0
    HoldAny end θ = ⊥
    HoldAny (more n ns) θ = Holds n θ ⊎ HoldAny ns θ

-- ==== Computed from here on: the kind of a variable (`Theorems.OneKind`), and all bindings as a list (`Theorems.AnswerBindings`).

-- ---- "Bindings range over the policy's constants of the variable's kind. .. 255 where not free"

abbrev pub kinds_in : World → Node → ℕ → ℕ
kinds_in W n = kind_of (demands_in n W.verbs).places

abbrev pub free_kinds : World → Node → List ℕ
free_kinds W n = map (λ v. cond (member v (free n)) (kinds_in W n v) 0) variables

abbrev pub bindings_in : World → Node → List (List ℕ)
bindings_in W n = bindings W.constants (free_kinds W n)
