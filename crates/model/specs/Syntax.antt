-- What a policy and a request say. Constants, verbs and variables are numbers.
use Rattle.std.specs.Prelude.{List, [], ◌∷◌, ◌++◌, map, ℕ}
use Rattle.model.specs.Lists.{each}

-- "An expression is .. a constant, .. a variable, .. today"
pub data Expr : Type 0 where
  con var : ℕ → Expr
  today : Expr

-- "A fact: .. for each level a principal speaker and a depth ..; a principal subject; a verb byte; its parameters."
-- `can_say b k f` is "b can say (depth k) f". Over `Expr` in a policy and a request, over ℕ once it is ground.
pub data Fact (E : Type 0) : Type 0 where
  flat : E → ℕ → List E → Fact E
  can_say : E → ℕ → Fact E → Fact E

-- "A constraint: operator byte, left, right."
pub record Constraint : Type 0 where
  pub op : ℕ
  pub left : Expr
  pub right : Expr

-- "Assertions: .. serial, issuer, head fact, .. body facts, .. constraints." The issuer is a principal constant.
pub record Assertion : Type 0 where
  pub serial : ℕ
  pub issuer : ℕ
  pub head : Fact Expr
  pub body : List (Fact Expr)
  pub tests : List Constraint

-- "Constants: .. a kind byte, a value." A principal and a thing have a label (their number is 0), a day and a quantity a number (their label is empty).
pub record Constant : Type 0 where
  pub kind : ℕ
  pub label : List ℕ
  pub number : ℕ

-- "Verbs: .. one kind byte per parameter, label"
pub record Verb : Type 0 where
  pub kinds : List ℕ
  pub label : List ℕ

-- constants are numbered from 0, verbs from 1
pub record Policy : Type 0 where
  pub version : ℕ
  pub constants : List Constant
  pub verbs : List Verb
  pub assertions : List Assertion

-- request 02: "entries of issuer, 4-byte serial, count byte and constraints"
pub record Withdrawal : Type 0 where
  pub issuer : Expr
  pub serial : ℕ
  pub tests : List Constraint

-- request 05: a slice that "lists verb, parameter position from 1, parent and child"
pub record Link : Type 0 where
  pub verb : ℕ
  pub position : ℕ
  pub parent : ℕ
  pub child : ℕ

-- "Nodes: 1 says (issuer, fact); 2 constraint; 3 all-of and 4 any-of; 5 not; 6 exists (variable, node)."
mutual
  pub data Node : Type 0 where
    says : Expr → Fact Expr → Node
    test : Constraint → Node
    all_of any_of : Nodes → Node
    non : Node → Node
    exists : ℕ → Node → Node

  pub data Nodes : Type 0 where
    end : Nodes
    more : Node → Nodes → Nodes

-- "today .., one node"
pub record Request : Type 0 where
  pub today : ℕ
  pub node : Node

-- "Facts are ground .. and each fact is said at depth 0 or unlimited": issuer, depth, and what is said
pub data Said : Type 0 where
  said : ℕ → ℕ → Fact ℕ → Said

-- what gives an assertion its meaning: the policy without its assertions, today, and the hierarchy
pub record World : Type 0 where
  pub version : ℕ
  pub constants : List Constant
  pub verbs : List Verb
  pub today : ℕ
  pub hierarchy : List Link

-- without a hierarchy
abbrev pub world_of : Policy → Request → World
world_of P q = record { version = P.version; constants = P.constants; verbs = P.verbs; today = q.today; hierarchy = [] }

abbrev pub with_hierarchy : List Link → World → World
with_hierarchy H W = record { version = W.version; constants = W.constants; verbs = W.verbs; today = W.today; hierarchy = H }

-- what was read of the lent slices (`Decision.Slices`)
pub record Read : Type 0 where
  pub policy : Policy
  pub request : Request
  pub withdrawals : List Withdrawal
  pub hierarchy : List Link

abbrev pub world_in : Read → World
world_in R = with_hierarchy R.hierarchy (world_of R.policy R.request)

-- ---- facts

module _ {E F : Type 0} where
  abbrev pub map_fact : (E → F) → Fact E → Fact F
  map_fact g (flat s v ps) = flat (g s) v (map g ps)
  map_fact g (can_say s d f) = can_say (g s) d (map_fact g f)

module _ {E : Type 0} where
  -- whom the fact is about: the subject of a flat one, the outermost speaker of a nested one
  abbrev pub subject : Fact E → E
  subject (flat s v ps) = s
  subject (can_say s d f) = s

  -- the same verb phrase with another subject
  abbrev pub about : E → Fact E → Fact E
  about b (flat s v ps) = flat b v ps
  about b (can_say s d f) = can_say b d f

-- ---- the variables of an expression, a fact, a constraint, an entry

abbrev pub vars_of : Expr → List ℕ
vars_of (con c) = []
vars_of (var v) = v ∷ []
vars_of today = []

abbrev pub vars_in : Fact Expr → List ℕ
vars_in (flat s v ps) = vars_of s ++ each ps vars_of
vars_in (can_say s d f) = vars_of s ++ vars_in f

abbrev pub vars_test : Constraint → List ℕ
vars_test c = vars_of c.left ++ vars_of c.right

abbrev pub vars_withdrawal : Withdrawal → List ℕ
vars_withdrawal w = vars_of w.issuer ++ each w.tests vars_test
