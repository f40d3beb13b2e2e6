-- The request's issuers by the table of kinds.
use Rattle.std.specs.Prelude.{List, [], map, ℕ}
use Rattle.model.specs.Syntax.{Constant, World}
use Rattle.model.specs.Reach.{joining}
use Rattle.phrases.specs.Marks.{marked}
use Rattle.nodes.specs.Walk.{Steps}

-- constants of these kinds
abbrev pub constants_by : List ℕ → List Constant
constants_by ks = map (λ k. record { kind = k; label = []; number = 0 }) ks

abbrev pub world_by : List ℕ → World
world_by ks = record { version = 0; constants = constants_by ks; verbs = []; today = 0; hierarchy = [] }

-- what the walk does at a node: the issuer of a says node joins
abbrev pub issuer_steps : World → Steps (List ℕ)
issuer_steps W = record { at_says = λ e f m. marked (joining W e) m; at_test = λ c m. m; enter = λ v m. m; leave = λ v before m. m }
