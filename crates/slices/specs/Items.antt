-- Items one after another, whatever their form: what stands at an offset, and where the next one begins.
use Rattle.std.specs.Prelude.{ℕ, zero, suc, List, [], ◌∷◌}
use Rattle.model.specs.Syntax.{Constant, Verb, Assertion}
use Rattle.model.specs.Readings.{item_end, assertion_end, constant_read_at, verb_at, assertion_read_at}
use Rattle.model.specs.Policies.{Item}

module _ (next : ℕ → ℕ) where
  -- where k items from p on begin
  unfoldable pub starts_at : ℕ → ℕ → List ℕ
  starts_at zero p = []
  starts_at (suc k) p = p ∷ starts_at k (next p)

module _ {A : Type 0} (of : ℕ → A) (next : ℕ → ℕ) where
  -- k items from p on
  unfoldable pub items_at : ℕ → ℕ → List (Item A)
  items_at zero p = []
  items_at (suc k) p = record { at = p; of = of p } ∷ items_at k (next p)

abbrev pub constants_at : List ℕ → ℕ → ℕ → List (Item Constant)
constants_at s k p = items_at (constant_read_at s) (item_end s) k p

abbrev pub verbs_at : List ℕ → ℕ → ℕ → List (Item Verb)
verbs_at s k p = items_at (verb_at s) (item_end s) k p

abbrev pub assertions_at : List Verb → List ℕ → ℕ → ℕ → List (Item Assertion)
assertions_at vs s k p = items_at (assertion_read_at vs s) (assertion_end s) k p
