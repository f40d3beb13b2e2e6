-- Reading a request's nodes as the code does: the cells of the kinds are handed on from node to node.
use Rattle.std.specs.Prelude.{ℕ, zero, suc, ◌+◌, List, ◌∷◌, Bool, true, ◌||◌, not, length, nat_lt, if◌then◌else◌}
use Rattle.std.specs.Prelude.{Option, Some, None, Result, Ok, Err}
use Rattle.model.specs.Bytes.{byte_at}
use Rattle.model.specs.Forms.{operator_form}
use Rattle.model.specs.Nodes.{parts_form, variable_form}
use Rattle.limits.specs.declared.Kind.TheVariants.{Principal}
use Rattle.kinds.specs.declared.Term.TheVariants as terms
use Rattle.kinds.specs.Cells.{Cells, Ask, same, feed}
use Rattle.phrases.specs.Phrases.{place_at, fact_form_by, fact_asks, test_asks}
use Rattle.phrases.specs.declared.Fault.{Fault}
use Rattle.phrases.specs.declared.Fault.TheVariants.{Broken, NoVerb}
use Rattle.slices.specs.declared.Refusal.{Refusal}
use Rattle.slices.specs.declared.Reason.{Reason}
use Rattle.slices.specs.declared.Reason.TheVariants as reasons
use Rattle.nodes.specs.Tree.{shape_at}
use Rattle.nodes.specs.declared.Reached.{Reached}
use Rattle.nodes.specs.declared.shape.Shape.{Shape}
use Rattle.nodes.specs.declared.shape.Shape.TheVariants.{Says, Test, All, Any, Not, Exists}

-- reading goes on at p, with the cells t
abbrev pub next : ℕ → Cells → Result Reached Refusal
next p t = Ok (record { at = p; cells = t })

abbrev pub stop : Reason → ℕ → Result Reached Refusal
stop r p = Err (record { reason = r; place = p })

-- one reading after another: a refusal ends it
abbrev pub read_then : Result Reached Refusal → (ℕ → Cells → Result Reached Refusal) → Result Reached Refusal
read_then (Ok r) f = f r.at r.cells
read_then (Err e) f = Err e

-- n nodes from `at` on, each read by f
unfoldable pub reads_by : (ℕ → Cells → Result Reached Refusal) → ℕ → ℕ → Cells → Result Reached Refusal
reads_by f zero at t = next at t
reads_by f (suc n) at t = read_then (f at t) (reads_by f n)

-- the form of a node's own bytes, but for a says node and a constraint
unfoldable pub own_form : List ℕ → Shape → ℕ → Bool
own_form s Says at = true
own_form s Test at = true
own_form s All at = parts_form s (at + 1)
own_form s Any at = parts_form s (at + 1)
own_form s Not at = true
own_form s Exists at = variable_form s (at + 1)

-- the item at `at` that ends at e, by its kinds
abbrev pub fits_to : Option Cells → ℕ → ℕ → Result Reached Refusal
fits_to (Some t) at e = next e t
fits_to None at e = stop reasons.Unfit at

unfoldable pub test_in : List ℕ → List ℕ → ℕ → Cells → Result Reached Refusal
test_in ks s at t =
    if nat_lt (length s) (at + 6) || not (operator_form s (at + 1)) then stop reasons.Form at
    else fits_to (feed (test_asks ks s (at + 1)) t) at (at + 6)

module _ (ks sg s : List ℕ) where
  -- issuer and fact
  unfoldable pub says_asks : ℕ → List Ask
  says_asks at = same (place_at ks s (at + 1)) (Some (terms.Any Principal)) ∷ fact_asks ks sg s (at + 3)

  abbrev pub says_to : Result ℕ Fault → ℕ → Cells → Result Reached Refusal
  says_to (Ok e) at t = fits_to (feed (says_asks at) t) at e
  says_to (Err Broken) at t = stop reasons.Form at
  says_to (Err NoVerb) at t = stop reasons.Unfit at

  unfoldable pub says_in : ℕ → Cells → Result Reached Refusal
  says_in at t = says_to (fact_form_by sg s (at + 3)) at t

  -- by its shape, the nodes inside it read by f
  unfoldable pub read_of : Shape → (ℕ → Cells → Result Reached Refusal) → ℕ → Cells → Result Reached Refusal
  read_of Says f at t = says_in at t
  read_of Test f at t = test_in ks s at t
  read_of All f at t = reads_by f (byte_at s (at + 1)) (at + 2) t
  read_of Any f at t = reads_by f (byte_at s (at + 1)) (at + 2) t
  read_of Not f at t = f (at + 1) t
  read_of Exists f at t = f (at + 2) t

  -- if it has one, and the form of its own bytes is right
  abbrev pub formed_of : Option Shape → (ℕ → Cells → Result Reached Refusal) → ℕ → Cells → Result Reached Refusal
  formed_of (Some k) f at t = if own_form s k at then read_of k f at t else stop reasons.Form at
  formed_of None f at t = stop reasons.Form at

  -- the node at `at`, which may hold others d - 1 deep, after items that left the cells t
  unfoldable pub read_in : ℕ → ℕ → Cells → Result Reached Refusal
  read_in zero at t = stop reasons.Form at
  read_in (suc d) at t = formed_of (shape_at s at) (read_in d) at t
