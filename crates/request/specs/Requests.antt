-- What the request reader hands out.
use Rattle.std.specs.Prelude.{ℕ, List, map, cond, length, get_or, slice_get, ◌==◌, nat_lt, ◌||◌, if◌then◌else◌, Option, Some, None, Result, Ok, Err}
use Rattle.model.specs.Limits.{max_day, max_depth, first_node_at, header_bytes}
use Rattle.model.specs.Lists.{member}
use Rattle.model.specs.Syntax as syntax
use Rattle.model.specs.Syntax.{Verb}
use Rattle.model.specs.Kinds.{demands_in, kind_of, variables}
use Rattle.model.specs.Requests.{free}
use Rattle.model.specs.Bytes.{u32_at, Reading, got, refused}
use Rattle.limits.specs.Kinds as kinds
use Rattle.kinds.specs.declared.Cell.{Cell}
use Rattle.kinds.specs.declared.Cell.TheVariants.{Settled}
use Rattle.kinds.specs.Cells.{Cells, nothing}
use Rattle.slices.specs.Steps.{number_of}
use Rattle.slices.specs.declared.Refusal.{Refusal}
use Rattle.slices.specs.declared.Reason.TheVariants as reasons
use Rattle.nodes.specs.Tree.{tree_in}
use Rattle.nodes.specs.Nodes.{read_in}
use Rattle.safety.specs.Safety.{judged_in}
use Rattle.nodes.specs.declared.Reached.{Reached}
use Rattle.safety.specs.declared.Judged.{Judged}
use Rattle.request.specs.declared.Request.{Request}

-- ---- THE PROMISE: the model's answer, as the code gives it

-- 1 for each of the eight variables that is in the list
abbrev pub marks : List ℕ → List ℕ
marks vs = map (λ v. cond (member v vs) 1 0) variables

-- today, the kind of each variable by its first place in a fact, and which variables are free
unfoldable pub handed_out : List Verb → syntax.Request → Request
handed_out vs q = record { today = q.today; kinds = map (kind_of (demands_in q.node vs).places) variables; free = marks (free q.node) }

-- that of an accepted request, or a refusal's number and place
abbrev pub answered : List Verb → Reading syntax.Request → Result Request (ℕ × ℕ)
answered vs (got q e) = Ok (handed_out vs q)
answered vs (refused n p) = Err (n, p)

-- what the code's result says
abbrev pub said : Result Request Refusal → Result Request (ℕ × ℕ)
said (Ok r) = Ok r
said (Err r) = Err (number_of r.reason, r.place)

-- ---- the same in the code's order, by the two tables

-- the kind that a cell stands for, 0 where none is settled
abbrev pub kind_in : Option Cell → ℕ
kind_in (Some (Settled k)) = kinds.number_of k
kind_in _ = 0

-- and that of a variable, if it is used
abbrev pub cell_kind : Cells → List ℕ → ℕ → ℕ
cell_kind t used v = if get_or used v 0 == 1 then kind_in (slice_get t v) else 0

abbrev pub cell_kinds : Cells → List ℕ → List ℕ
cell_kinds t used = map (cell_kind t used) variables

module _ (ks sg s : List ℕ) where
  -- safe, or not
  abbrev pub accepted_in : Option Judged → Cells → Result Request Refusal
  accepted_in (Some j) t = Ok (record { today = u32_at s header_bytes; kinds = cell_kinds t j.used; free = j.free })
  accepted_in None t = Err (record { reason = reasons.UnsafeRequest; place = first_node_at })

  -- nothing is left over
  abbrev pub ended_in : Result Reached Refusal → Result Request Refusal
  ended_in (Ok r) =
      if r.at == length s then accepted_in (judged_in (tree_in sg s max_depth first_node_at)) r.cells
      else Err (record { reason = reasons.Form; place = r.at })
  ended_in (Err r) = Err r

  -- today, one node
  unfoldable pub whole_in : Result Request Refusal
  whole_in =
      if nat_lt (length s) first_node_at || nat_lt max_day (u32_at s header_bytes) then Err (record { reason = reasons.Form; place = header_bytes })
      else ended_in (read_in ks sg s max_depth first_node_at nothing)
