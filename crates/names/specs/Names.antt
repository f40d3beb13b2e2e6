-- Constants and verbs by the bytes that begin with them: the form of one (3), and whether it is alike to an earlier one (4). Only the list knows where each
-- of them stands.
use Rattle.std.specs.Prelude.{ℕ, zero, suc, ◌+◌, List, [], ◌∷◌, ◌++◌, drop, Bool, if◌then◌else◌, Result, Ok, Err}
use Rattle.model.specs.Lists.{any}
use Rattle.model.specs.Bytes.{u16_at}
use Rattle.model.specs.Readings.{item_end, constant_read_at, verb_at}
use Rattle.model.specs.Forms.{constant_form, verb_form}
use Rattle.model.specs.Policies.{alike_constants, alike_verbs}
use Rattle.slices.specs.Steps.{Step, Next, Refused, then_step, count_right}
use Rattle.slices.specs.Lists.{standing}
use Rattle.slices.specs.declared.Reason.{Reason}
use Rattle.slices.specs.declared.Reason.TheVariants.{Form, Repeated}
use Rattle.names.specs.declared.named.Taken.{Taken}

-- ---- one item

-- the bytes begin with a constant of right form, or a verb
abbrev pub constant_right : List ℕ → Bool
constant_right s = constant_form s 0

abbrev pub verb_right : List ℕ → Bool
verb_right s = verb_form s 0

-- the constants that they begin with are alike, or the verbs
abbrev pub constants_same : List ℕ → List ℕ → Bool
constants_same s t = alike_constants (constant_read_at s 0) (constant_read_at t 0)

abbrev pub verbs_same : List ℕ → List ℕ → Bool
verbs_same s t = alike_verbs (verb_at s 0) (verb_at t 0)

-- ---- a list of them

-- how many bytes a name that is taken has, or why it is refused
abbrev pub size_of : Result Taken Reason → Result ℕ Reason
size_of (Ok x) = Ok x.size
size_of (Err e) = Err e

module _ (form : List ℕ → Bool) (alike : List ℕ → List ℕ → Bool) (s : List ℕ) where
  -- an item, after the names that stand at these offsets of s
  unfoldable pub name_by : List ℕ → List ℕ → Result ℕ Reason
  name_by before item = if form item then (if any (λ at. alike item (drop at s)) before then Err Repeated else Ok (item_end item 0)) else Err Form

  -- n names from an offset on
  unfoldable pub names_by : ℕ → List ℕ → ℕ → Step
  names_by zero before at = Next at
  names_by (suc n) before at = then_step (standing at (name_by before (drop at s))) (names_by n (before ++ at ∷ []))

  -- a list of them, whose count stands at p
  unfoldable pub name_list : ℕ → ℕ → ℕ → Step
  name_list lowest highest p = if count_right s lowest highest p then names_by (u16_at s p) [] (p + 2) else Refused 3 p
