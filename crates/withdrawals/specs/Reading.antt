-- An entry of the withdrawals as the code reads it from the bytes that begin with it, by the table of the constants' kinds.
use Rattle.std.specs.Prelude.{ℕ, zero, suc, ◌+◌, List, ◌∷◌, Bool, true, ◌&&◌, not, nat_lt, is_none, if◌then◌else◌, Some, Result, Ok, Err}
use Rattle.model.specs.Limits.{first_variable}
use Rattle.model.specs.Bytes.{byte_at, u16_at}
use Rattle.model.specs.Entries.{withdrawal_end, withdrawal_form}
use Rattle.limits.specs.declared.Kind.TheVariants.{Principal}
use Rattle.kinds.specs.declared.Term.TheVariants.{Any}
use Rattle.kinds.specs.Cells.{Ask, same, feed, nothing}
use Rattle.phrases.specs.Phrases.{place_at, tests_asks}
use Rattle.slices.specs.declared.Reason.{Reason}
use Rattle.slices.specs.declared.Reason.TheVariants.{Form, Unfit, Variable}

-- the expression at p is no variable
abbrev pub closed_expr : List ℕ → ℕ → Bool
closed_expr s p = nat_lt (u16_at s p) first_variable

-- no side of the constraint at p is one, and none of n from p on
abbrev pub test_closed : List ℕ → ℕ → Bool
test_closed s p = closed_expr s (p + 1) && closed_expr s (p + 3)

unfoldable pub tests_closed : ℕ → List ℕ → ℕ → Bool
tests_closed zero s p = true
tests_closed (suc n) s p = test_closed s p && tests_closed n s (p + 5)

abbrev pub closed_by : List ℕ → Bool
closed_by s = closed_expr s 0 && tests_closed (byte_at s 6) s 7

module _ (ks s : List ℕ) where
  -- what an entry asks of the kinds
  unfoldable pub entry_asks : List Ask
  entry_asks = same (place_at ks s 0) (Some (Any Principal)) ∷ tests_asks ks s (byte_at s 6) 7

  -- how many bytes it has: its form, then whether it fits, and then whether it has variables
  unfoldable pub check_by : Result ℕ Reason
  check_by =
      if not (withdrawal_form s 0) then Err Form
      else (if is_none (feed entry_asks nothing) then Err Unfit
      else (if closed_by s then Ok (withdrawal_end s 0)
      else Err Variable))
