-- An entry of the hierarchy as the code reads it from the bytes that begin with it, by the tables of the constants' kinds and the verbs' signatures.
use Rattle.std.specs.Prelude.{ℕ, ◌+◌, ◌*◌, List, Bool, ◌&&◌, not, length, ◌==◌, nat_lt, if◌then◌else◌, Result, Ok, Err}
use Rattle.model.specs.Limits.{link_bytes}
use Rattle.model.specs.Bytes.{byte_at, u16_at}
use Rattle.slices.specs.declared.Reason.{Reason}
use Rattle.slices.specs.declared.Reason.TheVariants.{Form, Unfit, OwnPart}

-- the verb is not 0, and has a parameter at the position
abbrev pub arity_is : List ℕ → List ℕ → Bool
arity_is sg s = not (byte_at s 0 == 0) && not (byte_at s 1 == 0) && nat_lt (byte_at s 1) (byte_at sg (4 * byte_at s 0))

module _ (ks sg s : List ℕ) where
  -- the kind of the parameter at the position
  abbrev pub kind_here : ℕ
  kind_here = byte_at sg (4 * byte_at s 0 + byte_at s 1)

  abbrev pub kinds_are : Bool
  kinds_are = byte_at ks (u16_at s 2) == kind_here && byte_at ks (u16_at s 4) == kind_here

  abbrev pub fits_by : Bool
  fits_by = arity_is sg s && kinds_are

  -- how many bytes it has: its verb is there, then all of it is, then it fits, and then its parts are apart
  unfoldable pub check_by : Result ℕ Reason
  check_by =
      if length s == 0 then Err Form
      else (if byte_at sg (4 * byte_at s 0) == 0 then Err Unfit
      else (if nat_lt (length s) link_bytes then Err Form
      else (if not fits_by then Err Unfit
      else (if u16_at s 2 == u16_at s 4 then Err OwnPart
      else Ok link_bytes))))
