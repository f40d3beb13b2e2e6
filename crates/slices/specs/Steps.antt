-- How far a reading came, without what it read: what the code's functions hand on.
use Rattle.std.specs.Prelude.{ℕ, ◌+◌, Result, Ok, Err, List, Bool, true, false, length, eqb, ltb}
use Rattle.model.specs.Bytes.{u16_at, choose, Reading, got, refused}
use Rattle.slices.specs.declared.Refusal.{Refusal}
use Rattle.slices.specs.declared.Reason.{Reason}
use Rattle.slices.specs.declared.Reason.TheVariants as reasons

-- where reading goes on, or a refusal's number and place
pub data Step : Type 0 where
  Next : ℕ → Step
  Refused : ℕ → ℕ → Step

-- a refusal's number
abbrev pub number_of : Reason → ℕ
number_of reasons.Version = 1
number_of reasons.Length = 2
number_of reasons.Form = 3
number_of reasons.Repeated = 4
number_of reasons.Unfit = 5
number_of reasons.UnsafeAssertion = 6
number_of reasons.UnsafeRequest = 7
number_of reasons.Variable = 10
number_of reasons.OwnPart = 11

-- what a function's result says
abbrev pub step_of : Result ℕ Refusal → Step
step_of (Ok e) = Next e
step_of (Err r) = Refused (number_of r.reason) r.place

unfoldable pub step : {A : Type 0} → Reading A → Step
step (got x e) = Next e
step (refused n p) = Refused n p

-- one step after another: a refusal ends it
unfoldable pub then_step : Step → (ℕ → Step) → Step
then_step (Next e) f = f e
then_step (Refused n p) f = Refused n p

-- a list's count is there, and in its range
unfoldable pub count_right : List ℕ → ℕ → ℕ → ℕ → Bool
count_right s lowest highest p =
    choose (ltb (length s) (p + 2)) false
    (choose (ltb (u16_at s p) lowest) false
    (choose (ltb highest (u16_at s p)) false true))

-- nothing is left over
unfoldable pub ended_at : List ℕ → ℕ → Step
ended_at s p = choose (eqb p (length s)) (Next p) (Refused 3 p)
