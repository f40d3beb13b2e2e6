-- The months before this one are over.
use Prim.Native.Nat.{◌-◌, ◌≤◌}
use Rattle.model.specs.Calendar.{days_of_months}
use Rattle.calendar.proofs.month_of.Given as goal

abbrev pub invariant-loop-month : goal.invariant-loop-month
invariant-loop-month l = days_of_months l.year (l.month - 1) ≤ l.over
