-- 1,461 days are four years, so the year is the one in which the day lies; then the month, by the table.
use mathlib.Core.Path.{◌≡◌, ap, ◌∙◌}
use Prim.Native.Nat.{ℕ, ◌+◌, ◌*◌, ◌-◌, ◌/◌}
use native.Mathlib.Omega.{arith}
use Rattle.model.specs.Calendar.{date, year_days, days_of_years}
use Rattle.calendar.proofs.Laws.{here, found}
use Rattle.calendar.proofs.date_of.Goals as goal

-- src/lib.rt:78:16
pub overflow_sub-over : goal.overflow_sub-over
overflow_sub-over c = omega (arith, c.before_year.ensures, (here c.args.day c.requires).0.0)

-- src/lib.rt:79:9
pub month_of-month-requires : goal.month_of-month-requires
month_of-month-requires c =
    let day = c.args.day in
    let h = here day c.requires in
    let days : year_days (2000 + (2000 + 4 * day / 1461 - 2000)) ≡ year_days (2000 + 4 * day / 1461) = ap (λ (k : ℕ). year_days (2000 + k)) h.1 in
    omega (arith, c.before_year.ensures, h.0.0, h.0.1, days)

-- src/lib.rt:73:1
pub returns : goal.returns
returns c =
    let entry = c.before.before.before in
    let day = entry.args.day in
    let year : ℕ = 2000 + 4 * day / 1461 in
    let month = c.month_of-month.result in
    let before = c.before_year in
    let h = here day entry.requires in
    let m = c.month_of-month.ensures in
    let is : day ≡ days_of_years (year - 2000) + (day - before.result) = omega (arith, before.ensures, h.0.0) in
    ap (λ (k : ℕ). date year month (day - before.result - k + 1)) c.before_month.ensures.0
    ∙ found day year month (day - before.result) (omega arith) is m.0 m.1 m.2 m.3
