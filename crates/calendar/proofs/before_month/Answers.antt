-- From March on one day more in a leap year.
use mathlib.Core.Path.{◌≡◌, sym, ap, ◌∙◌}
use native.Mathlib.Omega.{arith}
use Rattle.model.specs.Calendar.{leap_year}
use Rattle.model.proofs.DaysOfYear.{more}
use Rattle.calendar.proofs.Laws.{early_month, late_month, base_most}
use Rattle.calendar.proofs.before_month.Goals as goal
use Rattle.calendar.proofs.before_month.Goals.{else-month-gt2-via-then-month-gt2+else-leap_year, else-month-gt2-via-else-month-gt2}

pub returns-then-leap_year : goal.returns-then-leap_year
returns-then-leap_year c =
    let year = c.args.year in
    let month = c.args.month in
    let one : more (leap_year year) ≡ 1 = ap more (sym c.leap_year.ensures ∙ c.if-leap_year.true) in
    let days = late_month year month c.requires.0 c.requires.1 c.if-month-gt2.true in
    (omega (arith, one, days), omega (arith, base_most month c.requires.0 c.requires.1))

pub returns-else-month-gt2 : goal.returns-else-month-gt2
returns-else-month-gt2 c =
    let year = c.args.year in
    let month = c.args.month in
    let most = base_most month c.requires.0 c.requires.1 in
    elim c.else-month-gt2.branch [
      | else-month-gt2-via-then-month-gt2+else-leap_year w ↦
          (let none : more (leap_year year) ≡ 0 = ap more (sym w.leap_year.ensures ∙ w.if-leap_year.false) in
          let days = late_month year month c.requires.0 c.requires.1 w.if-month-gt2.true in
          (omega (arith, none, days), omega (arith, most)))
      | else-month-gt2-via-else-month-gt2 w ↦
          (early_month year month c.requires.0 c.requires.1 w.if-month-gt2.false, omega (arith, most))
    ]
