-- The date, one year on, and back.
use mathlib.Core.Path.{sym, ap, subst, ◌∙◌}
use native.Mathlib.Omega.{arith}
use Rattle.model.specs.Calendar.{Date, day_of, one_year_after}
use Rattle.model.specs.Years.{IsDate}
use Rattle.calendar.specs.Dates.{date_in}
use Rattle.calendar.proofs.Laws.{dates, kept, year_after_is}
use Rattle.calendar.proofs.year_after.Goals as goal

-- src/lib.rt:116:15
pub overflow_add-date : goal.overflow_add-date
overflow_add-date c =
    let found = c.date_of-date in
    omega (arith, (dates c.args.day (date_in found.result) found.ensures c.requires).1)

-- src/lib.rt:115:5
pub day_of-requires : goal.day_of-requires
day_of-requires c =
    let day = c.day_kept-kept in
    let found = c.date_of-date in
    let entry = c.before.before.before in
    let h = dates entry.args.day (date_in found.result) found.ensures entry.requires in
    let same = kept found.result.year found.result.month found.result.day day.result day.ensures in
    (subst IsDate (sym same) h.0, omega (arith, h.1))

-- src/lib.rt:109:1
pub returns : goal.returns
returns c =
    let day = c.day_kept-kept in
    let found = c.date_of-date in
    let entry = c.before.before.before.before in
    let same = kept found.result.year found.result.month found.result.day day.result day.ensures in
    c.day_of.ensures ∙ ap day_of same ∙ ap (λ (d : Date). day_of (one_year_after d)) found.ensures ∙ year_after_is entry.args.day
