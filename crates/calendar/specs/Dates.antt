-- A date as the code holds it.
use Rattle.model.specs.Calendar as calendar
use Rattle.calendar.specs.declared.Date.{Date}

abbrev pub date_in : Date → calendar.Date
date_in d = calendar.date d.year d.month d.day
