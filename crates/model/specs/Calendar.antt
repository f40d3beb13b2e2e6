-- "A permit year by the calendar": the Gregorian calendar, in which day 0 is 1 January 2000.
use Rattle.std.specs.Prelude.{Bool, cond, ◌&&◌, ◌||◌, not, [], ◌∷◌, ℕ, zero, suc, ◌+◌, ◌-◌, ◌%◌, get_or, eqb, ltb}

-- every fourth year is a leap year, but of those that end a century only every fourth
abbrev pub leap_year : ℕ → Bool
leap_year y = eqb (y % 4) 0 && (not (eqb (y % 100) 0) || eqb (y % 400) 0)

abbrev pub year_days : ℕ → ℕ
year_days y = cond (leap_year y) 366 365

-- months from 1, January, to 12
abbrev pub month_days : ℕ → ℕ → ℕ
month_days y m = get_or (31 ∷ cond (leap_year y) 29 28 ∷ 31 ∷ 30 ∷ 31 ∷ 30 ∷ 31 ∷ 31 ∷ 30 ∷ 31 ∷ 30 ∷ 31 ∷ []) (m - 1) 0

pub record Date : Type 0 where
  pub year : ℕ
  pub month : ℕ
  pub day : ℕ

abbrev pub date : ℕ → ℕ → ℕ → Date
date y m d = record { year = y; month = m; day = d }

-- ---- the date of a day number: 1 January 2000, and so many days on

abbrev pub next_date : Date → Date
next_date d =
    cond (ltb d.day (month_days d.year d.month)) (date d.year d.month (suc d.day))
    (cond (ltb d.month 12) (date d.year (suc d.month) 1) (date (suc d.year) 1 1))

unfoldable pub date_of : ℕ → Date
date_of zero = date 2000 1 1
date_of (suc n) = next_date (date_of n)

-- ---- the day number of a date: the days of the years, of the months and of the month before it

-- of the first n years from 2000 on
unfoldable pub days_of_years : ℕ → ℕ
days_of_years zero = 0
days_of_years (suc n) = days_of_years n + year_days (2000 + n)

-- of the first m months of a year
unfoldable pub days_of_months : ℕ → ℕ → ℕ
days_of_months y zero = 0
days_of_months y (suc m) = days_of_months y m + month_days y (suc m)

abbrev pub day_of : Date → ℕ
day_of d = days_of_years (d.year - 2000) + days_of_months d.year (d.month - 1) + (d.day - 1)

-- ---- "right's calendar date one year after. 29 February goes to 28 February."

abbrev pub is_leap_day : Date → Bool
is_leap_day d = eqb d.month 2 && eqb d.day 29

abbrev pub one_year_after : Date → Date
one_year_after d = date (suc d.year) d.month (cond (is_leap_day d) 28 d.day)

-- the day number of the date one year after
unfoldable pub year_after : ℕ → ℕ
year_after n = day_of (one_year_after (date_of n))
