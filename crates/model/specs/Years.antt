-- What is proved of the calendar.
use Rattle.std.specs.Prelude.{◌≡◌, ◌↔◌, ◌⊎◌, true, false, ℕ, suc, ◌+◌, ◌≤◌, ◌<◌}
use Rattle.model.specs.Limits.{max_day}
use Rattle.model.specs.Values.{within_year}
use Rattle.model.specs.Calendar.{month_days, Date, date, date_of, day_of, is_leap_day, one_year_after, year_after}

-- a date of the calendar, from 2000 on
pub record IsDate (d : Date) : Type 0 where
  pub since : 2000 ≤ d.year
  pub month : 1 ≤ d.month
  pub months : d.month ≤ 12
  pub day : 1 ≤ d.day
  pub days : d.day ≤ month_days d.year d.month

-- Date and day number are inverse to each other, each way, and days 0 to 36,524 are the dates of 2000 to 2099.
pub record DatesAreDays : Type 0 where
  pub dated : (n : ℕ) → IsDate (date_of n)
  pub back : (n : ℕ) → day_of (date_of n) ≡ n
  pub forth : (d : Date) → IsDate d → date_of (day_of d) ≡ d
  pub ranged : (d : Date) → IsDate d → (day_of d ≤ max_day) ↔ (d.year ≤ 2099)

-- One year after has the same month and day in the next year, but for 29 February, which goes to 28 February.
pub record SameDate : Type 0 where
  pub year : (d : Date) → (one_year_after d).year ≡ suc d.year
  pub same : (d : Date) → is_leap_day d ≡ false → one_year_after d ≡ date (suc d.year) d.month d.day
  pub leap : (d : Date) → is_leap_day d ≡ true → one_year_after d ≡ date (suc d.year) 2 28
  pub dated : (d : Date) → IsDate d → IsDate (one_year_after d)

-- It is 365 or 366 days on, and 366 exactly if a 29 February lies after the day and not after it.
abbrev pub LeapBetween : ℕ → ℕ → Type 0
LeapBetween n m = (k : ℕ) × (n < k) × (k ≤ m) × (is_leap_day (date_of k) ≡ true)

pub record YearLength : Type 0 where
  pub either : (n : ℕ) → (year_after n ≡ n + 365) ⊎ (year_after n ≡ n + 366)
  pub longer : (n : ℕ) → (year_after n ≡ n + 366) ↔ LeapBetween n (year_after n)

-- "Right 0 (1 January 2000) admits left 366"; "differences of 0 and below still hold"; one year after the last day lies beyond it; a right in 2099 admits
-- every day.
pub record PermitYear : Type 0 where
  pub first : within_year 366 0 ≡ true
  pub past : within_year 367 0 ≡ false
  pub below : (left right : ℕ) → left ≤ right → right ≤ max_day → within_year left right ≡ true
  -- 31 December 2099 goes to 31 December 2100, which is no leap year
  pub beyond : year_after max_day ≡ 36889
  pub last : (left right : ℕ) → left ≤ max_day → right ≤ max_day → (date_of right).year ≡ 2099 → within_year left right ≡ true
