-- Dates and day numbers are inverse to each other: a month is walked day by day, a year month by month, and the years one after another, so each date is
-- reached on the day that is its number.
use mathlib.Core.Path.{◌≡◌, refl, sym, ap, subst, ◌∙◌}
use mathlib.Core.Bool.{Bool, true, false, cond}
use Prim.Native.Nat.{ℕ, zero, suc, ◌+◌, ◌-◌, ◌≤◌, ◌<◌}
use native.Mathlib.Decide.{dec_lt}
use native.Mathlib.Omega.{arith}
use borrow.Author.Tests.{lt-ltb, le-ltb}
use Rattle.model.specs.Calendar.{leap_year, year_days, month_days, Date, date, next_date, date_of, days_of_years, days_of_months, day_of}
use Rattle.model.specs.Years.{IsDate}

-- ---- one day on

module _ (y m d : ℕ) where
  pub in_month : d < month_days y m → next_date (date y m d) ≡ date y m (suc d)
  in_month h = rw (lt-ltb d (month_days y m) h)

  pub to_month : month_days y m ≤ d → m < 12 → next_date (date y m d) ≡ date y (suc m) 1
  to_month h k = rw (le-ltb d (month_days y m) h, lt-ltb m 12 k)

  pub to_year : month_days y m ≤ d → 12 ≤ m → next_date (date y m d) ≡ date (suc y) 1 1
  to_year h k = rw (le-ltb d (month_days y m) h, le-ltb m 12 k)

next : (n : ℕ) {d e : Date} → date_of n ≡ d → next_date d ≡ e → date_of (suc n) ≡ e
unfolding date_of
next n p q = ap next_date p ∙ q

-- ---- months: each has a day, and the twelve make a year

-- a rule for each month, by its twelve cases
pub months : (P : ℕ → Type 0) → P 1 × P 2 × P 3 × P 4 × P 5 × P 6 × P 7 × P 8 × P 9 × P 10 × P 11 × P 12 → (m : ℕ) → 1 ≤ m → m ≤ 12 → P m
months P h zero a z = absurd (omega arith)
months P h (suc zero) a z = h.0
months P h (suc (suc zero)) a z = h.1
months P h (suc (suc (suc zero))) a z = h.2
months P h (suc (suc (suc (suc zero)))) a z = h.3
months P h (suc (suc (suc (suc (suc zero))))) a z = h.4
months P h (suc (suc (suc (suc (suc (suc zero)))))) a z = h.5
months P h (suc (suc (suc (suc (suc (suc (suc zero))))))) a z = h.6
months P h (suc (suc (suc (suc (suc (suc (suc (suc zero)))))))) a z = h.7
months P h (suc (suc (suc (suc (suc (suc (suc (suc (suc zero))))))))) a z = h.8
months P h (suc (suc (suc (suc (suc (suc (suc (suc (suc (suc zero)))))))))) a z = h.9
months P h (suc (suc (suc (suc (suc (suc (suc (suc (suc (suc (suc zero))))))))))) a z = h.10
months P h (suc (suc (suc (suc (suc (suc (suc (suc (suc (suc (suc (suc zero)))))))))))) a z = h.11
months P h (suc (suc (suc (suc (suc (suc (suc (suc (suc (suc (suc (suc (suc m))))))))))))) a z = absurd (omega arith)

-- a month has a day, and no more than 31
pub days_between : (y m : ℕ) → 1 ≤ m → m ≤ 12 → (1 ≤ month_days y m) × (month_days y m ≤ 31)
days_between y = months (λ (m : ℕ). (1 ≤ month_days y m) × (month_days y m ≤ 31)) (
  (omega arith, omega arith),
  february (leap_year y),
  (omega arith, omega arith),
  (omega arith, omega arith),
  (omega arith, omega arith),
  (omega arith, omega arith),
  (omega arith, omega arith),
  (omega arith, omega arith),
  (omega arith, omega arith),
  (omega arith, omega arith),
  (omega arith, omega arith),
  (omega arith, omega arith),
)
  where
    february : (b : Bool) → (1 ≤ cond b 29 28) × (cond b 29 28 ≤ 31)
    february true = (omega arith, omega arith)
    february false = (omega arith, omega arith)

pub twelve : (y : ℕ) → days_of_months y 11 + 31 ≡ year_days y
unfolding days_of_months
twelve y = go (leap_year y)
  where
    go : (b : Bool) → 0 + 31 + cond b 29 28 + 31 + 30 + 31 + 30 + 31 + 31 + 30 + 31 + 30 + 31 ≡ cond b 366 365
    go true = refl
    go false = refl

-- ---- each date is reached on the day that is its number

-- k days on within a month
within : (n y m k : ℕ) → date_of n ≡ date y m 1 → k < month_days y m → date_of (n + k) ≡ date y m (suc k)
within n y m zero e h = ap date_of (omega arith) ∙ e
within n y m (suc k) e h = ap date_of (omega arith) ∙ next (n + k) (within n y m k e (omega arith)) (in_month y m (suc k) h)

-- the first of each month
firsts : (n y m : ℕ) → date_of n ≡ date y 1 1 → m < 12 → date_of (n + days_of_months y m) ≡ date y (suc m) 1
unfolding days_of_months
firsts n y zero e h = ap date_of (omega arith) ∙ e
firsts n y (suc m) e h =
    let some : 1 ≤ month_days y (suc m) = (days_between y (suc m) (omega arith) (omega arith)).0 in
    let last : date_of (n + days_of_months y m + (month_days y (suc m) - 1)) ≡ date y (suc m) (suc (month_days y (suc m) - 1))
    = within (n + days_of_months y m) y (suc m) (month_days y (suc m) - 1) (firsts n y m e (omega arith)) (omega (arith, some)) in
    let day : suc (n + days_of_months y m + (month_days y (suc m) - 1)) ≡ n + (days_of_months y m + month_days y (suc m)) = omega (arith, some) in
    ap date_of (sym day)
    ∙ next (n + days_of_months y m + (month_days y (suc m) - 1)) last (to_month y (suc m) (suc (month_days y (suc m) - 1)) (omega (arith, some)) h)

-- the first of each year
day_zero : date_of 0 ≡ date 2000 1 1
unfolding date_of
day_zero = refl

pub new_year : (k : ℕ) → date_of (days_of_years k) ≡ date (2000 + k) 1 1
unfolding days_of_years
new_year zero = day_zero
new_year (suc k) =
    let december : date_of (days_of_years k + days_of_months (2000 + k) 11) ≡ date (2000 + k) 12 1 =
    firsts (days_of_years k) (2000 + k) 11 (new_year k) (omega arith) in
    let end : ℕ = days_of_years k + days_of_months (2000 + k) 11 + 30 in
    let last : date_of end ≡ date (2000 + k) 12 31 = within (days_of_years k + days_of_months (2000 + k) 11) (2000 + k) 12 30 december (omega arith) in
    let day : suc end ≡ days_of_years k + year_days (2000 + k) = omega (arith, twelve (2000 + k)) in
    let up : suc (2000 + k) ≡ 2000 + suc k = omega arith in
    ap date_of (sym day) ∙ next end last (to_year (2000 + k) 12 31 (omega arith) (omega arith)) ∙ ap (λ (y : ℕ). date y 1 1) up

pub forth : (d : Date) → IsDate d → date_of (day_of d) ≡ d
forth d h =
    let year : 2000 + (d.year - 2000) ≡ d.year = omega (arith, h.since) in
    let first : date_of (days_of_years (d.year - 2000)) ≡ date d.year 1 1 =
    subst (λ (y : ℕ). date_of (days_of_years (d.year - 2000)) ≡ date y 1 1) year (new_year (d.year - 2000)) in
    let month : suc (d.month - 1) ≡ d.month = omega (arith, h.month) in
    let of_month : date_of (days_of_years (d.year - 2000) + days_of_months d.year (d.month - 1)) ≡ date d.year d.month 1
    = subst (λ (m : ℕ). date_of (days_of_years (d.year - 2000) + days_of_months d.year (d.month - 1)) ≡ date d.year m 1) month
    (firsts (days_of_years (d.year - 2000)) d.year (d.month - 1) first (omega (arith, h.month, h.months))) in
    let day : suc (d.day - 1) ≡ d.day = omega (arith, h.day) in
    within _ d.year d.month (d.day - 1) of_month (omega (arith, h.day, h.days)) ∙ ap (date d.year d.month) day

-- ---- each day has a date, and the date's number is the day

abbrev Dated : ℕ → Date → Type 0
Dated n d = IsDate d × (day_of d ≡ n)

-- the years before the next one
pub year_on : (y : ℕ) → 2000 ≤ y → days_of_years (suc y - 2000) ≡ days_of_years (y - 2000) + year_days y
unfolding days_of_years
year_on y h =
    let up : suc y - 2000 ≡ suc (y - 2000) = omega arith in
    let same : 2000 + (y - 2000) ≡ y = omega arith in
    ap days_of_years up ∙ ap (λ (y' : ℕ). days_of_years (y - 2000) + year_days y') same

on : (n : ℕ) (d : Date) → Dated n d → Dated (suc n) (next_date d)
unfolding days_of_months days_of_years
on n d (h, e) = go (dec_lt d.day (month_days d.year d.month)) (dec_lt d.month 12)
  where
    some : 1 ≤ d.day
    some = h.day

    -- the last day of a month
    last : (d.day < month_days d.year d.month → ⊥) → d.day ≡ month_days d.year d.month
    last l = let k : d.day ≤ month_days d.year d.month = h.days in omega (arith, l)

    -- with the months before this one counted up to it
    counted : days_of_months d.year d.month ≡ days_of_months d.year (d.month - 1) + month_days d.year d.month
    counted = subst (λ (m : ℕ). days_of_months d.year m ≡ days_of_months d.year (m - 1) + month_days d.year m) from_one (more (d.month - 1))
      where
        from_one : suc (d.month - 1) ≡ d.month
        from_one = let k : 1 ≤ d.month = h.month in omega arith

        more : (m : ℕ) → days_of_months d.year (suc m) ≡ days_of_months d.year (suc m - 1) + month_days d.year (suc m)
        more m = let same : m ≡ suc m - 1 = omega arith in ap (λ (k : ℕ). days_of_months d.year k + month_days d.year (suc m)) same

    go : Dec (d.day < month_days d.year d.month) → Dec (d.month < 12) → Dated (suc n) (next_date d)
    go (yes l) m = rw (in_month d.year d.month d.day l)
        (record { since = h.since; month = h.month; months = h.months; day = omega arith; days = l }, omega (arith, e, some))
    go (no l) (yes m) = rw (to_month d.year d.month d.day (omega (arith, l)) m) (
      record { since = h.since; month = omega arith; months = m; day = omega arith; days = (days_between d.year (suc d.month) (omega arith) m).0 },
      (
          let same : suc d.month - 1 ≡ d.month = omega arith in
          let k : days_of_months d.year (suc d.month - 1) ≡ days_of_months d.year d.month = ap (days_of_months d.year) same in
          omega (arith, e, some, k, counted, last l)
          ),
    )
    go (no l) (no m) = rw (to_year d.year d.month d.day (omega (arith, l)) (omega (arith, m))) (
      record { since = (let a : 2000 ≤ d.year = h.since in omega arith); month = omega arith; months = omega arith; day = omega arith; days = omega arith },
      (let december : d.month ≡ 12 = (let k : d.month ≤ 12 = h.months in omega (arith, m)) in
          let before : days_of_months d.year (d.month - 1) ≡ days_of_months d.year 11 = ap (λ (k : ℕ). days_of_months d.year (k - 1)) december in
          let days : month_days d.year d.month ≡ 31 = ap (month_days d.year) december in
          omega (arith, e, some, year_on d.year h.since, before, twelve d.year, last l, days)),
    )

pub dated : (n : ℕ) → Dated n (date_of n)
unfolding date_of days_of_years days_of_months
dated zero = (record { since = omega arith; month = omega arith; months = omega arith; day = omega arith; days = omega arith }, refl)
dated (suc n) = on n (date_of n) (dated n)
